-- The progress of a lossy reading. Public contracts don't cite it.
use Rattle.std.specs.Prelude.{◌≡◌, ◌≢◌, ℕ, ◌<◌, ◌≤◌, ◌++◌, List, [], length, take, Option}
use Rattle.octseq_core.specs.Limit.{ExceedsLimit}
use Rattle.octseq_utf8.specs.Encoding.{IsEncoding}
use Rattle.octseq_utf8.specs.Parts.{IsBadPart, IsBeginning, Part, text}
use Rattle.octseq_utf8.specs.Reading.{parts_of}
use Rattle.octseq_text.specs.declared.completion.Completed.{Completed}
use Rattle.octseq_text.specs.declared.completion.Completed.TheVariants.{Incomplete, Character, Invalid}

-- Some parts of the octets were read, and a rest is left: whatever follows, the other parts are those of the rest and
-- of what follows.
pub record ReadsParts (octets rest : List ℕ) (parts : List Part) : Type 0 where
  pub whatever : (more : List ℕ) → parts_of (octets ++ more) ≡ parts ++ parts_of (rest ++ more)

-- Some parts of the octets were read, and their text was added.
pub record HasReadParts (octets rest old new : List ℕ) : Type 0 where
  pub parts : List Part
  pub reads : ReadsParts octets rest parts
  pub grown : new ≡ old ++ text parts

-- The text of parts that can be read from the octets exceeds the limit.
pub record IsTextTooLong (limit : Option ℕ) (octets old : List ℕ) : Type 0 where
  pub rest : List ℕ
  pub new : List ℕ
  pub read : HasReadParts octets rest old new
  pub past : ExceedsLimit limit (length new)

-- the end is empty, or a beginning
abbrev pub IsOpenEnd : List ℕ → Type 0
IsOpenEnd end = end ≢ [] → IsBeginning end

-- What a beginning is with the octets of a piece after it: still a beginning, with all of them; the encoding of a
-- character, with the first n of them; or a bad part, with the first n of them, whatever follows the piece.
abbrev pub Completes : List ℕ → List ℕ → Completed → Type 0
Completes begun piece (Incomplete end) = (end.content ≡ begun ++ piece) × IsBeginning end.content
Completes begun piece (Character encoding n) = (n ≤ length piece) × (encoding.content ≡ begun ++ take n piece)
    × IsEncoding encoding.content
Completes begun piece (Invalid n) = (n < length piece) × (n ≤ 3) × IsBadPart (begun ++ piece) (begun ++ take n piece)
