-- Bad parts replaced, chunk by chunk.
use Rattle.std.proofs.Common.{◌≡◌, ℕ, Option, List, [], ◌++◌, length, refl, ap}
use Rattle.std.proofs.Common.{sym, ◌∙◌, arith, append_assoc, length-append}
use Rattle.std.proofs.lemmas.List.{append-nil}
use Rattle.octseq_core.specs.Limit.{ExceedsLimit}
use Rattle.octseq_core.proofs.Limits.{past_more}
use Rattle.octseq_utf8.specs.Chunk.{Chunk, IsFirstChunk, mark_of, chunk_text}
use Rattle.octseq_utf8.specs.Encoding.{encoding_of}
use Rattle.octseq_utf8.specs.Parts.{StartsWith, text_with}
use Rattle.octseq_utf8.specs.Reading.{parts_of}
use Rattle.octseq_utf8.proofs.ByChunk.{grown}
use Rattle.octseq_utf8.proofs.Joins.{text_spelled}
use Rattle.octseq_utf8.proofs.Spelling.{spells_nothing}

-- what one chunk adds
pub added : (w : ℕ) (content made valid invalid mark : List ℕ) → made ≡ content ++ (valid ++ mark_of mark invalid)
    → mark ≡ encoding_of w
    → made ≡ content ++ (valid ++ mark_of (encoding_of w) invalid)
added w content made valid invalid mark e m = e ∙ ap (λ y. content ++ (valid ++ mark_of y invalid)) m

-- if the limit is exceeded with this chunk, it is with later text too
pub chunk_short : (limit : Option ℕ) (w : ℕ) (content valid invalid mark later : List ℕ) → mark ≡ encoding_of w
    → ExceedsLimit limit (length (content ++ (valid ++ mark_of mark invalid)))
    → ExceedsLimit limit (length (content ++ ((valid ++ mark_of (encoding_of w) invalid) ++ later)))
chunk_short limit w content valid invalid mark later m past =
    let one : List ℕ = valid ++ mark_of (encoding_of w) invalid in
    past_more limit _ _
    (omega (
      arith,
      ap (λ y. length (content ++ (valid ++ mark_of y invalid))) m,
      length-append content one,
      length-append content (one ++ later),
      length-append one later,
    ))
    past

-- a front of a front is a front
pub front_then : (a b c : List ℕ) → StartsWith a b → StartsWith b c → StartsWith a c
front_then a b c f g = (f.0 ++ g.0, g.1 ∙ ap (λ y. y ++ g.0) f.1 ∙ append_assoc a f.0 g.0)

-- a text with one more chunk is no longer than the whole
pub grown_short : (limit : Option ℕ) (w : ℕ) (x made all : List ℕ) (chunk : Chunk) (after mark : List ℕ)
    → made ++ text_with w (parts_of x) ≡ all → IsFirstChunk x chunk after
    → mark ≡ encoding_of w → ExceedsLimit limit (length (made ++ (chunk.valid ++ mark_of mark chunk.invalid)))
    → ExceedsLimit limit (length all)
grown_short limit w x made all chunk after mark before c m past =
    let whole = grown w x made (made ++ chunk_text w chunk) all chunk after before c refl in
    past_more limit _ _
    (omega (
      arith,
      ap (λ y. length (made ++ (chunk.valid ++ mark_of y chunk.invalid))) m,
      ap length whole,
      length-append (made ++ chunk_text w chunk) (text_with w (parts_of after)),
    ))
    past

-- an empty text adds nothing
pub nothing_added : (w : ℕ) (made x : List ℕ) → x ≡ [] → made ≡ made ++ text_with w (parts_of x)
nothing_added w made x none =
    sym (append-nil made)
    ∙ ap (λ y. made ++ y) (sym (ap (λ y. text_with w (parts_of y)) none ∙ text_spelled w spells_nothing))
