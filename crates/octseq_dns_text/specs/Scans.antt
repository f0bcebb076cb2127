-- Texts that are read word by word into octets, and what a reader of them says. `Is words octets`: the words are a text
-- of these octets.
use Rattle.std.specs.Prelude.{◌≡◌, ℕ, ◌+◌, ◌≤◌, Bool, true, Option, List, [], ◌∷◌, ◌++◌, length}
use Rattle.std.specs.Prelude.{Result, OnOk, OnErr, IsErrOf}
use Rattle.octseq.specs.Limit.{ExceedsLimit}
use Rattle.octseq_dns_scan.specs.Word.{TakesWord, AreWords}
use Rattle.octseq_dns_text.specs.declared.error.ScanError.{ScanError}

-- some text begins with these words
abbrev pub Goes : (List (List ℕ) → List ℕ → Type 0) → List (List ℕ) → Type 0
Goes Is front = (more : List (List ℕ)) × (octets : List ℕ) × Is (front ++ more) octets

-- there are one or more words
abbrev pub AreSome : (List (List ℕ) → List ℕ → Type 0) → List (List ℕ) → List ℕ → Type 0
AreSome Is words octets = (1 ≤ length words) × Is words octets

-- a text is these words with the blanks after each, followed by what is left
abbrev pub BeginsWithWords : List (List ℕ) → List ℕ → List ℕ → Type 0
BeginsWithWords [] text rest = text ≡ rest
BeginsWithWords (word ∷ words) text rest =
    (after : List ℕ) × TakesWord word text after × BeginsWithWords words after rest

-- The first word of the text that isn't what has to come there is at this offset. The end of the text counts as a word,
-- and so does what is no word at all. `ahead` is what is left of the text, and begins at `start`.
pub record IsWordFault (Is : List (List ℕ) → List ℕ → Type 0) (ahead : List ℕ) (start offset : ℕ) : Type 0 where
  -- the words before it, and what begins with it
  pub front : List (List ℕ)
  pub rest : List ℕ
  pub begins : BeginsWithWords front ahead rest
  pub place : offset + length rest ≡ start + length ahead
  -- some text begins with the words before it
  pub goes : Goes Is front
  -- none goes on with it
  pub stops : (word left : List ℕ) → TakesWord word rest left → ¬ Goes Is (front ++ word ∷ [])
  -- none ends there, if it is the end
  pub ends : rest ≡ [] → (octets : List ℕ) → ¬ Is front octets

-- What is left of a text is read into octets, which are appended to a content. So, memory aside, it is refused as
-- malformed exactly if it is no text, and as short exactly if the content would exceed its limit.
pub record Scans (Is : List (List ℕ) → List ℕ → Type 0) (limit : Option ℕ) (asks : Bool)
    (result : Result (Unit {0}) ScanError) (ahead : List ℕ) (start : ℕ) (old new : List ℕ) : Type 0 where
  -- it is read
  pub ok : OnOk result ((words : List (List ℕ)) × (octets : List ℕ) × AreWords words ahead × Is words octets
      × (new ≡ old ++ octets))
  -- it is no text
  pub fault : (offset : ℕ) → IsErrOf result (ScanError.Malformed offset) → IsWordFault Is ahead start offset
  -- it is a text, with whose octets the content would exceed its limit
  pub short : IsErrOf result ScanError.Short → (words : List (List ℕ)) × (octets : List ℕ) × AreWords words ahead
      × Is words octets × ExceedsLimit limit (length old + length octets)
  pub memory : IsErrOf result ScanError.Memory → asks ≡ true
  -- the content is then unchanged
  pub kept : OnErr result (new ≡ old)
