-- Text of octets that comes in runs, and what a reader of it says.
use Rattle.std.specs.Prelude.{◌≡◌, ℕ, ◌+◌, Bool, true, List, [], ◌∷◌, ◌++◌, length, Option, Result, IfOk, OnErr}
use Rattle.std.specs.Prelude.{MatchOption, option_to_list}
use Rattle.octseq.proofs.WrittenBack.{AreOctets}
use Rattle.octseq.specs.Limit.{ExceedsLimit}
use Rattle.octseq.specs.Refusal.{IsMalformed, IsShort, IsMemory, write_error}
use Rattle.octseq.specs.declared.error.WriteError.{WriteError}

-- `Is text octets`: the text is one of these octets. No such text begins with `front`.
abbrev pub NoText : (List ℕ → List ℕ → Type 0) → List ℕ → Type 0
NoText Is front = (octets more : List ℕ) → AreOctets octets → ¬ (Is (front ++ more) octets)

-- `HasRead reader text octets`: the reader has read the text so far, and made these octets of it. Between two states it
-- has read the run, and made the octets `more` of it.
abbrev pub ReadsSoFar : {S : Type 0} → (S → List ℕ → List ℕ → Type 0) → S → S → List ℕ → List ℕ → Type 0
ReadsSoFar HasRead before after run more = (text octets : List ℕ) → HasRead before text octets
    → HasRead after (text ++ run) (octets ++ more)

-- One more octet of text is read, with the octet that it makes whole if there is one, or no text goes on with it.
abbrev pub TakesOctet : {S : Type 0} → (List ℕ → List ℕ → Type 0) → (S → List ℕ → List ℕ → Type 0) → S → ℕ
    → Option (S × Option ℕ) → Type 0
TakesOctet Is HasRead reader octet result = MatchOption result
    ((text octets : List ℕ) → HasRead reader text octets → NoText Is (text ++ octet ∷ []))
    (λ next. ReadsSoFar HasRead reader next.0 (octet ∷ []) (option_to_list next.1))

-- A run is read, and the octets that it makes whole are appended to a content.
pub record Feeds {S : Type 0} (Is : List ℕ → List ℕ → Type 0) (HasRead : S → List ℕ → List ℕ → Type 0)
    (limit : Option ℕ) (asks : Bool) (result : Result S WriteError) (reader : S) (run old new : List ℕ) : Type 0 where
  -- it is read
  pub ok : IfOk result (λ after. (more : List ℕ) × (new ≡ old ++ more) × ReadsSoFar HasRead reader after run more)
  -- no text goes on so
  pub malformed : IsMalformed write_error result → (text octets : List ℕ) → HasRead reader text octets
      → NoText Is (text ++ run)
  -- the octets of a front of the run exceed the limit of the content
  pub short : IsShort write_error result → (front rest more : List ℕ) × (after : S) × (run ≡ front ++ rest)
      × ReadsSoFar HasRead reader after front more × ExceedsLimit limit (length old + length more)
  pub memory : IsMemory write_error result → asks ≡ true
  -- what was there stays
  pub kept : OnErr result ((more : List ℕ) × (new ≡ old ++ more))
