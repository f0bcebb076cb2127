-- How far a text was read.
use Rattle.std.specs.Prelude.{◌≡◌, ℕ, ◌+◌, Bool, true, Option, List, ◌++◌, length, Result, OnOk, IsErrOf}
use Rattle.octseq.specs.Limit.{ExceedsLimit}
use Rattle.octseq_dns_scan.specs.Word.{AreWords}
use Rattle.octseq_dns_text.specs.Output.{HoldsOutput}
use Rattle.octseq_dns_text.specs.Scans.{BeginsWithWords, IsWordFault}
use Rattle.octseq_dns_text.specs.declared.error.ScanError.{ScanError}

-- A text begins with words, of which these octets were made, and this is left of it. `IsFront front made` says that the
-- octets are those of the words.
pub record Reached (IsFront : List (List ℕ) → List ℕ → Type 0) (ahead : List ℕ) (start : ℕ) (limit : Option ℕ)
    (base rest : List ℕ) (place : ℕ) (full : Bool) (content : List ℕ) : Type 0 where
  pub front : List (List ℕ)
  pub made : List ℕ
  pub begins : BeginsWithWords front ahead rest
  pub same_end : place + length rest ≡ start + length ahead
  pub is_front : IsFront front made
  pub holds : HoldsOutput limit base made full content

-- What a reader says of a text, as `Scans` says it, but for the content after a refusal.
pub record ReadsText (Is : List (List ℕ) → List ℕ → Type 0) (limit : Option ℕ) (asks : Bool)
    (result : Result (Unit {0}) ScanError) (ahead : List ℕ) (start : ℕ) (old new : List ℕ) : Type 0 where
  pub ok : OnOk result ((words : List (List ℕ)) × (octets : List ℕ) × AreWords words ahead × Is words octets
      × (new ≡ old ++ octets))
  pub fault : (offset : ℕ) → IsErrOf result (ScanError.Malformed offset) → IsWordFault Is ahead start offset
  pub short : IsErrOf result ScanError.Short → (words : List (List ℕ)) × (octets : List ℕ) × AreWords words ahead
      × Is words octets × ExceedsLimit limit (length old + length octets)
  pub memory : IsErrOf result ScanError.Memory → asks ≡ true
