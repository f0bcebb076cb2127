-- The text of a question: its name, its class and its type.
use Rattle.std.specs.Prelude.{◌≡◌, ℕ, None, List, []}
use Rattle.octseq_dns_compose.specs.RecordText.{IsOwnerWord, IsClassWord, IsRecordTypeWord}
use Rattle.octseq_dns_compose.specs.Take.{Then}

-- no words
abbrev pub IsOver : List (List ℕ) → Type 0
IsOver words = words ≡ []

abbrev pub IsQuestionText : List (List ℕ) → ℕ → ℕ → List (List ℕ) → Type 0
IsQuestionText labels class rtype =
    Then (IsOwnerWord None labels) (Then (IsClassWord class) (Then (IsRecordTypeWord rtype) IsOver))

-- of any question, which has no octets
abbrev pub IsAnyQuestion : List (List ℕ) → List ℕ → Type 0
IsAnyQuestion words octets = (labels : List (List ℕ)) × (class rtype : ℕ) × IsQuestionText labels class rtype words
