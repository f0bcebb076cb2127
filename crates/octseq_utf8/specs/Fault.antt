-- Where octets stop being well formed.
use Rattle.std.specs.Prelude.{◌≡◌, ℕ, ◌+◌, ◌-◌, ◌^◌, ◌⊎◌, min, List, [], ◌++◌, length}
use Rattle.std.specs.Prelude.{codes, Option, Some, None, unwrap_or, Bool, nat_eq}
use Rattle.std.specs.Option.{option_eq}
use Rattle.std.specs.Fmt.{decimal}
use Rattle.std.specs.Ordering.{on, eq_of_both}
use Rattle.octseq_utf8.specs.Parts.{IsBeginning, IsBadPart}
use Rattle.octseq_utf8.specs.Text.{IsWellFormed}

-- The number of well-formed octets before the fault, and its size in octets, or none if the octets end within a
-- character.
pub record Fault : Type 0 where
  pub place : ℕ
  pub size : Option ℕ

-- The size of a fault: none if the bad part is a beginning that reaches the end, otherwise the size of the bad part.
abbrev pub IsFaultSize : List ℕ → List ℕ → Option ℕ → Type 0
IsFaultSize bad after size = ((size ≡ None) × IsBeginning bad × (after ≡ []))
    ⊎ ((size ≡ Some (length bad)) × ¬ (IsBeginning bad × (after ≡ [])))

-- The fault of octets that aren't well formed: the bad part after the encodings at their front.
pub record IsFault (octets : List ℕ) (fault : Fault) : Type 0 where
  pub before : List ℕ
  pub bad : List ℕ
  pub after : List ℕ
  pub whole : octets ≡ before ++ (bad ++ after)
  pub good : IsWellFormed before
  pub first : IsBadPart (bad ++ after) bad
  pub place : fault.place ≡ length before
  pub size : IsFaultSize bad after fault.size

-- Where the bad part of the fault ends.
abbrev pub fault_end : List ℕ → Fault → ℕ
fault_end octets fault = fault.place + unwrap_or fault.size (length octets - fault.place)

-- The fault as seen in the octets from a place on.
abbrev pub fault_from : ℕ → Fault → Fault
fault_from from fault = record { place = fault.place - from; size = fault.size }

-- A number in 64 bits: one past the greatest saturates.
abbrev pub saturated : ℕ → ℕ
saturated n = min n (2 ^ 64 - 1)

-- The fault if n more octets come first, with its place in 64 bits.
abbrev pub fault_after : ℕ → Fault → Fault
fault_after n fault = record { place = saturated (n + fault.place); size = fault.size }

-- What a fault prints.
abbrev pub text_of_size : ℕ → Option ℕ → List ℕ
text_of_size place (Some size) =
    codes "invalid utf-8 sequence of " ++ (decimal size ++ (codes " bytes from index " ++ decimal place))
text_of_size place None = codes "incomplete utf-8 byte sequence from index " ++ decimal place

abbrev pub fault_text : Fault → List ℕ
fault_text fault = text_of_size fault.place fault.size

-- whether two faults are the same
abbrev pub fault_eq : Fault → Fault → Bool
fault_eq = eq_of_both (on (λ fault. fault.place) nat_eq) (on (λ fault. fault.size) (option_eq nat_eq))
