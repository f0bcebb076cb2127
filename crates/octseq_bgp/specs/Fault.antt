-- The faults of an UPDATE: each attribute that isn't accepted, and a missing one.
use Rattle.std.specs.Prelude.{◌≡◌, ◌↔◌, ◌<◌, max, Bool, true, false, ℕ, List, [], ◌∷◌, IsTrue, get_or}
use Rattle.std.specs.Prelude.{Option, Some, None, if◌then◌else◌, nat_eq}
use Rattle.octseq_bgp.specs.Handling.{HasType, IsRank, LacksMandatory}
use Rattle.octseq_bgp.specs.Parts.{Attribute, type_of}
use Rattle.octseq_bgp.specs.Update.{Update}
use Rattle.octseq_bgp.specs.declared.session.SessionConfig.{SessionConfig}

-- A fault: the attribute, or none if one is missing, and how severe it is.
pub record AttributeFault : Type 0 where
  pub attribute : Option Attribute
  pub rank : ℕ

-- a fault before others, if it isn't accepted; otherwise the others
abbrev pub fault_before : Option Attribute → ℕ → List AttributeFault → List AttributeFault
fault_before attribute n row = if nat_eq n 0 then row else record { attribute = attribute; rank = n } ∷ row

-- The faults of a list of attributes, given those before them, followed by one of rank `missing` for a missing one.
abbrev pub AreFaults : SessionConfig → Bool → List Attribute → List Attribute → ℕ → List AttributeFault → Type 0
AreFaults s external before [] missing row = row ≡ fault_before None missing []
AreFaults s external before (e ∷ more) missing row =
    (again : Bool) × (IsTrue again ↔ HasType before (type_of e)) × (n : ℕ) × IsRank s external again e n
    × (rest : List AttributeFault) × AreFaults s external (e ∷ before) more missing rest
    × (row ≡ fault_before (Some e) n rest)

-- The faults of an UPDATE.
pub record AreFaultsOf (external : Bool) (u : Update) (row : List AttributeFault) : Type 0 where
  pub lacks_mandatory : Bool
  pub is_missing : IsTrue lacks_mandatory ↔ LacksMandatory u.session u
  pub are : AreFaults u.session external [] u.attributes (if lacks_mandatory then 2 else 0) row

-- the worst of them
abbrev pub worst_of : List AttributeFault → ℕ
worst_of [] = 0
worst_of (f ∷ more) = max f.rank (worst_of more)

-- a table marks the types of a list
abbrev pub Marks : List Bool → List Attribute → Type 0
Marks seen before = (k : ℕ) → k < 256 → (get_or seen k false ≡ true) ↔ HasType before k
