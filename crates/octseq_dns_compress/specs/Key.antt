-- The order of targets: by the offset of what follows their label, by the digest of the label, and then by the label.
use Rattle.std.specs.Prelude.{◌≡◌, ℕ, ◌+◌, ◌-◌, ◌*◌, ◌<◌, ◌≤◌, List, ◌∷◌, length, take, drop, slice_index_or, nat_lt}
use Rattle.std.specs.Prelude.{if◌then◌else◌}
use Rattle.std.specs.Cmp.Lexicographic.{slice_cmp}
use Rattle.std.specs.Ordering.{nat_cmp}
use Rattle.std.specs.declared.cmp.Ordering.{Ordering}
use Rattle.octseq_dns_compress.specs.declared.table.Target.{Target}

-- the label at an offset, with its length octet
unfoldable pub label_at : List ℕ → ℕ → List ℕ
label_at octets at = take (1 + slice_index_or octets at 0) (drop at octets)

-- the label is whole
abbrev pub IsWholeLabel : List ℕ → ℕ → Type 0
IsWholeLabel octets at = at + (1 + slice_index_or octets at 0) ≤ length octets

-- a number of a label, given with its length octet: of its last three octets
unfoldable pub digest_of : List ℕ → ℕ
digest_of label =
    let last = length label in
    if nat_lt last 3 then 0
    else 240 * slice_index_or label (last - 3) 0 + 16 * slice_index_or label (last - 2) 0
    + slice_index_or label (last - 1) 0

-- a label after its digest
abbrev pub with_digest : List ℕ → List ℕ
with_digest label = digest_of label ∷ label

-- the key of a label, given with its length octet, that is followed by what is at an offset
abbrev pub key : ℕ → List ℕ → List ℕ
key next label = next ∷ with_digest label

-- the key of a target
abbrev pub key_of : List ℕ → Target → List ℕ
key_of octets target = key target.next (label_at octets target.at)

-- how a target compares with a key
abbrev pub key_cmp : List ℕ → Target → List ℕ → Ordering
key_cmp octets target key = slice_cmp nat_cmp (key_of octets target) key

-- Each target has a whole label and its digest, at an offset that a pointer can express and from which at most 126
-- pointers are followed, and comes before the targets after it.
pub record AreTargets (octets : List ℕ) (targets : List Target) : Type 0 where
  pub whole : (i : ℕ) (d : Target) → i < length targets → IsWholeLabel octets (slice_index_or targets i d).at
  pub near : (i : ℕ) (d : Target) → i < length targets → (slice_index_or targets i d).at ≤ 16383
  pub digested : (i : ℕ) (d : Target) → i < length targets
      → (slice_index_or targets i d).digest ≡ digest_of (label_at octets (slice_index_or targets i d).at)
  pub few : (i : ℕ) (d : Target) → i < length targets → (slice_index_or targets i d).pointers ≤ 126
  pub less : (i j : ℕ) (d : Target) → i < j → j < length targets
      → key_cmp octets (slice_index_or targets i d) (key_of octets (slice_index_or targets j d)) ≡ Ordering.Less

-- The targets before the position come before a key, and the others don't.
pub record IsPosition (octets : List ℕ) (targets : List Target) (key : List ℕ) (position : ℕ) : Type 0 where
  pub within : position ≤ length targets
  pub before : (k : ℕ) (d : Target) → k < position
      → key_cmp octets (slice_index_or targets k d) key ≡ Ordering.Less
  pub after : (k : ℕ) (d : Target) → position ≤ k → k < length targets
      → ¬ (key_cmp octets (slice_index_or targets k d) key ≡ Ordering.Less)

-- the target at an index has a key
pub record HasKeyAt (octets : List ℕ) (targets : List Target) (key : List ℕ) (index : ℕ) : Type 0 where
  pub within : index < length targets
  pub is : (d : Target) → key_of octets (slice_index_or targets index d) ≡ key

-- no target has the key
abbrev pub HasNoKey : List ℕ → List Target → List ℕ → Type 0
HasNoKey octets targets key = (index : ℕ) → ¬ HasKeyAt octets targets key index
