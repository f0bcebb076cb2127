-- The targets in a message, and the names that they belong to.
use Rattle.std.specs.Prelude.{◌≡◌, ℕ, ◌<◌, ◌≤◌, Some, None, List, [], ◌∷◌, length, slice_index_or, IsTrue}
use Rattle.std.specs.FinMap.{get, len}
use Rattle.octseq_dns_compress.specs.Key.{label_at, digest_of, IsWholeLabel, AreTargets}
use Rattle.octseq_dns_compress.specs.Names.{Names, Place, at_or_zero, is_there, prefixed}
use Rattle.octseq_dns_compress.specs.declared.table.Target.{Target}

-- the offset of labels, or 0 if they are the root or have no place
abbrev pub name_offset : Names → List (List ℕ) → ℕ
name_offset names labels = at_or_zero (get names labels)

-- the target of a label at a place, followed by `rest`
abbrev pub target_of : Names → List ℕ → List (List ℕ) → Place → Target
target_of names label rest place = record {
  at = place.at;
  next = name_offset names rest;
  pointers = place.pointers;
  digest = digest_of (prefixed label);
}

-- A target belongs to one of the names: to a label and those that follow it.
pub record IsOfName (names : Names) (target : Target) : Type 0 where
  pub label : List ℕ
  pub rest : List (List ℕ)
  pub place : Place
  pub there : get names (label ∷ rest) ≡ Some place
  pub target_is : target ≡ target_of names label rest place

-- A name has a target: its first label is at its place, and what follows it is there too.
pub record HasTarget (octets : List ℕ) (targets : List Target) (names : Names) (label : List ℕ)
    (rest : List (List ℕ)) (place : Place) : Type 0 where
  pub label_is : label_at octets place.at ≡ length label ∷ label
  pub whole : IsWholeLabel octets place.at
  pub after_header : 12 ≤ place.at
  pub more : IsTrue (is_there names rest)
  pub index : ℕ
  pub within : index < length targets
  pub target_is : (d : Target) → slice_index_or targets index d ≡ target_of names label rest place

-- The targets are those of the names, no two of which are at one offset.
pub record TableMatches (octets : List ℕ) (targets : List Target) (names : Names) : Type 0 where
  pub targets_are : AreTargets octets targets
  pub count : length targets ≡ len names
  pub root : get names [] ≡ None
  pub held : (index : ℕ) (d : Target) → index < length targets
      → IsOfName names (slice_index_or targets index d)
  pub all : (label : List ℕ) (rest : List (List ℕ)) (place : Place) → get names (label ∷ rest) ≡ Some place
      → HasTarget octets targets names label rest place
  pub once : (labels others : List (List ℕ)) (place other : Place) → get names labels ≡ Some place
      → get names others ≡ Some other → place.at ≡ other.at → labels ≡ others
