-- How a name ends among names that are kept.
use Rattle.std.specs.Prelude.{◌≡◌, ℕ, ◌-◌, ◌<◌, None, List, take, drop, IsTrue}
use Rattle.std.specs.FinMap.{get}
use Rattle.octseq_dns_compress.specs.TableMatches.{name_offset}
use Rattle.octseq_dns_compress.specs.Key.{key, IsPosition}
use Rattle.octseq_dns_compress.specs.Names.{Names, is_there, first_labels, label_no, last_place, pointers_from}
use Rattle.octseq_dns_compress.specs.Names.{prefixed}
use Rattle.octseq_dns_compress.specs.declared.search.SuffixMatch.{SuffixMatch}
use Rattle.octseq_dns_compress.specs.declared.table.Target.{Target}

-- Labels are there, at the offset `next`, and `pointers` pointers are followed from a label that is written before
-- them.
pub record IsSuffixAt (names : Names) (labels : List (List ℕ)) (next pointers : ℕ) : Type 0 where
  pub there : IsTrue (is_there names labels)
  pub next_is : next ≡ name_offset names labels
  pub pointers_are : pointers ≡ pointers_from (get names labels)

-- The labels that are written are those before the ones that are there. They aren't there, and the target of the last
-- of them belongs at a position.
pub record IsSuffixMatch (octets : List ℕ) (targets : List Target) (names : Names) (labels : List (List ℕ))
    (ending : SuffixMatch) : Type 0 where
  pub first : take ending.written labels ≡ first_labels names labels
  pub last : get names (drop ending.written labels) ≡ last_place names labels
  pub ends : IsSuffixAt names (drop ending.written labels) ending.next ending.pointers
  pub new : (k : ℕ) → k < ending.written → get names (drop k labels) ≡ None
  pub position : 0 < ending.written
      → IsPosition octets targets (key ending.next (prefixed (label_no labels (ending.written - 1)))) ending.position
