-- The labels of a name that are written in a message, after the names that it had.
use Rattle.std.specs.Prelude.{◌≡◌, ℕ, ◌<◌, ◌≤◌, List, Some, ◌++◌, length, take}
use Rattle.std.specs.FinMap.{get}
use Rattle.octseq_dns_compress.specs.Names.{Names, Place, labels_wire}

-- The first labels, as many as are written, are at `start`, after the header and after every name that was there.
pub record AreLabelsWritten (octets : List ℕ) (names : Names) (start : ℕ) (labels : List (List ℕ)) (written : ℕ)
    : Type 0 where
  pub front : List ℕ
  pub back : List ℕ
  pub octets_are : octets ≡ front ++ (labels_wire (take written labels) ++ back)
  pub start_is : start ≡ length front
  pub after_header : 12 ≤ start
  pub after_names : (others : List (List ℕ)) (place : Place) → get names others ≡ Some place → place.at < start
