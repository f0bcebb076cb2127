-- Names that are at their places in a message, whatever follows it.
use Rattle.std.specs.Prelude.{◌≡◌, ℕ, ◌≤◌, Some, List, ◌++◌, length, drop}
use Rattle.std.specs.FinMap.{get}
use Rattle.octseq.specs.Window.{Window, at, whole}
use Rattle.octseq_dns_compress.specs.Names.{Names, Place}
use Rattle.octseq_dns_compress.specs.State.{State}
use Rattle.octseq_dns_name.specs.Name.{HasLabels}

-- Labels are at an offset after the header of a message, through this many pointers, whatever the header says and
-- whatever follows the message.
abbrev pub AreAt : List ℕ → ℕ → List (List ℕ) → ℕ → Type 0
AreAt octets place labels pointers = (12 ≤ place) × ((header more : List ℕ) → length header ≡ 12
    → (v : Window) × HasLabels place (at place (whole (header ++ (drop 12 octets ++ more)))) labels pointers v)

-- Each name is at its place, which a pointer can express and from which at most 126 pointers are followed.
pub record AreNamed (octets : List ℕ) (names : Names) : Type 0 where
  pub there : (labels : List (List ℕ)) (place : Place) → get names labels ≡ Some place
      → AreAt octets place.at labels place.pointers
  pub near : (labels : List (List ℕ)) (place : Place) → get names labels ≡ Some place → place.at ≤ 16383
  pub few : (labels : List (List ℕ)) (place : Place) → get names labels ≡ Some place → place.pointers ≤ 126

-- A message has a header, and its names are at their places.
pub record IsWellNamed (s : State) : Type 0 where
  pub headed : 12 ≤ length s.octets
  pub named : AreNamed s.octets s.names
