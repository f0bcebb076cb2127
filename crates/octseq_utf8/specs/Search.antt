-- Where a search for the first fault is, and how many turns it took.
use Rattle.std.specs.Prelude.{ℕ, ◌+◌, ◌*◌, ◌/◌, ◌<◌, ◌-◌, ◌≤◌, ◌≡◌, List, length, take, drop, slice_index, count_by}
use Rattle.std.specs.Prelude.{nat_le}
use Rattle.std.specs.List.{All}
use Rattle.octseq_utf8.specs.Fault.{Fault, IsFault, fault_end}
use Rattle.octseq_utf8.specs.Text.{Spells, chars}

-- the number of octets that are 80 or more
abbrev pub high_count : List ℕ → ℕ
high_count octets = count_by (λ octet. nat_le 0x80 octet) octets

-- The octets before a place spell characters, in at most one turn for each, and a turn passes at most sixteen octets.
pub record IsAt (octets : List ℕ) (place old now : ℕ) : Type 0 where
  pub characters : List ℕ
  pub within : place ≤ length octets
  pub spelled : Spells (take place octets) characters
  pub turns : now ≤ old + length characters
  pub few : now ≤ old + place
  pub passed : place + 16 * old ≤ 16 * now

-- The same while lanes are used. Octets that are all below 80 are passed sixteen a turn. Otherwise up to fifteen of
-- them took a turn each before one of 80 or more; the encoding there has at least two such octets, which pay for them.
pub record IsSearching (octets : List ℕ) (place old now : ℕ) : Type 0 where
  pub at : IsAt octets place old now
  pub lanes : All (λ octet. octet < 0x80) octets → place + 16 * old ≡ 16 * now
  pub low : slice_index octets place < 0x80 → 16 * now ≤ 16 * old + place + 120 * high_count (take place octets)
  pub most : 16 * now ≤ 16 * old + place + 120 * high_count (take place octets) + 225

-- A search that began at one place is at another.
pub record IsAfter (octets : List ℕ) (from place old now : ℕ) : Type 0 where
  pub past : from ≤ place
  pub at : IsAt (drop from octets) (place - from) old now

-- A fault, found in at most one turn for it and one for each character before it, where a turn passes at most sixteen
-- octets.
pub record IsFaultAt (octets : List ℕ) (old now : ℕ) (fault : Fault) : Type 0 where
  pub is_fault : IsFault octets fault
  pub turns : now ≤ old + length (chars (take fault.place octets)) + 1
  pub passed : fault_end octets fault + 16 * old ≤ 16 * now

-- one turn for sixteen octets, eight for each octet of 80 or more, and fifteen
abbrev pub FewTurns : List ℕ → ℕ → ℕ → Type 0
FewTurns octets old now = now ≤ old + length octets / 16 + 8 * high_count octets + 15

-- The same if lanes were used.
pub record IsFound (octets : List ℕ) (old now : ℕ) (fault : Fault) : Type 0 where
  pub at : IsFaultAt octets old now fault
  pub few : FewTurns octets old now
