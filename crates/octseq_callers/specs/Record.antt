-- Records: a key in 2 octets, big-endian, and a value after its length of one octet.
use Rattle.std.specs.List.{AllByRecursion, flat_map}
use Rattle.std.specs.Prelude.{◌≡◌, ℕ, ◌<◌, List, ◌++◌, length}
use Rattle.octseq.specs.Code.{HasFront}
use Rattle.octseq.specs.Integer.{octets_be}
use Rattle.octseq.specs.Part.{part_of}

-- the octets of a record
abbrev pub record_of : ℕ → List ℕ → List ℕ
record_of key value = octets_be 2 key ++ part_of 1 value

-- the key and the length of the value fit their fields
abbrev pub IsRecord : ℕ × List ℕ → Type 0
IsRecord pair = (pair.0 < 65536) × (length pair.1 < 256)

-- the octets of records, one after another
abbrev pub records_of : List (ℕ × List ℕ) → List ℕ
records_of records = flat_map (λ pair. record_of pair.0 pair.1) records

-- the octets are these records
abbrev pub AreRecords : List ℕ → List (ℕ × List ℕ) → Type 0
AreRecords octets records = AllByRecursion IsRecord records × (octets ≡ records_of records)

-- a whole record is at the front
abbrev pub HasRecord : List ℕ → Type 0
HasRecord octets = HasFront IsRecord (λ pair. record_of pair.0 pair.1) octets
