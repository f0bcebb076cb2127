-- The number of turns that reading a value takes: one for each peer, for each entry of a RIB and for each of its
-- attributes, and for each segment and prefix of an attribute's value.
use Rattle.std.specs.Prelude.{ℕ, ◌+◌, List, length}
use Rattle.std.specs.List.{sum_by}
use Rattle.octseq_bgp.specs.ReadTurns as bgp
use Rattle.octseq_mrt.specs.Record.{Value}
use Rattle.octseq_mrt.specs.Rib.{RibEntry, RibValue}

-- an entry: itself and its attributes
abbrev pub entry_turns : RibEntry → ℕ
entry_turns entry = 1 + length entry.attributes

abbrev pub entries_turns : List RibEntry → ℕ
entries_turns entries = sum_by entry_turns entries

-- a record: its peers, or its entries
abbrev pub record_turns : Value → ℕ
record_turns (Value.peer_index_table table) = length table.peers
record_turns (Value.rib rib) = entries_turns rib.entries
record_turns _ = 0

-- an attribute: as in a message
abbrev pub rib_value_turns : RibValue → ℕ
rib_value_turns (RibValue.next_hop octets) = 0
rib_value_turns (RibValue.value value) = bgp.value_turns value
