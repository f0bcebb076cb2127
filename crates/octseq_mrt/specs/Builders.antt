-- What contracts see of tables and RIBs that are being written.
use Rattle.std.specs.Prelude.{Bool}
use Rattle.octseq.specs.declared.AsOctets.{Ghosts}
use Rattle.octseq_bgp.specs.declared.family.AfiSafiType.{AfiSafiType}
use Rattle.octseq_mrt.specs.Written.{PeerTable, Routes}
use Rattle.octseq_mrt.specs.declared.builder.peers.PeerTableBuilder.{PeerTableBuilder}
use Rattle.octseq_mrt.specs.declared.builder.rib.RibBuilder.{RibBuilder}

-- what a table says so far
abbrev pub table_in : {B : Type 0} {g : Ghosts B} → PeerTableBuilder B g → PeerTable
table_in m = m.table.0

-- the builder of its octets
abbrev pub table_octets : {B : Type 0} {g : Ghosts B} → PeerTableBuilder B g → B
table_octets m = m.octets

-- what a RIB says so far
abbrev pub rib_in : {B : Type 0} {g : Ghosts B} → RibBuilder B g → Routes
rib_in m = m.rib.0

-- the builder of its octets
abbrev pub rib_builder : {B : Type 0} {g : Ghosts B} → RibBuilder B g → B
rib_builder m = m.octets

-- its address family
abbrev pub rib_family : {B : Type 0} {g : Ghosts B} → RibBuilder B g → AfiSafiType
rib_family m = m.family

-- its entries have path ids
abbrev pub has_paths : {B : Type 0} {g : Ghosts B} → RibBuilder B g → Bool
has_paths m = m.paths
