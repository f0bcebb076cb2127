-- The peer index table: RFC 6396, 4.3.1.
use Rattle.std.specs.Prelude.{◌/◌, ◌%◌, Bool, if◌then◌else◌, nat_eq, ℕ, List}
use Rattle.octseq.specs.Window.{Window}
use Rattle.octseq_format.specs.Counted.{Times}
use Rattle.octseq_format.specs.Laws.{Relation}
use Rattle.octseq_format.specs.Pair.{◌then◌}
use Rattle.octseq_bgp.specs.Parts.{IsNumber, IsCounted, ◌deciding◌}
use Rattle.octseq_bgp.specs.Fills.{Whole}
use Rattle.octseq_bgp.specs.Path.{asn_size}
use Rattle.octseq_bgp.specs.declared.family.Afi.{Afi}
use Rattle.octseq_bgp.specs.declared.family.Afi.TheVariants as addresses
use Rattle.octseq_mrt.specs.Address.{Address, IsAddress}

pub record Peer : Type 0 where
  pub peer_type : ℕ
  pub bgp_id : ℕ
  pub addr : Address
  pub asn : ℕ

-- the family of a peer's address: IPv6 if its type has the bit 1
abbrev pub peer_family : ℕ → Afi
peer_family kind = if nat_eq (kind % 2) 1 then addresses.Ipv6 else addresses.Ipv4

-- its AS number has four octets if its type has the bit 2
abbrev pub has_wide_asn : ℕ → Bool
has_wide_asn kind = nat_eq (kind / 2 % 2) 1

-- a type, an identifier, an address and an AS number
abbrev pub IsPeer : Relation Peer
IsPeer w p v = (IsNumber 1 deciding (λ kind. IsNumber 4 then IsAddress (peer_family kind)
    then IsNumber (asn_size (has_wide_asn kind)))) w (p.peer_type, (p.bgp_id, (p.addr, p.asn))) v

pub record PeerIndexTable : Type 0 where
  pub collector_bgp_id : ℕ
  pub view_name : Window
  pub peers : List Peer

-- the identifier of the collector, a name after its length, and as many peers as a count says
abbrev pub IsTable : Relation (ℕ × (Window × List Peer))
IsTable = IsNumber 4 then IsCounted 2 then Times 2 IsPeer

abbrev pub IsPeerIndexTable : Window → PeerIndexTable → Type 0
IsPeerIndexTable w t = Whole IsTable w (t.collector_bgp_id, (t.view_name, t.peers))
