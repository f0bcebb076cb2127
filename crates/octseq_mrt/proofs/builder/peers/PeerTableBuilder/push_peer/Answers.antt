use Rattle.std.proofs.Common.{◌≡◌, rules, refl, append-nil}
use Rattle.octseq.specs.Integer.{octets_be}
use Rattle.octseq.proofs.Written.{written_1, written_4}
use Rattle.octseq_mrt.proofs.builder.peers.PeerTableBuilder.push_peer.Goals as goal

pub push_parts-requires-clause-octets : goal.push_parts-requires-clause-octets
push_parts-requires-clause-octets g c =
    let p = c.args.peer.now in
    let kind : c.to_be_bytes.result ≡ octets_be 1 p.peer_type = search (rules, written_1) in
    let id : c.to_be_bytes-2.result ≡ octets_be 4 p.bgp_id = search (rules, written_4) in
    let asn = c.asn_octets.ensures p.asn.0 (search (rules, written_4)) in
    rw (
      kind,
      id,
      c.address_octets-addr_len.ensures.octets,
      asn,
      c.has_wide_asn.ensures,
      append-nil (octets_be _ p.asn.0),
    ) refl
