use Rattle.std.proofs.Common.{◌≡◌, ◌++◌, [], take, rules, refl, append-nil, subst}
use Rattle.octseq.specs.Integer.{octets_be}
use Rattle.octseq.proofs.Written.{written_2, written_4}
use Rattle.octseq_mrt.specs.Joined.{AppendsBody}
use Rattle.octseq_mrt.specs.Parsed.{bgp4mp_of}
use Rattle.octseq_mrt.specs.Written.{bgp4mp_octets}
use Rattle.octseq_mrt.proofs.bgp4mp.Bgp4Mp.append_with.Goals as goal

pub returns-clause-appends : goal.returns-clause-appends
returns-clause-appends g c =
    let b = bgp4mp_of c.args.self.now in
    let time = c.optional_octets-time_len in
    let peer = c.address_octets-peer_len in
    let local = c.address_octets-local_len in
    let peer_asn = c.asn_octets.ensures b.peer_asn (search (rules, written_4)) in
    let local_asn = c.asn_octets-2.ensures b.local_asn (search (rules, written_4)) in
    let interface : c.to_be_bytes.result ≡ octets_be 2 b.interface = search (rules, written_2) in
    let family : c.to_be_bytes-2.result ≡ octets_be 2 c.family_number.result = search (rules, written_2) in
    let same : take time.result.1 time.result.0 ++ (c.asn_octets.result.now ++ (c.asn_octets-2.result.now
    ++ (c.to_be_bytes.result ++ (c.to_be_bytes-2.result ++ (take peer.result.1 peer.result.0
    ++ (take local.result.1 local.result.0 ++ (c.args.event.now ++ []))))))) ≡ bgp4mp_octets c.args.subtype b =
    rw (time.ensures.octets, peer_asn, local_asn, interface, family, c.family_number.ensures, peer.ensures.octets)
    (rw (local.ensures.octets, c.has_wide_asns-wide.ensures, append-nil c.args.event.now, c.requires.event) refl) in
    let done = c.append_parts.ensures in
    subst (λ octets. AppendsBody g.B.AsOctets.limit g.B.AsOctets.asks c.append_parts.result octets
    (g.B.AsOctets.content c.args.builder.now) (g.B.AsOctets.content c.append_parts.new.builder)) same
    (record { ok = done.ok; few = done.few; err = done.err; short = done.short; memory = done.memory })
