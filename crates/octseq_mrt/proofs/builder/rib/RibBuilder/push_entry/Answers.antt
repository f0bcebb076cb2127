use Rattle.std.proofs.Common.{◌≡◌, length, rules, refl, append-nil}
use Rattle.octseq.specs.Integer.{octets_be}
use Rattle.octseq.proofs.Written.{written_2, written_4}
use Rattle.octseq_mrt.proofs.builder.rib.RibBuilder.push_entry.Goals as goal

pub push_parts-requires-clause-octets : goal.push_parts-requires-clause-octets
push_parts-requires-clause-octets g c =
    let a = c.args in
    let index : c.to_be_bytes.result ≡ octets_be 2 a.peer_index = search (rules, written_2) in
    let time : c.to_be_bytes-2.result ≡ octets_be 4 a.originated_time = search (rules, written_4) in
    let long : c.to_be_bytes-3.result ≡ octets_be 2 (length a.attributes.now) = search (rules, written_2) in
    rw (index, time, c.optional_octets-path_len.ensures.octets, c.path_number.ensures.number, long)
    (rw (append-nil a.attributes.now) refl)
