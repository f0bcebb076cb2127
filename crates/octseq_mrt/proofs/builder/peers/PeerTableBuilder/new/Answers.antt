use Rattle.std.proofs.Common.{◌≡◌, length, rules, refl, arith}
use Rattle.octseq.specs.Integer.{octets_be}
use Rattle.octseq.proofs.Written.{written_2, written_4}
use Rattle.octseq_mrt.specs.Building.{same_table}
use Rattle.octseq_mrt.proofs.Listing.{table_begun}
use Rattle.octseq_mrt.proofs.builder.peers.PeerTableBuilder.new.Goals as goal

pub invariant_of-result : goal.invariant_of-result
invariant_of-result g c =
    let first : c.to_be_bytes.result ≡ octets_be 4 c.args.collector_bgp_id = search (rules, written_4) in
    let second : c.to_be_bytes-2.result ≡ octets_be 2 (length c.args.view_name.now) = search (rules, written_2) in
    let put = c.in-Ok-append_parts.ensures in
    let begun = table_begun c.args.collector_bgp_id c.args.view_name.now _ (omega arith) (search rules)
    (rw (put.ok, c.truncate.ensures.content, first, second) refl) (rw (put.ok, c.truncate.ensures.content) put.few) in
    record { table = begun }

pub returns-in-Ok-append_parts-clause-table : goal.returns-in-Ok-append_parts-clause-table
returns-in-Ok-append_parts-clause-table g c =
    let first : c.to_be_bytes.result ≡ octets_be 4 c.args.collector_bgp_id = search (rules, written_4) in
    let second : c.to_be_bytes-2.result ≡ octets_be 2 (length c.args.view_name.now) = search (rules, written_2) in
    let put = c.in-Ok-append_parts.ensures in
    same_table c.result-1.given.0 (table_begun c.args.collector_bgp_id c.args.view_name.now _ (omega arith)
    (search rules) (rw (put.ok, c.truncate.ensures.content, first, second) refl)
    (rw (put.ok, c.truncate.ensures.content) put.few)) refl
