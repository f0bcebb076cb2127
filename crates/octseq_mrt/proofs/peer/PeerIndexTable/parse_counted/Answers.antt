use Rattle.std.proofs.Common.{length, refl, ap, arith}
use Rattle.octseq.specs.Parser.{window}
use Rattle.octseq_bgp.specs.OneParts.{one_number, one_octets}
use Rattle.octseq_mrt.specs.Listed.{peers_listed}
use Rattle.octseq_mrt.proofs.Filled.{ahead_as, no_head, no_many, no_end, all_of}
use Rattle.octseq_mrt.proofs.peer.PeerIndexTable.parse_counted.Goals as goal

pub returns-in_err-collector_bgp_id-clause-malformed : goal.returns-in_err-collector_bgp_id-clause-malformed
returns-in_err-collector_bgp_id-clause-malformed g c = λ _ table.
    no_head (one_number 4) (one_octets 2) peers_listed (window c.args.parser)
    (c.in_err-collector_bgp_id.ensures.malformed refl) (table.collector_bgp_id, (table.view_name, table.peers))

pub returns-in_err-skip_peers-clause-malformed : goal.returns-in_err-skip_peers-clause-malformed
returns-in_err-skip_peers-clause-malformed g c = λ _ table.
    let head = c.in_ok-collector_bgp_id in
    no_many (one_number 4) (one_octets 2) peers_listed (window c.args.parser) (window c.parse.new.parser)
    (head.collector_bgp_id, (window head.view_name, head.count)) head.ensures.value
    (c.in_err-skip_peers.ensures.malformed refl) (table.collector_bgp_id, (table.view_name, table.peers))

pub invariant_of-result : goal.invariant_of-result
invariant_of-result g c =
    let all = c.in_ok-skip_peers.ensures.peers in
    let v = window c.skip_peers.new.parser in
    let none = c.if-remaining-gt0.false in
    record { ahead = (all.0, ∣ (v, (all.1.1, omega (arith, c.remaining.ensures.left, none))) ∣₁) }

pub returns-then-remaining-gt0-clause-malformed : goal.returns-then-remaining-gt0-clause-malformed
returns-then-remaining-gt0-clause-malformed g c = λ _ table.
    let head = c.in_ok-collector_bgp_id in
    let all = c.in_ok-skip_peers.ensures.peers in
    no_end (one_number 4) (one_octets 2) peers_listed (window c.args.parser) (window c.parse.new.parser)
    (window c.skip_peers.new.parser) (head.collector_bgp_id, (window head.view_name, head.count)) all.0
    head.ensures.value all.1 (omega (arith, c.remaining.ensures.left, c.if-remaining-gt0.true))
    (table.collector_bgp_id, (table.view_name, table.peers))

pub returns-clause-table : goal.returns-clause-table
returns-clause-table g c =
    let head = c.in_ok-collector_bgp_id in
    let all = c.in_ok-skip_peers.ensures.peers in
    all_of (one_number 4) (one_octets 2) peers_listed (window c.args.parser) (window c.parse.new.parser)
    (window c.skip_peers.new.parser) (head.collector_bgp_id, (window head.view_name, head.count)) all.0
    head.ensures.value all.1 (omega (arith, c.remaining.ensures.left, c.if-remaining-gt0.false)) c.result-1.given.0

pub returns-clause-least : goal.returns-clause-least
returns-clause-least g c =
    let all = c.in_ok-skip_peers.ensures.peers in
    let v = window c.skip_peers.new.parser in
    let same = ahead_as peers_listed (window c.parse.new.parser) all.0 c.result-1.given.0
    (v, (all.1.1, omega (arith, c.remaining.ensures.left, c.if-remaining-gt0.false))) in
    let least = c.in_ok-skip_peers.ensures.least in
    let counted = all.1.0 in
    omega (arith, ap length same, counted, least)
