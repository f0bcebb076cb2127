use Rattle.std.proofs.Common.{◌*◌, ap, subst, arith}
use Rattle.std.specs.Coded.{coded_ℕ}
use Rattle.octseq.specs.Integer.{be}
use Rattle.octseq.specs.Parser.{window}
use Rattle.octseq_format.specs.Row.{Row}
use Rattle.octseq_format.proofs.RowSteps.{held_as}
use Rattle.octseq_bgp.specs.Parts.{IsNumber}
use Rattle.octseq_bgp.specs.OneParts.{one_number}
use Rattle.octseq_bgp.specs.Path.{asn_size}
use Rattle.octseq_bgp.proofs.Chunks.{chunks}
use Rattle.octseq_bgp.proofs.attribute.path.Segment.asns.Goals as goal

pub invariant_of-result : goal.invariant_of-result
invariant_of-result g c =
    let self = c.args.self.now in
    let k = asn_size self.wide in
    let all = self.whole in
    let same = ap (λ n. k * n) c.from.ensures in
    let row = chunks k be c.from.result (window self.octets) (omega (arith, all, same)) in
    record { ahead = (row.0, ∣ (row.1, row.2) ∣₁) }

pub returns : goal.returns
returns g c =
    let self = c.args.self.now in
    let k = asn_size self.wide in
    let w = window self.octets in
    let all = self.whole in
    let same = ap (λ n. k * n) c.from.ensures in
    let row = chunks k be c.from.result w (omega (arith, all, same)) in
    let filled = row.3 in
    let held = held_as coded_ℕ (IsNumber k) (one_number k) w row.1 c.from.result row.0 c.result-2-1.given.0 row.2 in
    (row.1, (subst (λ asns. Row (IsNumber k) w asns row.1) held row.2.1, omega (arith, filled, all, same)))
