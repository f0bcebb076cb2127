use Rattle.std.proofs.Common.{ℕ, Bool, refl, sym, subst}
use Rattle.octseq.specs.Parser.{window}
use Rattle.octseq.specs.Window.{Window}
use Rattle.octseq_format.specs.Pair.{◌then◌}
use Rattle.octseq_bgp.specs.Parts.{IsNumber}
use Rattle.octseq_bgp.specs.Fills.{Whole}
use Rattle.octseq_bgp.specs.Path.{asn_size}
use Rattle.octseq_bgp.proofs.attribute.value.Aggregator.parse.Goals as goal

abbrev Has : Bool → Window → ℕ × ℕ → Type 0
Has wide w it = Whole (IsNumber (asn_size wide) then IsNumber 4) w it

pub returns-in_err-asn-clause-malformed : goal.returns-in_err-asn-clause-malformed
returns-in_err-asn-clause-malformed g c = λ _ it is.
    c.in_err-asn.ensures.malformed refl it (subst (λ wide. Has wide (window c.args.parser) it) c.if-wide.true is)

pub returns-in_err-asn-2-clause-malformed : goal.returns-in_err-asn-2-clause-malformed
returns-in_err-asn-2-clause-malformed g c = λ _ it is.
    c.in_err-asn-2.ensures.malformed refl it (subst (λ wide. Has wide (window c.args.parser) it) c.if-wide.false is)

pub returns-in_ok-asn-clause-is : goal.returns-in_ok-asn-clause-is
returns-in_ok-asn-clause-is g c =
    let it : ℕ × ℕ = (c.in_ok-asn.asn, c.in_ok-asn.address) in
    subst (λ wide. Has wide (window c.args.parser) it) (sym c.if-wide.true) c.in_ok-asn.ensures.value

pub returns-in_ok-asn-2-clause-is : goal.returns-in_ok-asn-2-clause-is
returns-in_ok-asn-2-clause-is g c =
    let w = window c.args.parser in
    let it : ℕ × ℕ = (c.in_ok-asn-2.asn, c.in_ok-asn-2.address) in
    let has = subst (λ wide. Has wide w it) (sym c.if-wide.false) c.in_ok-asn-2.ensures.value in
    subst (λ n. Has c.args.wide w (n, c.in_ok-asn-2.address)) (sym c.from.ensures) has
