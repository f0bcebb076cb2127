use Rattle.std.proofs.Common.{sym, subst}
use Rattle.octseq.specs.Parser.{window}
use Rattle.octseq_format.specs.Row.{Holds}
use Rattle.octseq_bgp.specs.Fills.{TakesFirst}
use Rattle.octseq_bgp.specs.Path.{asn_size}
use Rattle.octseq_bgp.specs.Parts.{IsSegment}
use Rattle.octseq_bgp.proofs.attribute.path.take_segment.Goals as goal

pub take_first-requires : goal.take_first-requires
take_first-requires g c =
    subst (λ b. Holds (IsSegment (asn_size b)) (window c.args.parser) c.args.left) c.if-wide.true c.requires

pub take_first-requires-else-wide : goal.take_first-requires-else-wide
take_first-requires-else-wide g c =
    subst (λ b. Holds (IsSegment (asn_size b)) (window c.args.parser) c.args.left) c.if-wide.false c.requires

pub returns-then-wide : goal.returns-then-wide
returns-then-wide g c =
    subst (λ b. TakesFirst (IsSegment (asn_size b)) (λ it. (it.0, (it.1.0, window it.1.1))) (λ after. window after)
    (window c.args.parser) c.args.left
    c.take_first.result) (sym c.if-wide.true) c.take_first.ensures

pub returns-else-wide : goal.returns-else-wide
returns-else-wide g c =
    subst (λ b. TakesFirst (IsSegment (asn_size b)) (λ it. (it.0, (it.1.0, window it.1.1))) (λ after. window after)
    (window c.args.parser) c.args.left
    c.take_first-else-wide.result) (sym c.if-wide.false) c.take_first-else-wide.ensures
