use Rattle.std.proofs.Common.{sym, subst}
use Rattle.octseq.specs.Parser.{window}
use Rattle.octseq_format.specs.Row.{Holds}
use Rattle.octseq_bgp.specs.Fills.{TakesFirst}
use Rattle.octseq_bgp.specs.Open.{length_octets}
use Rattle.octseq_bgp.specs.Parts.{IsTlv}
use Rattle.octseq_bgp.proofs.message.parameter.take_parameter.Goals as goal

pub take_first-requires : goal.take_first-requires
take_first-requires g c =
    subst (λ b. Holds (IsTlv (length_octets b)) (window c.args.parser) c.args.left) c.if-long.true c.requires

pub take_first-requires-else-long : goal.take_first-requires-else-long
take_first-requires-else-long g c =
    subst (λ b. Holds (IsTlv (length_octets b)) (window c.args.parser) c.args.left) c.if-long.false c.requires

pub returns-then-long : goal.returns-then-long
returns-then-long g c =
    subst (λ b. TakesFirst (IsTlv (length_octets b)) (λ it. (it.0, window it.1)) (λ after. window after)
    (window c.args.parser) c.args.left
    c.take_first.result) (sym c.if-long.true) c.take_first.ensures

pub returns-else-long : goal.returns-else-long
returns-else-long g c =
    subst (λ b. TakesFirst (IsTlv (length_octets b)) (λ it. (it.0, window it.1)) (λ after. window after)
    (window c.args.parser) c.args.left
    c.take_first-else-long.result) (sym c.if-long.false) c.take_first-else-long.ensures
