use Rattle.std.proofs.Common.{true, ◌∙◌, arith}
use Rattle.octseq_bgp.specs.OneOpen.{same_open}
use Rattle.octseq_bgp.specs.WrittenOpen.{bare_open}
use Rattle.octseq_bgp.proofs.WrittenOpens.{bare_written}
use Rattle.octseq_bgp.proofs.message.open_builder.OpenBuilder.from_builder_long.Goals as goal

pub invariant_of-result : goal.invariant_of-result
invariant_of-result g c =
    let is = bare_written true c.args.my_asn c.args.holdtime c.args.identifier _ (omega arith) (omega arith)
    (omega arith) (c.in-Ok.ensures.ok ∙ c.long_front.ensures) in
    ((bare_open true c.args.my_asn c.args.holdtime c.args.identifier, is), tt)

pub returns-clause-message : goal.returns-clause-message
returns-clause-message g c =
    let is = bare_written true c.args.my_asn c.args.holdtime c.args.identifier _ (omega arith) (omega arith)
    (omega arith) (c.in-Ok.ensures.ok ∙ c.long_front.ensures) in
    same_open true _ _ _ c.result-1.given.0.1 is
