use Rattle.std.proofs.Common.{◌+◌, ap, sym, ◌∙◌}
use Rattle.octseq_bgp.proofs.WrittenOpens.{long_parameter, short_parameter}
use Rattle.octseq_bgp.proofs.message.open_builder.parameter_len.Goals as goal

pub returns-else-len-gt65535-clause-some : goal.returns-else-len-gt65535-clause-some
returns-else-len-gt65535-clause-some g c =
    ap (λ n. 3 + n) c.in_ok-len.ensures.some
    ∙ sym (long_parameter c.args.long (g.P.ComposeParameter.says c.args.parameter.now) c.if-long.true)

pub returns-clause-some : goal.returns-clause-some
returns-clause-some g c =
    ap (λ n. 2 + n) c.in_ok-len.ensures.some
    ∙ sym (short_parameter c.args.long (g.P.ComposeParameter.says c.args.parameter.now) c.if-long.false)
