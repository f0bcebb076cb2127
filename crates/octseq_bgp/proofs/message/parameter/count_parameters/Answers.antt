use Rattle.std.proofs.Common.{sym, subst}
use Rattle.octseq.specs.Parser.{window}
use Rattle.octseq_bgp.specs.Fills.{Counts}
use Rattle.octseq_bgp.specs.Open.{length_octets}
use Rattle.octseq_bgp.specs.Parts.{IsTlv}
use Rattle.octseq_bgp.proofs.message.parameter.count_parameters.Goals as goal

pub returns-then-long-clause-counts : goal.returns-then-long-clause-counts
returns-then-long-clause-counts g c =
    subst (λ b. Counts (IsTlv (length_octets b)) (window c.args.parser) c.count_all.result) (sym c.if-long.true)
    c.count_all.ensures.counts

pub returns-else-long-clause-counts : goal.returns-else-long-clause-counts
returns-else-long-clause-counts g c =
    subst (λ b. Counts (IsTlv (length_octets b)) (window c.args.parser) c.count_all-else-long.result)
    (sym c.if-long.false)
    c.count_all-else-long.ensures.counts
