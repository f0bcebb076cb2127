use Rattle.std.proofs.Common.{sym, subst}
use Rattle.std.specs.Prelude.{IfSome}
use Rattle.octseq.specs.Parser.{window}
use Rattle.octseq_bgp.specs.Stop.{PrefixFault}
use Rattle.octseq_bgp.proofs.message.offset.prefix_fault.Goals as goal

pub returns-then-paths-clause-stops : goal.returns-then-paths-clause-stops
returns-then-paths-clause-stops g c =
    subst (λ b. IfSome c.first_fault.result (PrefixFault b (window c.args.parser))) (sym c.if-paths.true)
    c.first_fault.ensures.stops

pub returns-else-paths-clause-stops : goal.returns-else-paths-clause-stops
returns-else-paths-clause-stops g c =
    subst (λ b. IfSome c.first_fault-else-paths.result (PrefixFault b (window c.args.parser))) (sym c.if-paths.false)
    c.first_fault-else-paths.ensures.stops
