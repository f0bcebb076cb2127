use Rattle.std.proofs.Common.{subst}
use Rattle.octseq_bgp.specs.Stop.{IsStop}
use Rattle.octseq_c.proofs.bgp.message.report_fault.Goals as goal

pub returns-in-Ok-clause-offset : goal.returns-in-Ok-clause-offset
returns-in-Ok-clause-offset g c =
    subst (λ session. IsStop session (g.R.AsOctets.content c.args.octets) c.fault_offset.result) c.session_of.ensures
    c.fault_offset.ensures

pub returns-in-Err-clause-offset : goal.returns-in-Err-clause-offset
returns-in-Err-clause-offset g c =
    subst (λ session. IsStop session (g.R.AsOctets.content c.args.octets) c.fault_offset.result) c.session_of.ensures
    c.fault_offset.ensures
