use Rattle.std.proofs.Common.{sym, subst}
use Rattle.octseq_bgp.specs.Message.{IsMessage}
use Rattle.octseq_c.proofs.Puts.{when_err}
use Rattle.octseq_c.proofs.bgp.message.message_of.Goals as goal

pub returns-clause-malformed : goal.returns-clause-malformed
returns-clause-malformed g c = when_err c.parse_counted.result (λ err is.
    c.parse_counted.ensures.malformed err is.0
    (subst (λ session. IsMessage session (g.R.AsOctets.content c.args.octets) is.0) (sym c.session_of.ensures) is.1))
