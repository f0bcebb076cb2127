use Rattle.std.proofs.Common.{sym, subst}
use Rattle.octseq_bgp.specs.Message.{IsMessage}
use Rattle.octseq_bgp.specs.MessageReader.{session_of}
use Rattle.octseq_bgp.proofs.message.reader.MessageReader.message.Goals as goal

pub returns-clause-malformed : goal.returns-clause-malformed
returns-clause-malformed g c = λ err m is.
    c.parse.ensures.malformed err m
    (subst (λ session. IsMessage session c.octets.result.now m) (sym c.framing.ensures)
    (subst (λ octets. IsMessage (session_of c.args.self.now) octets m) (sym c.octets.ensures.octets) is))
