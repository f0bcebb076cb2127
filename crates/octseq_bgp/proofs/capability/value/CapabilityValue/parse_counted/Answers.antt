use Rattle.std.proofs.Common.{refl, subst}
use Rattle.octseq.specs.Parser.{window}
use Rattle.octseq_bgp.specs.Capability.{HasCode}
use Rattle.octseq_bgp.proofs.capability.value.CapabilityValue.parse_counted.Goals as goal

pub returns-in_err-afi-in-MultiProtocol-clause-malformed : goal.returns-in_err-afi-in-MultiProtocol-clause-malformed
returns-in_err-afi-in-MultiProtocol-clause-malformed g c = λ _ value is.
    let typed = subst (λ n. HasCode n (window c.args.parser) value) c.in-MultiProtocol.is is in
    c.in_err-afi-in-MultiProtocol.ensures.malformed refl typed.0 typed.2

pub returns-in_err-parse-in-GracefulRestart-clause-malformed :
    goal.returns-in_err-parse-in-GracefulRestart-clause-malformed
returns-in_err-parse-in-GracefulRestart-clause-malformed g c = λ _ value is.
    let typed = subst (λ n. HasCode n (window c.args.parser) value) c.in-GracefulRestart.is is in
    c.in_err-parse-in-GracefulRestart.ensures.malformed refl typed.0 typed.2

pub returns-in_err-parse_all-in-FourOctetAsn-clause-malformed :
    goal.returns-in_err-parse_all-in-FourOctetAsn-clause-malformed
returns-in_err-parse_all-in-FourOctetAsn-clause-malformed g c = λ _ value is.
    let typed = subst (λ n. HasCode n (window c.args.parser) value) c.in-FourOctetAsn.is is in
    c.in_err-parse_all-in-FourOctetAsn.ensures.malformed refl typed.0 typed.2
