use Rattle.std.proofs.Common.{refl, subst}
use Rattle.octseq.specs.Parser.{window}
use Rattle.octseq_bgp.specs.Open.{HasParameters, IsOpenFront}
use Rattle.octseq_bgp.proofs.OneMessage.{one_open_front, open_numbers}
use Rattle.octseq_bgp.proofs.Wholes.{one_whole}
use Rattle.octseq_bgp.proofs.message.open.OpenMessage.parse_counted.Goals as goal

pub returns-in_err-version-clause-malformed : goal.returns-in_err-version-clause-malformed
returns-in_err-version-clause-malformed g c = λ _ it is.
    c.in_err-version.ensures.malformed refl (open_numbers it is.rest) is.front

pub returns-in_err-parameters-clause-malformed : goal.returns-in_err-parameters-clause-malformed
returns-in_err-parameters-clause-malformed g c = λ _ it is.
    let w = window c.args.parser in
    let same = one_whole IsOpenFront one_open_front w
    (open_numbers it is.rest) _ is.front c.in_ok-version.ensures.value in
    c.in_err-parameters.ensures.malformed refl it.parameters
    (subst (λ n. HasParameters n.1.1.1.1 it.parameters) same is.parameters)
