use Rattle.std.proofs.Common.{refl, subst}
use Rattle.octseq.specs.Parser.{window}
use Rattle.octseq_bgp.specs.Parts.{IsCounted, IsTlv}
use Rattle.octseq_bgp.specs.Fills.{Fills}
use Rattle.octseq_bgp.specs.OneParts.{one_octets}
use Rattle.octseq_bgp.specs.Open.{HasParameters, IsLongPart}
use Rattle.octseq_bgp.proofs.OneMessage.{no_short, no_long, one_long_part}
use Rattle.octseq_bgp.proofs.Wholes.{one_whole}
use Rattle.octseq_bgp.proofs.message.open.OpenMessage.parse_parameters.Goals as goal

pub returns-in_err-_length-clause-malformed : goal.returns-in_err-_length-clause-malformed
returns-in_err-_length-clause-malformed g c = λ _.
    no_long (window c.args.parser) (c.is_long.ensures.0 c.if-is_long.true)
    (λ row marks is fills. c.in_err-_length.ensures.malformed refl marks is)

pub returns-in_err-parameters-clause-malformed : goal.returns-in_err-parameters-clause-malformed
returns-in_err-parameters-clause-malformed g c = λ _.
    let w = window c.args.parser in
    no_long w (c.is_long.ensures.0 c.if-is_long.true)
    (λ row marks is fills.
    let same = one_whole IsLongPart one_long_part w marks _ is c.in_ok-_length.ensures.value in
    c.in_err-parameters.ensures.malformed refl row
    (subst (λ m. Fills (IsTlv 2) m.1.1 row) same fills))

pub returns-in_err-inside-clause-malformed : goal.returns-in_err-inside-clause-malformed
returns-in_err-inside-clause-malformed g c = λ _.
    no_short (window c.args.parser)
    (λ long. let is = c.is_long.ensures.1 long in let not = c.if-is_long.false in absurd (cc))
    (λ row inside is fills. c.in_err-inside.ensures.malformed refl inside is)

pub returns-in_err-parameters-2-clause-malformed : goal.returns-in_err-parameters-2-clause-malformed
returns-in_err-parameters-2-clause-malformed g c = λ _.
    let w = window c.args.parser in
    no_short w (λ long. let is = c.is_long.ensures.1 long in let not = c.if-is_long.false in absurd (cc))
    (λ row inside is fills.
    let same = one_whole (IsCounted 1) (one_octets 1) w inside _ is c.in_ok-inside.ensures.value in
    c.in_err-parameters-2.ensures.malformed refl row
    (subst (λ m. Fills (IsTlv 1) m row) same fills))

pub returns-in_ok-parameters-clause-parameters : goal.returns-in_ok-parameters-clause-parameters
returns-in_ok-parameters-clause-parameters g c =
    HasParameters.long (c.is_long.ensures.0 c.if-is_long.true) _ c.in_ok-_length.ensures.value
    c.in_ok-parameters.ensures.parameters

pub returns-in_ok-parameters-2-clause-parameters : goal.returns-in_ok-parameters-2-clause-parameters
returns-in_ok-parameters-2-clause-parameters g c =
    HasParameters.short (λ long. let is = c.is_long.ensures.1 long in let not = c.if-is_long.false in absurd (cc)) _
    c.in_ok-inside.ensures.value c.in_ok-parameters-2.ensures.parameters
