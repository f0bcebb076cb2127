use Rattle.std.proofs.Common.{refl, rules}
use Rattle.octseq_dns_name.specs.Refused.{IsNameRefused}
use Rattle.octseq_dns_name.proofs.Readings.{no_name, one_reason}
use Rattle.octseq_dns_name.proofs.Reports.{reported, none_reported}
use Rattle.octseq_dns_name.proofs.name.owned.read.Name+Array+255.from_text_octets.Goals as goal

pub returns-in_err-octets-clause-malformed : goal.returns-in_err-octets-clause-malformed
returns-in_err-octets-clause-malformed c = λ _.
    no_name c.in_err-octets.field-0.0 c.args.text.now c.in_err-octets.ensures.refused

pub returns-in_err-octets-clause-refused : goal.returns-in_err-octets-clause-refused
returns-in_err-octets-clause-refused c =
    let text = c.args.text.now in
    let fault = c.in_err-octets.field-0.0 in
    let is = c.in_err-octets.ensures.refused in
    reported c.from_residual.result fault (λ f. IsNameRefused f text) (search rules) is
    (λ f also. one_reason fault f text is also)

pub returns-clause-refused : goal.returns-clause-refused
returns-clause-refused c =
    let text = c.args.text.now in
    let made = c.in_ok-octets.ensures.ok in
    none_reported _ _ (λ f. IsNameRefused f text) refl
    (λ f is. no_name f text is made.0 made.1.1 made.1.2 made.2)
