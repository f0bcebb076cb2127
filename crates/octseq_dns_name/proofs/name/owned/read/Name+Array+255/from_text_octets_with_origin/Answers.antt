use Rattle.std.proofs.Common.{refl, rules}
use Rattle.octseq_dns_name.specs.Origin.{IsRefusedWithOrigin}
use Rattle.octseq_dns_name.specs.Read.{labels_of}
use Rattle.octseq_dns_name.proofs.Readings.{no_name_with_origin, one_reason_with_origin}
use Rattle.octseq_dns_name.proofs.Reports.{reported, none_reported}
use Rattle.octseq_dns_name.proofs.name.owned.read.Name+Array+255.from_text_octets_with_origin.Goals as goal

pub returns-in_err-octets-clause-malformed : goal.returns-in_err-octets-clause-malformed
returns-in_err-octets-clause-malformed g c = λ _.
    no_name_with_origin (labels_of c.args.origin.now) c.in_err-octets.field-0.0 c.args.text.now
    c.in_err-octets.ensures.refused

pub returns-in_err-octets-clause-refused : goal.returns-in_err-octets-clause-refused
returns-in_err-octets-clause-refused g c =
    let text = c.args.text.now in
    let origin = labels_of c.args.origin.now in
    let fault = c.in_err-octets.field-0.0 in
    let is = c.in_err-octets.ensures.refused in
    reported c.from_residual.result fault (λ f. IsRefusedWithOrigin origin f text) (search rules) is
    (λ f also. one_reason_with_origin origin fault f text is also)

pub returns-clause-refused : goal.returns-clause-refused
returns-clause-refused g c =
    let text = c.args.text.now in
    let origin = labels_of c.args.origin.now in
    let made = c.in_ok-octets.ensures.ok in
    none_reported _ _ (λ f. IsRefusedWithOrigin origin f text) refl
    (λ f is. no_name_with_origin origin f text is made.0 made.1.1 made.1.2 made.2)
