use Rattle.std.proofs.Common.{[], sym, subst}
use Rattle.std.proofs.lemmas.List.{append-nil}
use Rattle.octseq_dns_scan.specs.Base64.{IsBase64Text}
use Rattle.octseq_dns_text.proofs.params.value.scan_ech.Goals as goal

pub returns-in-Err-Malformed-clause-malformed : goal.returns-in-Err-Malformed-clause-malformed
returns-in-Err-Malformed-clause-malformed c = λ _ value is.
    let fed = rw c.in-Err-Malformed.field-0-is at c.in-Err-Malformed.ensures in
    fed.malformed tt [] [] c.new.ensures value [] is.each
    (subst (λ t. IsBase64Text t value) (sym (append-nil c.args.said.now)) is.text)
