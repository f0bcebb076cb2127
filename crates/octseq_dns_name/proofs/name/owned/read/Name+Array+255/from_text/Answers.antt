use Rattle.std.proofs.Common.{◌↔◌, IsErrOf, subst}
use Rattle.octseq_dns_name.specs.Refused.{IsNameRefused}
use Rattle.octseq_dns_name.specs.declared.error.FromTextError.{FromTextError}
use Rattle.octseq_dns_name.proofs.name.owned.read.Name+Array+255.from_text.Goals as goal

pub returns-clause-refused : goal.returns-clause-refused
returns-clause-refused c =
    subst (λ text. (fault : FromTextError) → IsErrOf c.from_text_octets.result fault ↔ IsNameRefused fault text)
    c.as_bytes.ensures.value c.from_text_octets.ensures.refused
