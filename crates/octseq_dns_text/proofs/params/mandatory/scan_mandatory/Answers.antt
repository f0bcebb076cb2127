use Rattle.octseq_dns_text.proofs.MandatoryTexts.{mandatory_made}
use Rattle.octseq_dns_text.proofs.params.mandatory.scan_mandatory.Goals as goal

pub returns-in-Ok-keys_octets-clause-ok : goal.returns-in-Ok-keys_octets-clause-ok
returns-in-Ok-keys_octets-clause-ok c =
    mandatory_made c.args.said.now c.in-Ok.keys.keys c.in-Ok-keys_octets.value.items c.in-Ok.ensures.ok
    c.in-Ok-keys_octets.ensures
