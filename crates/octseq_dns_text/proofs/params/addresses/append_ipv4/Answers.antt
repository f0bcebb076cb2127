use Rattle.std.proofs.Common.{rules}
use Rattle.octseq_dns_text.proofs.Outcomes.{if_none}
use Rattle.octseq_dns_text.proofs.params.addresses.append_ipv4.Goals as goal

pub returns-in_default-clause-malformed : goal.returns-in_default-clause-malformed
returns-in_default-clause-malformed c = λ _ octets is.
    if_none c.scan_ipv4.result _ c.scan_ipv4.ensures.none (search rules) octets is.is
