use Rattle.std.proofs.Common.{sym, ap, ◌∙◌, subst}
use Rattle.std.specs.Net.Addr.{segments_of}
use Rattle.std.specs.Net.Grammar.{IsColonHex}
use Rattle.octseq_dns_scan.proofs.Addresses.{segments_again}
use Rattle.octseq_dns_scan.proofs.address.scan_ipv6.Goals as goal

pub returns-in-Ok-clause-some : goal.returns-in-Ok-clause-some
returns-in-Ok-clause-some c =
    subst (λ segments. IsColonHex c.args.word.now segments) (sym (ap segments_of c.octets.ensures ∙ segments_again _))
    c.in-Ok.ensures

pub returns-in-Err-clause-none : goal.returns-in-Err-clause-none
returns-in-Err-clause-none c = λ octets is. c.in-Err.ensures (record { segments = segments_of octets }) is
