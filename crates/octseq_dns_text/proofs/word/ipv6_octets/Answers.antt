use Rattle.std.proofs.Common.{◌≡◌, length, sym, subst, rules}
use Rattle.octseq_dns_scan.specs.Address.{IsIpv6Word}
use Rattle.octseq_dns_text.proofs.word.ipv6_octets.Goals as goal

pub returns-clause-some : goal.returns-clause-some
returns-clause-some c =
    let same : c.held.result.content ≡ c.in_ok-address.address = search rules in
    let long : length c.held.result.content ≡ 16 = search rules in
    (c.held.ensures.octets, long, subst (IsIpv6Word c.args.word.now) (sym same) c.in_ok-address.ensures.some)
