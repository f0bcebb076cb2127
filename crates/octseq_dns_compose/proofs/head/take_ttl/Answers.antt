use Rattle.std.proofs.Common.{◌≤◌, length, sym, subst, rules}
use Rattle.std.specs.Str.Parse.{IsNumeral, digits_value}
use Rattle.octseq_dns_compose.specs.RecordText.{IsTtlWord}
use Rattle.octseq_dns_compose.proofs.Faults.{takes_none, takes_other}
use Rattle.octseq_dns_compose.proofs.head.take_ttl.Goals as goal

pub returns-in_default-clause-taken : goal.returns-in_default-clause-taken
returns-in_default-clause-taken c = takes_none IsTtlWord (c.in_default.ensures.none (search rules))

pub returns-in_default-scan_ttl-clause-taken : goal.returns-in_default-scan_ttl-clause-taken
returns-in_default-scan_ttl-clause-taken c =
    let none : ¬ (IsNumeral 10 c.in-Some.word.octets.now × (length c.in-Some.word.octets.now ≤ 10)
    × (digits_value 10 c.in-Some.word.octets.now ≤ 4294967295)) = search rules in
    takes_other IsTtlWord c.in-Some.ensures.some
    (λ value is. none (is.0, is.1, subst (λ n. n ≤ 4294967295) (sym is.2) is.3))
