use Rattle.std.proofs.Common.{◌≤◌, sym, subst, rules}
use Rattle.std.specs.Str.Parse.{IsNumeral, digits_value}
use Rattle.octseq_dns_compose.specs.Take.{IsUpTo}
use Rattle.octseq_dns_compose.proofs.Faults.{takes_none, takes_other}
use Rattle.octseq_dns_compose.proofs.take.take_number.Goals as goal

pub returns-in_default-clause-taken : goal.returns-in_default-clause-taken
returns-in_default-clause-taken c = takes_none (IsUpTo c.args.max) (c.in_default.ensures.none (search rules))

pub returns-in_default-scan_number-clause-taken : goal.returns-in_default-scan_number-clause-taken
returns-in_default-scan_number-clause-taken c =
    let none : ¬ (IsNumeral 10 c.in-Some.word.octets.now × (digits_value 10 c.in-Some.word.octets.now ≤ c.args.max)) =
    search rules in
    takes_other (IsUpTo c.args.max) c.in-Some.ensures.some
    (λ value is. none (is.0, subst (λ n. n ≤ c.args.max) (sym is.1) is.2))
