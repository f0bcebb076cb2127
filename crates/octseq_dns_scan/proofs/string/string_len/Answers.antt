use Rattle.std.proofs.Common.{rules}
use Rattle.std.proofs.lemmas.Option.{IfSome_then}
use Rattle.octseq_dns_scan.proofs.string.string_len.Goals as goal

pub returns-in_err-spelled-clause-none : goal.returns-in_err-spelled-clause-none
returns-in_err-spelled-clause-none c = λ _. c.in_err-spelled.ensures.none (search rules)

pub returns-clause-some : goal.returns-clause-some
returns-clause-some c =
    IfSome_then c.octets_len.result c.octets_len.ensures.some
    (λ len is. (is.0, c.in_ok-spelled.ensures.to is.0 is.1, is.2))

pub returns-clause-none : goal.returns-clause-none
returns-clause-none c = λ none octets spells.
    c.octets_len.ensures.none none octets (c.in_ok-spelled.ensures.from octets spells)
