use Rattle.std.proofs.Common.{[], ◌∷◌, rules}
use Rattle.std.proofs.lemmas.Option.{IfSome_then}
use Rattle.octseq.specs.OctetsText.{three_digits}
use Rattle.octseq_dns_scan.specs.Spelled.{SpellsOctetBut}
use Rattle.octseq_dns_scan.proofs.string.next_escaped.Goals as goal

pub returns-then-not-is_ascii_digit-clause-some : goal.returns-then-not-is_ascii_digit-clause-some
returns-then-not-is_ascii_digit-clause-some c = λ quoted.
    (c.in_ok-first.first.now ∷ [], search rules, SpellsOctetBut.escaped (search rules))

pub returns-clause-some : goal.returns-clause-some
returns-clause-some c =
    IfSome_then c.next_number.result c.next_number.ensures.some
    (λ taken is. λ quoted. (three_digits taken.0, is.1, SpellsOctetBut.numbered is.0))
