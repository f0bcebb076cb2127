use Rattle.std.proofs.Common.{◌≡◌, refl, rules}
use Rattle.octseq_dns_compose.specs.Take.{IsGiven}
use Rattle.octseq_dns_compose.proofs.Faults.{only_word}
use Rattle.octseq_dns_compose.proofs.take.take_word.Goals as goal

pub returns-else-eq-clause-taken : goal.returns-else-eq-clause-taken
returns-else-eq-clause-taken c =
    let other : ¬ (c.in-Some.word.octets.now ≡ c.args.wanted.now) = search rules in
    (refl, λ rest taken. only_word (IsGiven c.args.wanted.now) _ _ _ c.in-Some.ensures.some other _ rest taken refl)

pub returns-in_default-clause-taken : goal.returns-in_default-clause-taken
returns-in_default-clause-taken c = (refl, c.in_default.ensures.none (search rules) c.args.wanted.now)
