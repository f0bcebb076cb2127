use Rattle.std.proofs.Common.{◌≡◌, refl, sym, subst, rules}
use Rattle.octseq_dns_scan.specs.Word.{TakesWord}
use Rattle.octseq_dns_compose.specs.Take.{IsGiven}
use Rattle.octseq_dns_compose.proofs.Faults.{only_word}
use Rattle.octseq_dns_compose.proofs.lines.words_after.Goals as goal

pub returns-in_default-clause-none : goal.returns-in_default-clause-none
returns-in_default-clause-none c = λ _ rest taken.
    c.in_default.ensures.none (search rules) c.args.first.now rest
    (subst (λ t. TakesWord c.args.first.now t rest) (sym c.new-words.ensures.ahead) taken)

pub returns-clause-none : goal.returns-clause-none
returns-clause-none c = λ _ rest taken.
    let other : ¬ (c.in-Some.word.octets.now ≡ c.args.first.now) = search rules in
    only_word (IsGiven c.args.first.now) _ _ _ c.in-Some.ensures.some other _ rest
    (subst (λ t. TakesWord c.args.first.now t rest) (sym c.new-words.ensures.ahead) taken) refl
