use Rattle.std.proofs.Common.{◌∷◌, inr, sym, ◌∙◌, subst, arith}
use Rattle.std.proofs.lemmas.Bool.{not-true, not-false}
use Rattle.std.specs.List.{Contains}
use Rattle.std.specs.List.Sorted.{IsPermutation}
use Rattle.std.proofs.lemmas.Map.Keys.{IsStrictlyIncreasing-from_sorted}
use Rattle.octseq_dns_text.proofs.KeyTexts.{key_bits, key_once}
use Rattle.octseq_dns_text.proofs.Sortings.{key_put, key_there}
use Rattle.octseq_dns_text.proofs.params.mandatory.put_key.Goals as goal

pub returns-in-Ok-true-clause-ok : goal.returns-in-Ok-true-clause-ok
returns-in-Ok-true-clause-ok c =
    let key = c.in-Some.key in
    let said = c.in-Ok-true.ensures in
    let new = not-true _ (sym said.added ∙ c.in-Ok-true.field-0-test) in (
      key,
      c.in-Some.ensures.some,
      omega (arith, c.if-key-eq-MANDATORY.false),
      key_bits c.args.name.now key c.in-Some.ensures.some,
      subst (λ l. IsPermutation (key ∷ c.args.set.now.keys) l) (sym said.keys) (key_put c.args.set.now.keys key new),
      IsStrictlyIncreasing-from_sorted c.insert.new.self.keys said.ordered,
    )

pub returns-in-Ok-false-clause-malformed : goal.returns-in-Ok-false-clause-malformed
returns-in-Ok-false-clause-malformed c = λ _ key is.
    let said = c.in-Ok-false.ensures in
    let there = not-false _ (sym said.added ∙ c.in-Ok-false.field-0-test) in
    let same = key_once c.args.name.now c.in-Some.key key c.in-Some.ensures.some is in
    inr (subst (Contains c.args.set.now.keys) same (key_there c.args.set.now.keys c.in-Some.key there))
