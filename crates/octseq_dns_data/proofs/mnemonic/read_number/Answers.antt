use Rattle.std.proofs.Common.{ℕ, List, IfNone, inl, sym, ◌∙◌, subst}
use Rattle.octseq_dns_data.specs.Mnemonic.{IsWordAndNumber}
use Rattle.octseq_dns_data.proofs.Mnemonics.{number_in_some, neither_there}
use Rattle.octseq_dns_data.proofs.mnemonic.read_number.Goals as goal

pub returns-in-Some-clause-some : goal.returns-in-Some-clause-some
returns-in-Some-clause-some c = inl (number_in_some _ _ _ (sym c.number_of.ensures ∙ c.in-Some.is))

pub returns-in-None-clause-none : goal.returns-in-None-clause-none
returns-in-None-clause-none c =
    let found = c.number_after.result in
    let word = c.as_bytes.result.now in
    let none = λ (word text : List ℕ). IfNone found ((n : ℕ) → IsWordAndNumber word text n → ⊥) in
    neither_there _ _ _ found (sym c.number_of.ensures ∙ c.in-None.is)
    (subst (λ w. none w c.args.text.now) c.as_bytes.ensures.value
    (subst (none word) c.as_bytes-in-None.ensures.value c.number_after.ensures.none))
