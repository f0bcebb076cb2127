use Rattle.std.proofs.Common.{◌∷◌, map, refl, sym, ap, ◌∙◌, subst}
use Rattle.std.specs.List.{Contains}
use Rattle.std.specs.List.Sorted.{IsPermutation}
use Rattle.std.proofs.lemmas.List.Sorted.{IsPermutation-map}
use Rattle.octseq_dns_scan.proofs.Taken.{word_once}
use Rattle.octseq_dns_text.specs.ParamText.{IsParamText}
use Rattle.octseq_dns_text.specs.Reading.{entry_param}
use Rattle.octseq_dns_text.proofs.Maps.{keys_ascend, keys_contain}
use Rattle.octseq_dns_text.proofs.ParamsTexts.{key_of, param_once}
use Rattle.octseq_dns_text.proofs.Sortings.{entry_put, entry_there}
use Rattle.octseq_dns_text.proofs.params.next_param.Goals as goal

pub returns-in_default-clause-malformed : goal.returns-in_default-clause-malformed
returns-in_default-clause-malformed c = λ _ word rest param taken is.
    absurd (c.in_default.ensures.none refl word rest taken)

pub returns-in-Err-clause-malformed : goal.returns-in-Err-clause-malformed
returns-in-Err-clause-malformed c = λ malformed word rest param taken is.
    let same = word_once word c.in-Some.word.octets.now _ rest _ taken c.in-Some.ensures.some in
    absurd (c.in-Err.ensures.malformed malformed param (subst (λ w. IsParamText w param) same.0 is))

pub returns-in-Ok-None-clause-ok : goal.returns-in-Ok-None-clause-ok
returns-in-Ok-None-clause-ok c =
    let key = c.in-Ok.param.0 in
    let value = c.in-Ok.param.1 in
    let said = c.in-Ok-None.ensures in
    let es = c.args.params.now.entries in
    let put = entry_put es key value (sym said.old ∙ c.in-Ok-None.field-0-is) in
    let moved = subst (λ l. IsPermutation ((key, value) ∷ es) l) (sym said.entries) put in (
      c.in-Some.word.octets.now,
      (key, value.items),
      c.in-Some.ensures.some,
      c.in-Ok.ensures.ok,
      IsPermutation-map entry_param ((key, value) ∷ es) c.insert.new.self.entries moved,
    )

pub returns-in-Ok-None-clause-ascending : goal.returns-in-Ok-None-clause-ascending
returns-in-Ok-None-clause-ascending c = keys_ascend c.insert.new.self.entries c.in-Ok-None.ensures.ordered

pub returns-in-Ok-Some-clause-malformed : goal.returns-in-Ok-Some-clause-malformed
returns-in-Ok-Some-clause-malformed c = λ _ word rest param taken is.
    let same = word_once word c.in-Some.word.octets.now _ rest _ taken c.in-Some.ensures.some in
    let here = subst (λ w. IsParamText w param) same.0 is in
    let one = ap key_of (param_once c.in-Some.word.octets.now _ param c.in-Ok.ensures.ok here) in
    let said = c.in-Ok-Some.ensures in
    let es = c.args.params.now.entries in
    let there = entry_there es c.in-Ok.param.0 c.in-Ok-Some.field-0-0 (sym said.old ∙ c.in-Ok-Some.field-0-is) in
    subst (Contains (map key_of (map entry_param es))) one (keys_contain es c.in-Ok.param.0 there)
