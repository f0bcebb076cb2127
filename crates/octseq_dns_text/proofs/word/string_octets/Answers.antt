use Rattle.std.proofs.Common.{◌≡◌, ◌∷◌, length, ap, ◌∙◌, rules}
use Rattle.octseq_dns_text.proofs.WordTexts.{string_refused}
use Rattle.octseq_dns_text.proofs.word.string_octets.Goals as goal

pub returns-in-Ok-clause-some : goal.returns-in-Ok-clause-some
returns-in-Ok-clause-some c =
    let (octets, within, made) = c.in-Ok.ensures.ok in
    let same : c.as_slice.result.now ≡ octets = search rules in
    (octets, within.0, within.1, c.counted.ensures ∙ ap (λ inside. length inside ∷ inside) same)

pub returns-in-Err-clause-none : goal.returns-in-Err-clause-none
returns-in-Err-clause-none c = λ none octets.
    let empty : length c.new-inside.result.content ≡ 0 = search rules in
    string_refused c.in-Err.field-0 c.args.word.now c.new-inside.result.content empty c.in-Err.ensures.refused octets
