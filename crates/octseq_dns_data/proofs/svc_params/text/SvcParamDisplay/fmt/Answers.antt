use Rattle.std.proofs.Common.{◌∷◌, ◌++◌, [], codes, length, ◌<◌, ap, subst, ◌∙◌, arith, rules}
use Rattle.std.proofs.lemmas.Grind.{put_four}
use Rattle.std.proofs.lemmas.Str.{encode_ascii}
use Rattle.std.specs.Fmt.{HasWritten}
use Rattle.octseq_dns_data.specs.SvcParamsText.{key_text, value_after, value_text}
use Rattle.octseq_dns_data.proofs.SvcParamsTexts.{value_some}
use Rattle.octseq_dns_data.proofs.svc_params.text.SvcParamDisplay.fmt.Goals as goal

pub returns-clause-writes : goal.returns-clause-writes
returns-clause-writes g c = λ plain ok.
    let key = c.args.self.now.key in
    let octets = c.peek_all-octets.result.now in
    let some : 0 < length octets = search rules in
    let took = g.W.Write.write_str_gives in
    let third : HasWritten took c.write_str.new.self (value_text key octets) c.write_value.new.f = search rules in
    put_four g.W.Write.write_str_gives c.args.f.now c.write_key.new.f c.write_str.new.self c.write_value.new.f
    c.write_char.new.self (key_text key) (codes "=\"") (value_text key octets) (34 ∷ []) _ (search rules)
    (search rules) third
    (subst (λ text. HasWritten took c.write_value.new.f text c.write_char.new.self) (encode_ascii 34 (omega arith))
    (c.write_char.ensures.writes third.plain ok))
    (ap (λ more. key_text key ++ more)
    (value_some key octets some ∙ ap (value_after key) c.peek_all-octets.ensures.content))
