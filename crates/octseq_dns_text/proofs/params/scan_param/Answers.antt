use Rattle.std.proofs.Common.{◌<◌, length, refl, sym, ap, subst, arith, rules}
use Rattle.octseq_dns_text.specs.KeyText.{IsKeyText}
use Rattle.octseq_dns_text.specs.ParamText.{Says}
use Rattle.octseq_dns_text.specs.Split.{split_after, octets_before}
use Rattle.octseq_dns_text.proofs.KeyTexts.{key_once}
use Rattle.octseq_dns_text.proofs.ValueTexts.{says_once, value_at, value_once}
use Rattle.octseq_dns_text.proofs.params.scan_param.Goals as goal

pub returns-in_default-clause-malformed : goal.returns-in_default-clause-malformed
returns-in_default-clause-malformed c = λ _ param is.
    c.in_default.ensures.none refl param.0
    (subst (λ n. IsKeyText n param.0) (sym c.split_first.ensures.before) is.key)

pub returns-in-Err-scan_value-clause-malformed : goal.returns-in-Err-scan_value-clause-malformed
returns-in-Err-scan_value-clause-malformed c = λ malformed param is.
    let word = c.args.word.now in
    let named = subst (λ n. IsKeyText n c.in-Some.key) c.split_first.ensures.before c.in-Some.ensures.some in
    let says = subst (λ t. Says t c.in-Ok.said.items) c.split_first.ensures.after c.in-Ok.ensures.ok in
    let key = key_once (octets_before 61 word) param.0 c.in-Some.key is.key named in
    let said = says_once (split_after 61 word) is.said c.in-Ok.said.items is.says says in
    c.in-Err-scan_value.ensures.malformed malformed param.1 (value_at _ _ _ _ param.1 key said is.value)

pub returns-then-len-gt-VALUE_MAX-clause-malformed : goal.returns-then-len-gt-VALUE_MAX-clause-malformed
returns-then-len-gt-VALUE_MAX-clause-malformed c = λ _ param is.
    let word = c.args.word.now in
    let named = subst (λ n. IsKeyText n c.in-Some.key) c.split_first.ensures.before c.in-Some.ensures.some in
    let says = subst (λ t. Says t c.in-Ok.said.items) c.split_first.ensures.after c.in-Ok.ensures.ok in
    let key = key_once (octets_before 61 word) param.0 c.in-Some.key is.key named in
    let said = says_once (split_after 61 word) is.said c.in-Ok.said.items is.says says in
    let again = value_at _ _ _ _ param.1 key said is.value in
    let same = value_once c.in-Some.key c.in-Ok.said.items param.1 c.in-Ok-scan_value.value.items again
    c.in-Ok-scan_value.ensures.ok in
    let long : 65535 < length c.in-Ok-scan_value.value.items = search rules in
    absurd (omega (arith, long, is.few, ap length same))
