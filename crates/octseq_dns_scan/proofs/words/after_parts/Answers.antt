use Rattle.std.proofs.Common.{◌≡◌, [], ◌∷◌, true, false, rules}
use Rattle.octseq_dns_scan.specs.Word.{is_special, is_blank}
use Rattle.octseq_dns_scan.proofs.WordCodes.{word_line, word_open, word_backslash, word_quoted}
use Rattle.octseq_dns_scan.proofs.WordCodes.{word_escaped, word_plain}
use Rattle.octseq_dns_scan.proofs.words.after_parts.Goals as goal

pub returns-in-10-clause-none : goal.returns-in-10-clause-none
returns-in-10-clause-none c = λ _.
    let first = c.in-Some.first.now in
    let here : c.parts.ahead.now ≡ first ∷ c.in-Some.rest.now = search rules in
    let is : is_special first ≡ true = search rules in
    let other : ¬ (first ≡ 92) = search rules in
    let quote : ¬ (first ≡ 34) = search rules in
    let bare : is_blank first ≡ false = search rules in
    word_line c.args.text.now c.parts.ahead.now c.in-Some.rest.now first c.parts.invariant here is other quote bare

pub returns-in_err-ahead-in-34-clause-none : goal.returns-in_err-ahead-in-34-clause-none
returns-in_err-ahead-in-34-clause-none c = λ _.
    let here : c.parts.ahead.now ≡ 34 ∷ c.in-Some.rest.now = search rules in
    word_open c.args.text.now c.parts.ahead.now c.in-Some.rest.now c.parts.invariant here
    (c.in_err-ahead-in-34.ensures.none (search rules))

pub returns-in_err-ahead-in-92-clause-none : goal.returns-in_err-ahead-in-92-clause-none
returns-in_err-ahead-in-92-clause-none c = λ _.
    let here : c.parts.ahead.now ≡ 92 ∷ c.in-Some.rest.now = search rules in
    let over : c.in-Some.rest.now ≡ [] = search rules in
    word_backslash c.args.text.now c.parts.ahead.now c.in-Some.rest.now c.parts.invariant here over

pub parts-preserved-in_ok-ahead-in-34 : goal.parts-preserved-in_ok-ahead-in-34
parts-preserved-in_ok-ahead-in-34 c =
    let here : c.parts.ahead.now ≡ 34 ∷ c.in-Some.rest.now = search rules in
    word_quoted c.args.text.now c.parts.ahead.now c.in-Some.rest.now c.in_ok-ahead-in-34.ahead.now c.parts.invariant
    here c.in_ok-ahead-in-34.ensures.some

pub parts-preserved-in_ok-ahead-in-92 : goal.parts-preserved-in_ok-ahead-in-92
parts-preserved-in_ok-ahead-in-92 c =
    let here : c.parts.ahead.now ≡ 92 ∷ c.in-Some.rest.now = search rules in
    let next = c.in_ok-ahead-in-92.ensures.some in
    word_escaped c.args.text.now c.parts.ahead.now c.in-Some.rest.now c.in_ok-ahead-in-92.ahead.now next.0
    c.parts.invariant here next.1

pub parts-preserved : goal.parts-preserved
parts-preserved c =
    let first = c.in-Some.first.now in
    let here : c.parts.ahead.now ≡ first ∷ c.in-Some.rest.now = search rules in
    let bare : is_special first ≡ false = search rules in
    word_plain c.args.text.now c.parts.ahead.now c.in-Some.rest.now first c.parts.invariant here bare
