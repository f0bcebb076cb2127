use Rattle.std.proofs.Common.{◌≡◌, [], ◌∷◌, false, length, rules}
use Rattle.octseq_dns_scan.specs.Word.{is_special_in_quotes}
use Rattle.octseq_dns_scan.proofs.WordCodes.{quoted_end, quoted_backslash, quoted_plain, quoted_escaped}
use Rattle.octseq_dns_scan.proofs.words.after_quoted.Goals as goal

pub returns-in_err-first-clause-none : goal.returns-in_err-first-clause-none
returns-in_err-first-clause-none c = λ _.
    let over : length c.pieces.ahead.now ≡ 0 = search rules in
    quoted_end c.args.text.now c.pieces.ahead.now c.pieces.invariant over

pub returns-in_err-ahead-in-92-clause-none : goal.returns-in_err-ahead-in-92-clause-none
returns-in_err-ahead-in-92-clause-none c = λ _.
    let here : c.pieces.ahead.now ≡ 92 ∷ c.in_ok-first.rest.now = search rules in
    let over : c.in_ok-first.rest.now ≡ [] = search rules in
    quoted_backslash c.args.text.now c.pieces.ahead.now c.in_ok-first.rest.now c.pieces.invariant here over

pub pieces-preserved-in_ok-ahead-in-92 : goal.pieces-preserved-in_ok-ahead-in-92
pieces-preserved-in_ok-ahead-in-92 c =
    let here : c.pieces.ahead.now ≡ 92 ∷ c.in_ok-first.rest.now = search rules in
    let next = c.in_ok-ahead-in-92.ensures.some in
    quoted_escaped c.args.text.now c.pieces.ahead.now c.in_ok-first.rest.now c.in_ok-ahead-in-92.ahead.now next.0
    c.pieces.invariant here next.1

pub pieces-preserved : goal.pieces-preserved
pieces-preserved c =
    let here : c.pieces.ahead.now ≡ c.in_ok-first.first.now ∷ c.in_ok-first.rest.now = search rules in
    let bare : is_special_in_quotes c.in_ok-first.first.now ≡ false = search rules in
    quoted_plain c.args.text.now c.pieces.ahead.now c.in_ok-first.rest.now c.in_ok-first.first.now c.pieces.invariant
    here bare
