use Rattle.std.proofs.Common.{◌≡◌, ◌∷◌, true, false, length, rules}
use Rattle.octseq_dns_scan.specs.Word.{is_blank}
use Rattle.octseq_dns_scan.proofs.Blanks.{blank_more, blanks_end, no_blank, no_octet}
use Rattle.octseq_dns_scan.proofs.words.after_blanks.Goals as goal

pub returns-then-not-is_blank : goal.returns-then-not-is_blank
returns-then-not-is_blank c =
    let ahead = c.blanks.ahead.now in
    let here : ahead ≡ c.in-Some.first.now ∷ c.in-Some.rest.now = search rules in
    let bare : is_blank c.in-Some.first.now ≡ false = search rules in
    blanks_end c.args.text.now ahead c.blanks.invariant
    (no_blank ahead c.in-Some.rest.now c.in-Some.first.now here bare)

pub blanks-preserved : goal.blanks-preserved
blanks-preserved c =
    let here : c.blanks.ahead.now ≡ c.in-Some.first.now ∷ c.in-Some.rest.now = search rules in
    let is : is_blank c.in-Some.first.now ≡ true = search rules in
    blank_more c.args.text.now c.blanks.ahead.now c.in-Some.rest.now c.in-Some.first.now c.blanks.invariant here is

pub returns : goal.returns
returns c =
    let none : length c.blanks.ahead.now ≡ 0 = search rules in
    blanks_end c.args.text.now c.blanks.ahead.now c.blanks.invariant (no_octet c.blanks.ahead.now none)
