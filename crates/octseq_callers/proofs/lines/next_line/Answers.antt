use Rattle.std.proofs.Common.{◌≡◌, ◌≤◌, drop, arith, ap, ◌∙◌, subst, rules}
use Rattle.octseq.proofs.Windows.{rest_past}
use Rattle.octseq.specs.Parser.{window}
use Rattle.octseq.specs.Parts.{Splits}
use Rattle.octseq.specs.Window.{left, rest}
use Rattle.octseq_callers.proofs.LineFronts.{one_line}
use Rattle.octseq_callers.specs.Line.{TakesLine}
use Rattle.octseq_callers.proofs.lines.next_line.Goals as goal

pub returns-in_err-text-clause-short : goal.returns-in_err-text-clause-short
returns-in_err-text-clause-short g c = λ short line more parts takes split.
    let octets = c.peek_all-octets.result.now in
    let here = c.first_line-len.result in
    let same = one_line octets line here.0.now more (drop here.1 octets) (rw c.peek_all-octets.ensures.content takes)
    c.first_line-len.ensures.line in
    c.in_err-text.ensures.answer.short (search rules) parts (subst (λ octets. Splits octets parts) same.0 split)

pub returns-clause-text : goal.returns-clause-text
returns-clause-text g c =
    let octets = c.peek_all-octets.result.now in
    let here = c.first_line-len.result in
    let w = window c.args.parser.now in
    let v = window c.advance.new.self in
    let content : octets ≡ rest w = c.peek_all-octets.ensures.content in
    let fits : here.1 ≤ left w = omega (arith, c.first_line-len.ensures.within, c.peek_all-octets.ensures.length) in
    let after : drop here.1 octets ≡ rest v =
    ap (drop here.1) content ∙ rest_past w v here.1 fits (rw c.infallible.ensures at c.advance.ensures.ok) in (
      here.0.now,
      subst (λ o. TakesLine o here.0.now (rest v)) content
          (subst (TakesLine octets here.0.now) after c.first_line-len.ensures.line),
      c.in_ok-text.ensures.answer.text,
    )

pub returns-clause-past : goal.returns-clause-past
returns-clause-past g c = λ line more parts takes split too_long.
    let octets = c.peek_all-octets.result.now in
    let here = c.first_line-len.result in
    let same = one_line octets line here.0.now more (drop here.1 octets) (rw c.peek_all-octets.ensures.content takes)
    c.first_line-len.ensures.line in
    c.in_ok-text.ensures.answer.past parts (subst (λ octets. Splits octets parts) same.0 split) too_long
