use Rattle.std.proofs.Common.{◌≡◌, [], length, refl, sym, subst, codes, rules}
use Rattle.octseq_dns_compose.specs.QuestionText.{IsAnyQuestion}
use Rattle.octseq_dns_compose.specs.TextLines.{IsFaultyLine}
use Rattle.octseq_dns_compose.proofs.LineFaults.{no_feed, none_of}
use Rattle.octseq_dns_compose.proofs.Places.{malformed_at}
use Rattle.octseq_dns_compose.proofs.entry.next_question.Goals as goal

pub returns-in_default-clause-none : goal.returns-in_default-clause-none
returns-in_default-clause-none c =
    (none_of _ _ _ _ c.split_line-line.ensures (c.in_default.ensures.none (search rules)), refl, refl)

pub returns-in_default-after_feed-clause-malformed : goal.returns-in_default-after_feed-clause-malformed
returns-in_default-after_feed-clause-malformed c = λ place is.
    let both = malformed_at _ _ place _ c.malformed-in_default-after_feed.ensures is in
    let at : place.offset ≡ length c.split_line-line.result.0.now = both.1 in
    let taken = c.in-Some.ensures.some in
    let all = c.in-Some-scan_question.ensures.some in
    let over : c.split_line-line.result.1.now ≡ [] = c.in_default-after_feed.ensures.none (search rules) in (
      both.0,
      subst (IsFaultyLine (codes "question") IsAnyQuestion c.args.lines.now.ahead.now) (sym at)
          (no_feed (codes "question") IsAnyQuestion c.args.lines.now.ahead.now _ _ _ _ all.0 []
          c.split_line-line.ensures taken.0 taken.1 all.1 (_, _, _, all.2) over),
    )
