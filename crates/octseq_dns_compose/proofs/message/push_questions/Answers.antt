use Rattle.std.proofs.Common.{◌∷◌, ◌∙◌, codes, refl, sym, subst, rules}
use Rattle.octseq_dns_compose.specs.QuestionText.{IsQuestionText}
use Rattle.octseq_dns_compose.specs.TextLines.{IsNoneOf}
use Rattle.octseq_dns.specs.Pushed.{pushed_question}
use Rattle.octseq_dns.proofs.LeastLimit.{within_second}
use Rattle.octseq_dns.specs.Sections.{takes_questions}
use Rattle.octseq_dns.specs.Writes.{least_limit}
use Rattle.octseq_dns_compress.specs.Composed.{message_limit}
use Rattle.octseq_dns_compose.proofs.MessageTexts.{if_none, if_some, pushed_more, pushed_none, pushed_same}
use Rattle.octseq_dns_compose.proofs.Overrun.{push_exceeds}
use Rattle.octseq_dns_compose.proofs.message.push_questions.Goals as goal

pub lines-init : goal.lines-init
lines-init g c = (pushed_none, refl)

pub returns-in_default-clause-ok : goal.returns-in_default-clause-ok
returns-in_default-clause-ok g c =
    let none = if_none c.in-Ok.next _ (search rules) c.in-Ok.ensures.none in
    (pushed_same c.lines.invariant.0 none.1 none.2, subst (IsNoneOf (codes "question")) (sym none.1) none.0)

pub lines-preserved : goal.lines-preserved
lines-preserved g c =
    let some = if_some c.in-Ok.next _ _ c.in-Some.is c.in-Ok.ensures.some in
    let q = pushed_question c.parsed-qname.result c.in-Some.question.qtype c.in-Some.question.qclass in
    let pushed = c.in-Ok-push_question.ensures in (
      pushed_more q q (codes "question" ∷ some.0) c.lines.invariant.0 some.1 some.3 (
        refl,
        subst (λ labels. IsQuestionText labels c.in-Some.question.qclass c.in-Some.question.qtype some.0)
            (sym c.parsed-qname.ensures) some.2,
      ) refl pushed.written
          (within_second c.lines.message.push_limit (message_limit g.B.AsOctets.limit) _ pushed.within)
          pushed.push_limit,
      pushed.borrows ∙ c.lines.invariant.1,
    )

pub returns-in-Err-clause-malformed : goal.returns-in-Err-clause-malformed
returns-in-Err-clause-malformed g c = λ place is. record {
  ahead = c.lines.lines.ahead.now;
  now = c.lines.lines.number;
  after = c.lines.message;
  pushed = c.lines.invariant.0;
  is = c.in-Err.ensures.malformed place (search (rules, is));
}

pub returns-in-Err-Short-clause-short : goal.returns-in-Err-Short-clause-short
returns-in-Err-Short-clause-short g c = λ _.
    let some = if_some c.in-Ok.next _ _ c.in-Some.is c.in-Ok.ensures.some in
    let q = pushed_question c.parsed-qname.result c.in-Some.question.qtype c.in-Some.question.qclass in
    let message = c.lines.message in
    record {
      ahead = c.lines.lines.ahead.now;
      now = c.lines.lines.number;
      after = message;
      pushed = c.lines.invariant.0;
      is = record {
        value = q;
        words = codes "question" ∷ some.0;
        rest = c.next_question.new.lines.ahead.now;
        taken = some.1;
        said = (
          refl,
          subst (λ labels. IsQuestionText labels c.in-Some.question.qclass c.in-Some.question.qtype some.0)
              (sym c.parsed-qname.ensures) some.2,
        );
        entry = q;
        is = refl;
        exceeds = push_exceeds takes_questions g.T.Compressor.most
            (least_limit message.push_limit (message_limit g.B.AsOctets.limit)) q message.state message.header
            message.counts c.in-Err-Short.ensures.reaches (c.in-Err-Short.ensures.pushed.short (search rules));
      };
    }
