use Rattle.std.proofs.Common.{None, ◌∷◌, ◌∙◌, length, refl, sym, subst, inl, inr, rules}
use Rattle.octseq_dns_compose.specs.MessageText.{RecordLine}
use Rattle.octseq_dns_compose.specs.Read.{head_of}
use Rattle.octseq_dns_compose.specs.RecordText.{IsRecordText}
use Rattle.octseq_dns_compose.specs.TextLines.{IsNoneOf}
use Rattle.octseq.specs.Limit.{IsWithin}
use Rattle.octseq_dns_compose.proofs.MessageTexts.{if_none, if_some, pushed_more, pushed_none, pushed_same}
use Rattle.octseq_dns_compose.proofs.message.push_records.Goals as goal

pub lines-init : goal.lines-init
lines-init g c = (pushed_none, refl)

pub returns-in_default-clause-ok : goal.returns-in_default-clause-ok
returns-in_default-clause-ok g c =
    let none = if_none c.in-Ok.next _ (search rules) c.in-Ok.ensures.none in
    (pushed_same c.lines.invariant.0 none.1 none.2, subst (IsNoneOf c.args.section.now) (sym none.1) none.0)

pub lines-preserved : goal.lines-preserved
lines-preserved g c =
    let some = if_some c.in-Ok.next _ _ c.in-Some.is c.in-Ok.ensures.some in
    let pushed = c.in-Ok-push_record.ensures in
    let one : RecordLine = record { head = head_of c.in-Some.head; octets = c.as_ref.result.now } in (
      pushed_more one pushed.written.0 (c.args.section.now ∷ some.0) c.lines.invariant.0 some.1 some.3
          (refl, subst (IsRecordText None (head_of c.in-Some.head) some.0) (sym c.as_ref.ensures.value) some.2) (
            pushed.written.1,
            subst (λ l. IsWithin g.D.AsOctets.limit (length l)) (sym c.as_ref.ensures.value) c.as_ref.ensures.within,
          ) pushed.written.2 pushed.within pushed.push_limit,
      pushed.borrows ∙ c.lines.invariant.1,
    )

pub returns-in-Err-clause-malformed : goal.returns-in-Err-clause-malformed
returns-in-Err-clause-malformed g c = λ place is.
    let found = c.in-Err.ensures.malformed place (search (rules, is)) in
    record {
      ahead = c.lines.lines.ahead.now;
      now = c.lines.lines.number;
      after = c.lines.message;
      pushed = c.lines.invariant.0;
      is = (found.0, found.1, c.in-Err.ensures.first place (search (rules, is)));
    }

pub returns-in-Err-clause-short : goal.returns-in-Err-clause-short
returns-in-Err-clause-short g c = λ is. record {
  ahead = c.lines.lines.ahead.now;
  now = c.lines.lines.number;
  after = c.lines.message;
  pushed = c.lines.invariant.0;
  is = inr (c.in-Err.ensures.short (search (rules, is)));
}

pub returns-in-Err-clause-memory : goal.returns-in-Err-clause-memory
returns-in-Err-clause-memory g c = λ is. elim (c.in-Err.ensures.memory (search (rules, is))) [
  | inl asks ↦ inr (inr (inl asks))
  | inr list ↦ inr (inr (inr (record {
    ahead = c.lines.lines.ahead.now;
    now = c.lines.lines.number;
    after = c.lines.message;
    pushed = c.lines.invariant.0;
    is = list;
  })))
]

pub returns-in-Err-Short-clause-short : goal.returns-in-Err-Short-clause-short
returns-in-Err-Short-clause-short g c = λ _.
    let some = if_some c.in-Ok.next _ _ c.in-Some.is c.in-Ok.ensures.some in
    let pushed = c.in-Err-Short.ensures.short (search rules) in
    record {
      ahead = c.lines.lines.ahead.now;
      now = c.lines.lines.number;
      after = c.lines.message;
      pushed = c.lines.invariant.0;
      is = inl (record {
        value = record { head = head_of c.in-Some.head; octets = c.as_ref.result.now };
        words = c.args.section.now ∷ some.0;
        rest = c.next_record.new.lines.ahead.now;
        taken = some.1;
        said = (refl, subst (IsRecordText None (head_of c.in-Some.head) some.0) (sym c.as_ref.ensures.value) some.2);
        entry = pushed.0;
        is = (
          pushed.1,
          subst (λ l. IsWithin g.D.AsOctets.limit (length l)) (sym c.as_ref.ensures.value) c.as_ref.ensures.within,
        );
        exceeds = pushed.2;
      });
    }

pub returns-in-Err-Memory-clause-memory : goal.returns-in-Err-Memory-clause-memory
returns-in-Err-Memory-clause-memory g c = λ _.
    elim (c.in-Err-Memory.ensures.memory (search rules)) [ inl asks ↦ inl asks | inr asks ↦ inr (inl asks) ]
