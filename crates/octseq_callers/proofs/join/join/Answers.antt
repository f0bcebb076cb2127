use Rattle.std.proofs.Common.{suc, Bor, get_or, ◌++◌, [], List, ℕ, drop, map, rules, refl, sym, ap, ◌∙◌, append_assoc}
use Rattle.octseq_callers.proofs.Joins.{spread, to_come_first, to_come_word, within_still, past_whole}
use Rattle.octseq_callers.specs.Joined.{joined}
use Rattle.octseq_callers.proofs.join.join.Goals as goal
use Rattle.octseq.proofs.Errors.{on_err}

pub returns-in_err-try_push_str-clause-front : goal.returns-in_err-try_push_str-clause-front
returns-in_err-try_push_str-clause-front g c = on_err c.from_residual.result (
  joined c.args.separator.now (map (λ word. word.now) c.args.words.now),
  ap (λ t. t ++ joined c.args.separator.now (map (λ word. word.now) c.args.words.now))
      c.in_err-try_push_str.ensures.appended.err,
)

pub loop-word-init : goal.loop-word-init
loop-word-init g c = (
  to_come_first (λ word. word.now) c.args.separator.now (g.B.AsOctets.content c.args.text.now)
      (g.B.AsOctets.content c.try_push_str.new.self)
      c.args.words.now c.in-Some.others.now c.in-Some.first.now c.in-Some.ensures.cases.0
      c.in_ok-try_push_str.ensures.appended.ok,
  within_still g.B.AsOctets.limit (g.B.AsOctets.content c.args.text.now) c.in-Some.first.now.now
      (g.B.AsOctets.content c.try_push_str.new.self) c.in_ok-try_push_str.ensures.appended.ok
      c.in_ok-try_push_str.ensures.appended.short.1,
  c.in_ok-try_push_str.ensures.borrows,
)

pub returns-in_err-try_push_str-2-clause-short : goal.returns-in_err-try_push_str-2-clause-short
returns-in_err-try_push_str-2-clause-short g c = λ short.
    let default : Bor (List ℕ) = record { ref_ptr = (0, 0); now = [] } in
    let text = g.B.AsOctets.content c.loop-word.text in
    let separator = c.args.separator.now in
    let all = g.B.AsOctets.content c.args.text.now ++ joined separator (map (λ word. word.now) c.args.words.now) in
    let more = (get_or c.in-Some.others.now c.loop-word.word-index default).now
    ++ spread separator (map (λ word. word.now) (drop (suc c.loop-word.word-index) c.in-Some.others.now)) in
    past_whole g.B.AsOctets.limit text separator more all
    (sym (append_assoc text separator more) ∙ to_come_word (λ word. word.now) separator text (text ++ separator) all
    c.in-Some.others.now default c.loop-word.word-index
    c.loop-word-test.true c.loop-word.invariant.0 refl)
    (c.in_err-try_push_str-2.ensures.appended.short.0 (search rules))
