use Rattle.std.proofs.Common.{◌++◌, length, drop, ap, sym, ◌∙◌, refl, subst, arith}
use Rattle.octseq.specs.Text.{IsWellFormed}
use Rattle.octseq_dns_message.proofs.MessageTexts.{one_message_text}
use Rattle.octseq_c.proofs.Puts.{puts_ok, puts_no_room, puts_none}
use Rattle.octseq_c.proofs.text.put_text.Goals as goal

pub returns-in_default-clause-puts : goal.returns-in_default-clause-puts
returns-in_default-clause-puts c = puts_none 8 (omega arith) (one_message_text _ _ _ _ _)

pub returns-else-put_whole-clause-puts : goal.returns-else-put_whole-clause-puts
returns-else-put_whole-clause-puts c = puts_none 8 (omega arith) (one_message_text _ _ _ _ _)

pub returns-then-len-out-clause-puts : goal.returns-then-len-out-clause-puts
returns-then-len-out-clause-puts c =
    let (text, is, long) = c.in-Some.ensures in
    puts_no_room (one_message_text _ _ _ _ _) text is (omega (arith, long, c.if-len-out.true)) long

pub returns-then-put_whole-clause-puts : goal.returns-then-put_whole-clause-puts
returns-then-put_whole-clause-puts c =
    let shown = c.if-put_whole.ensures.shown refl in
    let (text, is, long) = c.in-Some.ensures in
    let same = one_message_text _ _ _ _ _ _ _ shown.0 is in
    puts_ok (one_message_text _ _ _ _ _) c.put_whole.new.out shown.0
    (omega (arith, ap length same, long, c.if-len-out.false)) (long ∙ sym (ap length same))
    (ap (λ k. c.put_whole.new.out ++ drop k c.args.out.now) (omega (arith, ap length same, long)))

pub returns-then-put_whole-clause-utf8 : goal.returns-then-put_whole-clause-utf8
returns-then-put_whole-clause-utf8 c = λ ok text is.
    let shown = c.if-put_whole.ensures.shown refl in
    subst IsWellFormed (one_message_text _ _ _ _ _ _ _ shown.0 is) shown.1
