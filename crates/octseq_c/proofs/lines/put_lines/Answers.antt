use Rattle.std.proofs.Common.{◌++◌, drop, length, ap, sym, ◌∙◌, refl, subst, arith}
use Rattle.octseq.specs.Text.{IsWellFormed}
use Rattle.octseq_c.proofs.Puts.{puts_ok, puts_no_room, puts_none}
use Rattle.octseq_c.proofs.lines.put_lines.Goals as goal

pub returns-in_default-clause-puts : goal.returns-in_default-clause-puts
returns-in_default-clause-puts g c = puts_none 8 (omega arith) c.requires.one

pub returns-else-put_whole-clause-puts : goal.returns-else-put_whole-clause-puts
returns-else-put_whole-clause-puts g c = puts_none 8 (omega arith) c.requires.one

pub returns-then-len-out-clause-puts : goal.returns-then-len-out-clause-puts
returns-then-len-out-clause-puts g c =
    let (text, is, long) = c.in-Some.ensures in
    puts_no_room c.requires.one text is (omega (arith, long, c.if-len-out.true)) long

pub returns-then-put_whole-clause-puts : goal.returns-then-put_whole-clause-puts
returns-then-put_whole-clause-puts g c =
    let shown = c.if-put_whole.ensures.shown refl in
    let (text, is, long) = c.in-Some.ensures in
    let same = c.requires.one _ _ shown.0 is in
    puts_ok c.requires.one c.put_whole.new.out shown.0
    (omega (arith, ap length same, long, c.if-len-out.false)) (long ∙ sym (ap length same))
    (ap (λ k. c.put_whole.new.out ++ drop k c.args.out.now) (omega (arith, ap length same, long)))

pub returns-then-put_whole-clause-utf8 : goal.returns-then-put_whole-clause-utf8
returns-then-put_whole-clause-utf8 g c = λ ok text is.
    let shown = c.if-put_whole.ensures.shown refl in
    subst IsWellFormed (c.requires.one _ _ shown.0 is) shown.1
