use Rattle.std.proofs.Common.{◌-◌, refl, rules, arith}
use Rattle.octseq_format.proofs.Ders.{empty, cut, many, zero_head, small, first_itself, leads}
use Rattle.octseq_format.proofs.der.leading.Goals as goal

pub returns-in_err-first-clause-none : goal.returns-in_err-first-clause-none
returns-in_err-first-clause-none c = λ _. empty c.args.octets.now (search rules)

pub returns-then-first-lt128-clause-some : goal.returns-then-first-lt128-clause-some
returns-then-first-lt128-clause-some c =
    first_itself c.from-first.result c.args.octets.now (search rules) c.if-first-lt128.true (search rules)

pub returns-then-first-gt136-clause-none : goal.returns-then-first-gt136-clause-none
returns-then-first-gt136-clause-none c = λ _.
    many c.from-first.result c.args.octets.now (search rules) c.if-first-gt136.true

pub returns-in_err-after-clause-none : goal.returns-in_err-after-clause-none
returns-in_err-after-clause-none c = λ _.
    cut c.from-first.result c.args.octets.now (search rules) c.if-first-lt128.false (search rules)

pub returns-then-number-lt128-clause-none : goal.returns-then-number-lt128-clause-none
returns-then-number-lt128-clause-none c = λ _.
    small c.from-first.result (c.from-first.result - 127) c.args.octets.now (search rules) c.if-first-lt128.false refl
    (search rules)

pub returns-then-after-eq0-clause-none : goal.returns-then-after-eq0-clause-none
returns-then-after-eq0-clause-none c = λ _.
    zero_head c.from-first.result (c.from-first.result - 127) c.args.octets.now (search rules) c.if-first-lt128.false
    refl (search rules)

pub returns-clause-some : goal.returns-clause-some
returns-clause-some c =
    leads c.from-first.result (c.from-first.result - 127) c.args.octets.now (search rules) c.if-first-lt128.false
    c.if-first-gt136.false refl (search rules) _ (search rules) c.if-number-lt128.false (search rules)
