use Rattle.octseq_text.proofs.Ends.{ends_1, more_1, ends_2, more_2, ends_3, more_3, ends_4}
use Rattle.octseq_text.proofs.str.ends.last_encoding.Goals as goal

pub returns-then-fourth-lt128-clause-some : goal.returns-then-fourth-lt128-clause-some
returns-then-fourth-lt128-clause-some c =
    rw c.from_u32_unchecked.ensures (ends_1 _ c.requires c.if-len-eq0.false c.from-fourth.ensures
    c.if-fourth-lt128.true).0

pub returns-then-fourth-lt128-clause-width : goal.returns-then-fourth-lt128-clause-width
returns-then-fourth-lt128-clause-width c =
    rw c.from_u32_unchecked.ensures (ends_1 _ c.requires c.if-len-eq0.false c.from-fourth.ensures
    c.if-fourth-lt128.true).1

pub overflow_sub-len-2 : goal.overflow_sub-len-2
overflow_sub-len-2 c =
    more_1 _ c.requires c.if-len-eq0.false c.from-fourth.ensures c.if-fourth-lt128.false

pub returns-then-third-ge192-clause-some : goal.returns-then-third-ge192-clause-some
returns-then-third-ge192-clause-some c =
    rw c.from_u32_unchecked-then-third-ge192.ensures (ends_2 _ c.requires c.if-len-eq0.false c.from-fourth.ensures
    c.if-fourth-lt128.false c.from-third.ensures c.if-third-ge192.true).0

pub returns-then-third-ge192-clause-width : goal.returns-then-third-ge192-clause-width
returns-then-third-ge192-clause-width c =
    rw c.from_u32_unchecked-then-third-ge192.ensures (ends_2 _ c.requires c.if-len-eq0.false c.from-fourth.ensures
    c.if-fourth-lt128.false c.from-third.ensures c.if-third-ge192.true).1

pub overflow_sub-len-3 : goal.overflow_sub-len-3
overflow_sub-len-3 c =
    (more_2 _ c.requires c.if-len-eq0.false c.from-fourth.ensures c.if-fourth-lt128.false c.from-third.ensures
    c.if-third-ge192.false).0

pub overflow_sub-number-then-second-ge224-2 : goal.overflow_sub-number-then-second-ge224-2
overflow_sub-number-then-second-ge224-2 c =
    (more_2 _ c.requires c.if-len-eq0.false c.from-fourth.ensures c.if-fourth-lt128.false c.from-third.ensures
    c.if-third-ge192.false).1

pub from_u32_unchecked-requires-then-second-ge224 : goal.from_u32_unchecked-requires-then-second-ge224
from_u32_unchecked-requires-then-second-ge224 c =
    (ends_3 _ c.requires c.if-len-eq0.false c.from-fourth.ensures c.if-fourth-lt128.false c.from-third.ensures
    c.if-third-ge192.false c.from-second.ensures c.if-second-ge224.true).0

pub returns-then-second-ge224-clause-some : goal.returns-then-second-ge224-clause-some
returns-then-second-ge224-clause-some c =
    rw c.from_u32_unchecked-then-second-ge224.ensures (ends_3 _ c.requires c.if-len-eq0.false c.from-fourth.ensures
    c.if-fourth-lt128.false c.from-third.ensures c.if-third-ge192.false c.from-second.ensures
    c.if-second-ge224.true).1.0

pub returns-then-second-ge224-clause-width : goal.returns-then-second-ge224-clause-width
returns-then-second-ge224-clause-width c =
    rw c.from_u32_unchecked-then-second-ge224.ensures (ends_3 _ c.requires c.if-len-eq0.false c.from-fourth.ensures
    c.if-fourth-lt128.false c.from-third.ensures c.if-third-ge192.false c.from-second.ensures
    c.if-second-ge224.true).1.1

pub overflow_sub-len-4 : goal.overflow_sub-len-4
overflow_sub-len-4 c =
    (more_3 _ c.requires c.if-len-eq0.false c.from-fourth.ensures c.if-fourth-lt128.false c.from-third.ensures
    c.if-third-ge192.false c.from-second.ensures c.if-second-ge224.false).0

pub overflow_sub-number-2 : goal.overflow_sub-number-2
overflow_sub-number-2 c =
    (ends_4 _ c.requires c.if-len-eq0.false c.from-fourth.ensures c.if-fourth-lt128.false c.from-third.ensures
    c.if-third-ge192.false c.from-second.ensures c.if-second-ge224.false c.from-first.ensures).0

pub overflow_sub-number-3 : goal.overflow_sub-number-3
overflow_sub-number-3 c =
    (more_3 _ c.requires c.if-len-eq0.false c.from-fourth.ensures c.if-fourth-lt128.false c.from-third.ensures
    c.if-third-ge192.false c.from-second.ensures c.if-second-ge224.false).1

pub overflow_sub-number-4 : goal.overflow_sub-number-4
overflow_sub-number-4 c =
    (more_2 _ c.requires c.if-len-eq0.false c.from-fourth.ensures c.if-fourth-lt128.false c.from-third.ensures
    c.if-third-ge192.false).1

pub from_u32_unchecked-requires-2 : goal.from_u32_unchecked-requires-2
from_u32_unchecked-requires-2 c =
    (ends_4 _ c.requires c.if-len-eq0.false c.from-fourth.ensures c.if-fourth-lt128.false c.from-third.ensures
    c.if-third-ge192.false c.from-second.ensures c.if-second-ge224.false c.from-first.ensures).1

pub returns-clause-some : goal.returns-clause-some
returns-clause-some c =
    rw c.from_u32_unchecked-2.ensures (ends_4 _ c.requires c.if-len-eq0.false c.from-fourth.ensures
    c.if-fourth-lt128.false c.from-third.ensures c.if-third-ge192.false c.from-second.ensures c.if-second-ge224.false
    c.from-first.ensures).2.0

pub returns-clause-width : goal.returns-clause-width
returns-clause-width c =
    rw c.from_u32_unchecked-2.ensures (ends_4 _ c.requires c.if-len-eq0.false c.from-fourth.ensures
    c.if-fourth-lt128.false c.from-third.ensures c.if-third-ge192.false c.from-second.ensures c.if-second-ge224.false
    c.from-first.ensures).2.1
