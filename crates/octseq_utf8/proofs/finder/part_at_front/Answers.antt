use Rattle.std.proofs.Common.{arith}
use Rattle.octseq_utf8.proofs.Splitting.{front_encoding, front_lead, front_cut, front_other, front_second}
use Rattle.octseq_utf8.proofs.finder.part_at_front.Goals as goal

pub returns-then-not-is_continuation : goal.returns-then-not-is_continuation
returns-then-not-is_continuation c = front_second c.args.octets.now c.if-octets-gt1.true c.if-octets-ge128.true
    (grind (arith, c.is_continuation.ensures, c.if-not-is_continuation.true))

pub returns-then-width-eq0 : goal.returns-then-width-eq0
returns-then-width-eq0 c = front_lead c.args.octets.now c.requires (cc (c.width-width.ensures))

pub returns-then-fitting-width : goal.returns-then-fitting-width
returns-then-fitting-width c =
    rw c.width-width.ensures
    (front_encoding c.args.octets.now c.requires (λ h. c.if-width-eq0.false (cc (c.width-width.ensures)))
    (cc (c.fitting_len-fitting.ensures, c.width-width.ensures)))

pub returns-then-fitting-octets : goal.returns-then-fitting-octets
returns-then-fitting-octets c =
    front_cut c.args.octets.now c.requires (λ h. c.if-width-eq0.false (cc (c.width-width.ensures)))
    (λ h. c.if-fitting-width.false (cc (c.fitting_len-fitting.ensures, c.width-width.ensures)))
    (cc (c.fitting_len-fitting.ensures))

pub returns-else-fitting-octets : goal.returns-else-fitting-octets
returns-else-fitting-octets c =
    rw c.fitting_len-fitting.ensures
    (front_other c.args.octets.now c.requires (λ h. c.if-width-eq0.false (cc (c.width-width.ensures)))
    (λ h. c.if-fitting-width.false (cc (c.fitting_len-fitting.ensures, c.width-width.ensures)))
    (λ h. c.if-fitting-octets.false (cc (c.fitting_len-fitting.ensures))))
