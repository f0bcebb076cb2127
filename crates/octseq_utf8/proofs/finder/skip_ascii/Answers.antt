use Rattle.std.proofs.Common.{◌≡◌, ◌<◌, take, drop, subst, arith}
use Rattle.std.specs.List.{All}
use Rattle.octseq_utf8.proofs.Search.{passes_on, search_jump, search_lane}
use Rattle.octseq_utf8.proofs.finder.skip_ascii.Goals as goal

pub returns-then-low-lt16-clause-passed : goal.returns-then-low-lt16-clause-passed
returns-then-low-lt16-clause-passed c start before =
    let few = c.if-low-lt16.true in
    rw c.pass.ensures
    (search_jump c.args.octets.now c.loop-at.at c.loop-at.turns c.ascii_len-low.result few
    (omega (arith, c.saturating_sub-lanes.ensures)) c.ascii_len-low.ensures.low (c.ascii_len-low.ensures.high few) start
    (c.loop-at.invariant.passed start before))

pub loop-at-preserved : goal.loop-at-preserved
loop-at-preserved c =
    let all : c.ascii_len-low.result ≡ 16 = omega (arith, c.ascii_len-low.ensures.few) in
    rw c.tick.ensures
    (passes_on c.loop-at.invariant (omega arith)
    (search_lane c.args.octets.now c.loop-at.at c.loop-at.turns (omega (arith, c.saturating_sub-lanes.ensures))
    (subst (λ n. All (λ o. o < 0x80) (take n (drop c.loop-at.at c.args.octets.now))) all c.ascii_len-low.ensures.low)))
