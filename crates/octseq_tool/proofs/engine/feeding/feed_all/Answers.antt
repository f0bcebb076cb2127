use Rattle.std.proofs.Common.{[], arith}
use Rattle.std.proofs.KnownBytes.{Consumes-nil}
use Rattle.octseq_tool.proofs.Feeding.{fed_more, lost_more}
use Rattle.octseq_tool.proofs.engine.feeding.feed_all.Goals as goal
use Rattle.octseq.proofs.Errors.{on_err}

pub loop-init : goal.loop-init
loop-init g c =
    let room = c.in_ok-piece.ensures.len in
    let none = Consumes-nil (g.R.Read.remaining c.args.reader.now) in
    (record { octets = []; consumed = none; read = c.requires }, omega arith)

pub feed_next-requires : goal.feed_next-requires
feed_next-requires g c = let room = c.as_mut_slice.ensures.len in let some = c.loop.invariant.1 in omega arith

pub returns-then-not-branch-clause-ok : goal.returns-then-not-branch-clause-ok
returns-then-not-branch-clause-ok g c =
    let said = c.in_ok-feed_next.ensures.fed in
    let fed = fed_more c.loop.invariant.0 (g.R.Read.remaining c.feed_next.new.reader) c.feed_next.new.fed said.0 said.1
    said.2 in
    (fed.octets, fed.read, fed.consumed)

pub loop-preserved : goal.loop-preserved
loop-preserved g c =
    let said = c.in_ok-feed_next.ensures.fed in
    let fed = fed_more c.loop.invariant.0 (g.R.Read.remaining c.feed_next.new.reader) c.feed_next.new.fed said.0 said.1
    said.2 in
    (fed, c.loop.invariant.1)

pub returns-in_err-feed_next-clause-lost : goal.returns-in_err-feed_next-clause-lost
returns-in_err-feed_next-clause-lost g c =
    on_err c.from_residual-in_err-feed_next.result
    (lost_more c.loop.invariant.0 (g.R.Read.remaining c.feed_next.new.reader) c.in_err-feed_next.ensures.lost)
