use Rattle.std.proofs.Common.{◌++◌, [], ◌∷◌, refl, arith}
use Rattle.octseq.specs.Parser.{window}
use Rattle.octseq_format.proofs.RowSteps.{many_ends, many_more}
use Rattle.octseq_mrt.specs.OneListed.{one_peer, peer_moves}
use Rattle.octseq_mrt.specs.Parsed.{peer_of}
use Rattle.octseq_mrt.specs.Peer.{IsPeer}
use Rattle.octseq_mrt.proofs.peer.skip_peers.Goals as goal

pub returns-in_err-_peer-clause-malformed : goal.returns-in_err-_peer-clause-malformed
returns-in_err-_peer-clause-malformed g c = λ _.
    let all = c.loop-taken.invariant.all in
    many_ends IsPeer one_peer (window c.args.parser.now) (window c.loop-taken.parser) c.loop-taken.taken c.args.count
    all.0 (c.in_err-_peer.ensures.malformed refl) (omega arith) all.1

pub loop-taken-preserved : goal.loop-taken-preserved
loop-taken-preserved g c =
    let so_far = c.loop-taken.invariant in
    let u = window c.loop-taken.parser in
    let v = window c.parse.new.parser in
    let one = peer_of c.in_ok-_peer._peer in
    let is = c.in_ok-_peer.ensures.peer in
    let less = peer_moves.on u one v is in
    let more = many_more IsPeer (window c.args.parser.now) u v c.loop-taken.taken so_far.all.0 one so_far.all.1 is in
    record {
      all = (so_far.all.0 ++ one ∷ [], more);
      least = omega (arith, so_far.least, c.tick.ensures);
      turns = omega (arith, so_far.turns, c.tick.ensures, less);
    }
