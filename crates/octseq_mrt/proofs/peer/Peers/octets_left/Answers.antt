use Rattle.std.proofs.Common.{arith}
use Rattle.octseq.specs.Parser.{window}
use Rattle.octseq_mrt.specs.Listed.{peers_listed}
use Rattle.octseq_mrt.proofs.Filled.{ahead_fits}
use Rattle.octseq_mrt.proofs.peer.Peers.octets_left.Goals as goal

pub returns : goal.returns
returns g c =
    let fits = ahead_fits peers_listed (window c.args.self.now.parser) c.args.self.now.ahead in
    omega (arith, c.remaining.ensures.left, fits)
