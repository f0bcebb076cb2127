use Rattle.std.proofs.Common.{refl}
use Rattle.std.proofs.lemmas.Result.{IfOk-weaker}
use Rattle.octseq_bgp_tool.proofs.engine.records.piece_of_octets.Goals as goal

pub unreachable-requires : goal.unreachable-requires
unreachable-requires g c = c.in-Err.ensures.malformed refl c.requires.0 c.requires.1

pub returns : goal.returns
returns g c =
    IfOk-weaker c.piece_of.result _ _ (λ piece is. is (g.R.AsOctets.content c.args.octets) c.in-Ok.ensures.«record»)
    c.piece_of.ensures
