use Rattle.std.proofs.Common.{arith}
use Rattle.std.proofs.lemmas.Grind.{common_steps}
use Rattle.octseq_core.proofs.Padding.{is_padded}
use Rattle.octseq_core.proofs.array.ArrayTryFromRefSliceU8.try_from.Goals as goal

pub returns-in-Ok : goal.returns-in-Ok
returns-in-Ok g c = (
  grind (arith, common_steps),
  is_padded g.row.N c.append_slice.new.self c.args.slice.now (grind (arith, common_steps))
      (grind (arith, common_steps)),
)
