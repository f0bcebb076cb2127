use Rattle.std.proofs.Common.{arith}
use Rattle.std.proofs.lemmas.Grind.{common_steps}
use Rattle.std.proofs.lemmas.Slice.{drop-put_mid}
use Rattle.octseq_core.proofs.array.ArrayOctetsBuilder.append_slice.Goals as goal

pub returns-clause-hidden : goal.returns-clause-hidden
returns-clause-hidden g c = rw (← c.self.view_is) (grind (arith, common_steps, drop-put_mid))
