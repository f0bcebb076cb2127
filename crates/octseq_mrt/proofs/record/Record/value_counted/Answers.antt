use Rattle.std.proofs.Common.{refl}
use mathlib.Core.Logic.{inr}
use Rattle.octseq_mrt.proofs.record.Record.value_counted.Goals as goal

pub returns-in-Err-clause-value : goal.returns-in-Err-clause-value
returns-in-Err-clause-value g c = inr (refl, c.in-Err.ensures.malformed refl)
