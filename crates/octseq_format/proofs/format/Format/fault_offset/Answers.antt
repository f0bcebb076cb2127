use Rattle.std.proofs.Common.{rules}
use Rattle.octseq_format.proofs.format.Format.fault_offset.Goals as goal

pub returns-clause-none : goal.returns-clause-none
returns-clause-none g c = λ _. (g.Self.Format.found c.in-Ok._value, search rules)
