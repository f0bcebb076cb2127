use Rattle.std.proofs.Common.{arith}
use Rattle.octseq_c.proofs.OneRewriting.{no_memory}
use Rattle.octseq_c.proofs.write.rewrite_to.Goals as goal

pub returns-in-Ok-clause-made : goal.returns-in-Ok-clause-made
returns-in-Ok-clause-made c =
    let made = c.in-Ok.ensures.made in
    let short = made.2 in
    (made.0, made.1, omega (arith, short), made.3)

pub unreachable-requires : goal.unreachable-requires
unreachable-requires c =
    absurd (no_memory c.in-Err-Memory.field-0 c.in-Err-Memory.field-0-is (λ ok. cc) c.in-Err-Memory.ensures.only)
