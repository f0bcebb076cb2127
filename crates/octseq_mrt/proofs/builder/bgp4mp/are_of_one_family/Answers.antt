use Rattle.std.proofs.Common.{refl, arith}
use Rattle.std.proofs.lemmas.Grind.{common_steps}
use Rattle.octseq_mrt.proofs.builder.bgp4mp.are_of_one_family.Goals as goal

pub returns-in-V4-V4-2-clause-of : goal.returns-in-V4-V4-2-clause-of
returns-in-V4-V4-2-clause-of c = rw (c.in-V4-V4.is-0, c.in-V4-V4.is-1) (λ _. grind (arith, common_steps), λ _. refl)

pub returns-in-V4-V4-2-clause-fits : goal.returns-in-V4-V4-2-clause-fits
returns-in-V4-V4-2-clause-fits c = rw c.in-V4-V4.is-0 (λ _. grind (arith, common_steps))
