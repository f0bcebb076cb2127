use Rattle.std.proofs.Common.{refl, arith}
use Rattle.std.proofs.lemmas.Grind.{common_steps}
use Rattle.octseq_mrt.proofs.address.is_of_family.Goals as goal

pub returns-in-V4-Ipv4-2 : goal.returns-in-V4-Ipv4-2
returns-in-V4-Ipv4-2 c =
    rw (c.in-V4-Ipv4.is-0, c.in-V4-Ipv4.is-1) (λ _. grind (arith, common_steps), λ _. refl)
