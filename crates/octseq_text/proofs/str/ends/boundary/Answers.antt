use Rattle.std.proofs.Common.{arith}
use Rattle.std.proofs.lemmas.Bool.Decides.{nat_tests}
use Rattle.octseq_text.proofs.Boundaries.{boundary_here, boundary_end}
use Rattle.octseq_text.proofs.str.ends.boundary.Goals as goal

pub returns-in-Some-clause-between : goal.returns-in-Some-clause-between
returns-in-Some-clause-between c =
    let b = boundary_here _ c.requires c.args.place (grind (arith, nat_tests)) in
    (λ h. b.0 (grind (arith, nat_tests)), λ h. let out = b.1 h in grind (arith, nat_tests))

pub returns-in-None-clause-between : goal.returns-in-None-clause-between
returns-in-None-clause-between c =
    let b = boundary_end _ c.requires c.args.place (grind (arith, nat_tests)) in
    (λ h. b.0 (grind (arith, nat_tests)), λ h. let at = b.1 h in grind (arith, nat_tests))
