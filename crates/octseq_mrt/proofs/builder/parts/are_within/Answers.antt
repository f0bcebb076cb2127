use Rattle.std.proofs.Common.{ℕ, List, Bor, [], arith}
use Rattle.std.proofs.lemmas.List.Folds.{length-flat_map-take}
use Rattle.octseq_mrt.proofs.builder.parts.are_within.Goals as goal

pub returns-then-part-left : goal.returns-then-part-left
returns-then-part-left c =
    let long = length-flat_map-take (λ (p : Bor (List ℕ)). p.now) c.args.parts.now _
    (record { ref_ptr = (0, 0); now = [] }) c.loop-part-test.true in
    (λ yes. cc, λ few. absurd (omega (arith, long, few)))
