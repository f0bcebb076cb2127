use Rattle.std.proofs.Common.{◌++◌, ◌∷◌, [], refl, ap, ◌∙◌}
use Rattle.octseq_bgp.proofs.Fronts.{second_put}
use Rattle.octseq_bgp.proofs.message.update_builder.front.joined.Goals as goal

pub returns : goal.returns
returns c =
    second_put c.copy_from_slice.new.self (0 ∷ 0 ∷ 0 ∷ 0 ∷ 0 ∷ 0 ∷ 0 ∷ 0 ∷ 0 ∷ 0 ∷ 0 ∷ 0 ∷ 0 ∷ 0 ∷ 0 ∷ 0 ∷ [])
    c.copy_from_slice-2.new.self c.copy_from_slice.ensures.len refl
    ∙ ap (λ a. a ++ c.copy_from_slice-2.new.self) c.copy_from_slice.ensures.after
    ∙ ap (λ b. c.args.first.now ++ b) c.copy_from_slice-2.ensures.after
