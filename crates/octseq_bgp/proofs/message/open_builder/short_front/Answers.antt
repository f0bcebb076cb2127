use Rattle.std.proofs.Common.{ℕ, List, [], ◌∷◌, ◌++◌, ap, replicate}
use Rattle.std.specs.Prelude.{slice_index_or}
use Rattle.octseq.specs.Integer.{octets_be}
use Rattle.octseq_bgp.specs.Composed.{header_octets}
use Rattle.octseq_bgp.proofs.message.open_builder.short_front.Goals as goal

pub returns : goal.returns
unfolding header_octets octets_be
returns c =
    ap (λ (n : List ℕ). replicate 16 255 ++ 0 ∷ 29 ∷ 1 ∷ 4 ∷ slice_index_or n 0 0 ∷ slice_index_or n 1 0
    ∷ slice_index_or n 2 0 ∷ slice_index_or n 3 0 ∷ slice_index_or n 4 0 ∷ slice_index_or n 5 0
    ∷ slice_index_or n 6 0 ∷ slice_index_or n 7 0 ∷ 0 ∷ []) c.numbers-n.ensures
