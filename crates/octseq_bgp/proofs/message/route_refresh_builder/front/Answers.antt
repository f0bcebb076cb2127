use Rattle.std.proofs.Common.{ℕ, List, [], ◌∷◌, ◌++◌, ap, ◌∙◌, replicate}
use Rattle.std.specs.Prelude.{slice_index_or}
use Rattle.octseq.proofs.Written.{made_be_2}
use Rattle.octseq.specs.Integer.{octets_be}
use Rattle.octseq_bgp.specs.Composed.{header_octets}
use Rattle.octseq_bgp.proofs.message.route_refresh_builder.front.Goals as goal

pub returns : goal.returns
unfolding header_octets octets_be
returns c =
    ap (λ (r : List ℕ). replicate 16 255 ++ 0 ∷ 23 ∷ 5 ∷ slice_index_or r 0 0 ∷ slice_index_or r 1 0
    ∷ c.args.subtype ∷ c.args.safi ∷ []) (c.to_be_bytes-afi.ensures ∙ made_be_2 c.args.afi)
