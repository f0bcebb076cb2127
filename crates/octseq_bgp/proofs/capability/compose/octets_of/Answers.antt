use Rattle.std.proofs.Common.{ℕ, List, [], ◌∷◌, ◌++◌, Fits, w8, ap, ◌∙◌, arith}
use Rattle.std.specs.Prelude.{slice_index_or}
use Rattle.octseq.proofs.Written.{made_be_1, made_be_2}
use Rattle.octseq.specs.Integer.{octets_be}
use Rattle.octseq_bgp.proofs.capability.compose.octets_of.Goals as goal

pub returns-clause-octets : goal.returns-clause-octets
unfolding octets_be
returns-clause-octets c =
    let t = c.args.tuple.now in
    let safi : Fits w8 t.safi = omega arith in
    let flags : Fits w8 t.flags = omega arith in
    ap (λ (r : List ℕ). slice_index_or r 0 0 ∷ slice_index_or r 1 0 ∷ t.safi ∷ t.flags ∷ [])
    (c.to_be_bytes-afi.ensures ∙ made_be_2 t.afi)
    ∙ ap (λ o. octets_be 2 t.afi ++ (o ++ t.flags ∷ [])) (made_be_1 t.safi safi)
    ∙ ap (λ o. octets_be 2 t.afi ++ (octets_be 1 t.safi ++ o)) (made_be_1 t.flags flags)
