use Rattle.std.proofs.Common.{◌+◌, ◌-◌, ◌++◌, ◌∷◌, [], sym, ap, ◌∙◌, arith, length, take, get_or, replicate}
use Rattle.std.proofs.Common.{append_assoc}
use Rattle.octseq.specs.Integer.{octets_be}
use Rattle.octseq.proofs.Written.{made_be_2}
use borrow.Rule.Slice.PartMut.{put_mid}
use Rattle.octseq_bgp.specs.Family.{afi_number, safi_number}
use Rattle.octseq_bgp.proofs.Fronts.{front_put}
use Rattle.octseq_bgp.proofs.Octets.{one_octet}
use Rattle.octseq_bgp.proofs.message.update_builder.front.Front.new.Goals as goal

pub returns : goal.returns
returns c =
    let hops = c.args.next_hops.now in
    let k = length hops in
    let afi = c.to_be_bytes-afi.result in
    let safi = c.safi_number.result in
    ap (λ o. take (5 + k) (put_mid 4 (4 + k - 4) (get_or afi 0 0 ∷ get_or afi 1 0 ∷ safi ∷ k ∷ replicate 33 0) o))
    c.copy_from_slice.ensures.after
    ∙ front_put (get_or afi 0 0) (get_or afi 1 0) safi k (4 + k - 4) hops c.requires (omega arith)
    ∙ ap (λ a. get_or a 0 0 ∷ get_or a 1 0 ∷ safi ∷ k ∷ (hops ++ 0 ∷ [])) c.to_be_bytes-afi.ensures
    ∙ ap (λ a. a ++ safi ∷ k ∷ (hops ++ 0 ∷ [])) (made_be_2 c.afi_number.result ∙ ap (octets_be 2) c.afi_number.ensures)
    ∙ ap (λ s. octets_be 2 (afi_number c.args.family) ++ (s ++ k ∷ (hops ++ 0 ∷ [])))
    (sym (one_octet safi (omega arith)) ∙ ap (octets_be 1) c.safi_number.ensures)
    ∙ ap (λ o. octets_be 2 (afi_number c.args.family) ++ (octets_be 1 (safi_number c.args.family) ++ o))
    (ap (λ x. x ++ (hops ++ 0 ∷ [])) (sym (one_octet k (omega (arith, c.requires))))
    ∙ sym (append_assoc (octets_be 1 k) hops (0 ∷ [])))
