use Rattle.std.proofs.Common.{◌≡◌, ◌+◌, ◌++◌, ◌∷◌, [], length, take, arith, ap, ◌∙◌, set, sym}
use Rattle.std.specs.Prelude.{slice_range}
use Rattle.octseq.specs.Integer.{octets_be}
use Rattle.octseq.proofs.Written.{made_be_4, length_be}
use borrow.Rule.Slice.PartMut.{put_mid}
use Rattle.octseq_bgp.specs.PrefixValue.{address_from}
use Rattle.octseq_bgp.specs.Written.{path_id_octets}
use Rattle.octseq_bgp.proofs.Octets.{made, with_id, without_id, one_octet}
use Rattle.octseq_bgp.proofs.message.update_builder.prefix_octets.PrefixOctets.new.Goals as goal
use Rattle.octseq_bgp.proofs.message.update_builder.prefix_octets.PrefixOctets.new.Goals.{in-Some, in-None}

pub returns-clause-octets : goal.returns-clause-octets
returns-clause-octets c =
    let id = c.copy_from_slice.new.self in
    let address = c.copy_from_slice-2.new.self in
    let bits = c.args.prefix.now.len in
    let n = c.octets_of_bits-len.result in
    let whole = put_mid 5 16
    (set (id ++ 0 ∷ 0 ∷ 0 ∷ 0 ∷ 0 ∷ 0 ∷ 0 ∷ 0 ∷ 0 ∷ 0 ∷ 0 ∷ 0 ∷ 0 ∷ 0 ∷ 0 ∷ 0 ∷ 0 ∷ []) 4 bits) address in
    let tail : bits ∷ take n address ≡ octets_be 1 bits ++ address_from n 0 bits c.args.prefix.now.address =
    ap (λ o. bits ∷ o) (ap (take n) c.copy_from_slice-2.ensures.after ∙ c.cleared_address-address.ensures)
    ∙ ap (λ o. o ++ address_from n 0 bits c.args.prefix.now.address)
    (sym (one_octet bits (omega (arith, c.requires)))) in
    let all = ap (λ k. path_id_octets c.args.path_id
    ++ (octets_be 1 bits ++ address_from k 0 bits c.args.prefix.now.address))
    c.octets_of_bits-len.ensures.octets in
    let copied = c.copy_from_slice.ensures.after in
    elim c.match-path_id.branch [
      | in-Some w ↦
          let id_is = copied ∙ ap (λ p. p.0) w.start-is ∙ w.to_be_bytes.ensures ∙ made_be_4 w.in-Some.id.0 in
          let long = ap length id_is ∙ length_be 4 w.in-Some.id.0 in
          ap (λ s. slice_range whole s (5 + n)) (ap (λ p. p.1) w.start-is)
          ∙ ap (λ o. slice_range o 0 (5 + n)) (made id address bits long) ∙ with_id id address bits n long
          ∙ ap (λ i. i ++ bits ∷ take n address) (id_is ∙ ap path_id_octets (sym w.in-Some.is))
          ∙ ap (λ o. path_id_octets c.args.path_id ++ o) tail ∙ all
      | in-None w ↦
          let long = ap length (copied ∙ ap (λ p. p.0) w.start-is) in
          ap (λ s. slice_range whole s (5 + n)) (ap (λ p. p.1) w.start-is)
          ∙ ap (λ o. slice_range o 4 (5 + n)) (made id address bits long) ∙ without_id id address bits n long
          ∙ ap (λ p. path_id_octets p ++ bits ∷ take n address) (sym w.in-None.is)
          ∙ ap (λ o. path_id_octets c.args.path_id ++ o) tail ∙ all
    ]
