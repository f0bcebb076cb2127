use Rattle.std.proofs.Common.{◌++◌, ◌∷◌, [], sym, ap, ◌∙◌, arith, get_or}
use Rattle.octseq.specs.Integer.{octets_be}
use Rattle.octseq.proofs.Written.{made_be_2}
use Rattle.octseq_bgp.specs.Family.{afi_number}
use Rattle.octseq_bgp.proofs.Octets.{one_octet}
use Rattle.octseq_bgp.proofs.message.rewriting.attributes.front_of.Goals as goal

pub returns : goal.returns
unfolding octets_be
returns c =
    let safi = c.safi_number.result in
    ap (λ a. get_or a 0 0 ∷ get_or a 1 0 ∷ safi ∷ []) c.to_be_bytes-afi.ensures
    ∙ ap (λ a. a ++ safi ∷ []) (made_be_2 c.afi_number.result ∙ ap (octets_be 2) c.afi_number.ensures)
    ∙ ap (λ s. octets_be 2 (afi_number c.args.family) ++ s)
    (sym (one_octet safi (omega arith)) ∙ ap (octets_be 1) c.safi_number.ensures)
