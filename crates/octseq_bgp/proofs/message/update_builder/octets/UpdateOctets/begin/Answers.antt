use Rattle.std.proofs.Common.{[], refl, ap, length, arith}
use Rattle.octseq.specs.Integer.{octets_be}
use Rattle.octseq_bgp.specs.Composed.{header_octets}
use Rattle.octseq_bgp.proofs.UpdateParts.{known}
use Rattle.octseq_bgp.proofs.message.update_builder.octets.UpdateOctets.begin.Goals as goal

pub invariant_of-result : goal.invariant_of-result
unfolding header_octets octets_be
invariant_of-result g c =
    known c.in-Ok.octets [] [] [] c.in-Ok.ensures.ok refl refl (omega (arith, ap length c.in-Ok.ensures.ok))
