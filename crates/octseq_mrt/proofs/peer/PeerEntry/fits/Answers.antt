use Rattle.std.proofs.Common.{arith}
use Rattle.std.proofs.lemmas.Grind.{common_steps}
use Rattle.octseq_mrt.proofs.peer.PeerEntry.fits.Goals as goal

pub returns-then-has_family : goal.returns-then-has_family
returns-then-has_family c =
    let asn = c.fits_asn.ensures in (
      λ yes. record {
        peer_type = grind (arith, common_steps);
        bgp_id = grind (arith, common_steps);
        addr = rw (← c.peer_family.ensures) (c.is_of_family-has_family.ensures.0 c.if-has_family.true);
        asn = rw (← c.has_wide_asn.ensures) (asn.0 yes);
      },
      λ fits. asn.1 (rw c.has_wide_asn.ensures fits.asn),
    )
