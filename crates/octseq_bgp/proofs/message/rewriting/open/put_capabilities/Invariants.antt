-- If those ahead are appended to what there is, all are to what there was. Those ahead may be.
use Rattle.std.proofs.Common.{◌≡◌, ◌+◌, false, length}
use Rattle.octseq.specs.Limit.{IsWithin}
use Rattle.octseq_bgp.specs.CapabilityOf.{capabilities_left}
use Rattle.octseq_bgp.specs.RewrittenOpen.{AreItemsSound, IsCapabilityAnew, said_octets}
use Rattle.octseq_bgp.specs.WrittenOpen.{parameter_octets}
use Rattle.octseq_bgp.proofs.Appending.{Goes}
use Rattle.octseq_bgp.proofs.message.rewriting.open.put_capabilities.Given as goal

abbrev pub invariant-capabilities : goal.invariant-capabilities
invariant-capabilities g l =
    let b = g.B.AsOctets in
    record {
      goes : Goes IsCapabilityAnew (parameter_octets false) (capabilities_left l.fn.capabilities)
          (capabilities_left l.ahead) (b.content l.fn.octets) (b.content l.octets);
      sound : AreItemsSound (capabilities_left l.ahead);
      within : IsWithin b.limit (length (b.content l.octets) + length (said_octets false (capabilities_left l.ahead)));
      borrows : b.borrows l.octets ≡ b.borrows l.fn.octets;
    }

abbrev pub decreases-capabilities : goal.decreases-capabilities
decreases-capabilities g l = length (capabilities_left l.ahead)
