-- If those ahead are appended to what there is, all are to what there was. Those ahead may be.
use Rattle.std.proofs.Common.{◌≡◌, ◌+◌, ◌≤◌, length}
use Rattle.octseq.specs.Limit.{IsWithin}
use Rattle.octseq_bgp.specs.Lists.{parameters_left}
use Rattle.octseq_bgp.specs.RewrittenOpen.{AreItemsSound, IsParameterAnew, said_octets}
use Rattle.octseq_bgp.specs.WrittenOpen.{most_parameters, parameter_octets}
use Rattle.octseq_bgp.proofs.Appending.{Goes}
use Rattle.octseq_bgp.proofs.message.rewriting.open.put_parameters.Given as goal

abbrev pub invariant-parameters : goal.invariant-parameters
invariant-parameters g l =
    let b = g.B.AsOctets in
    record {
      goes : Goes IsParameterAnew (parameter_octets l.long) (parameters_left l.fn.parameters) (parameters_left l.ahead)
          (b.content l.fn.octets) (b.content l.octets);
      sound : AreItemsSound (parameters_left l.ahead);
      fit : length (said_octets l.long (parameters_left l.ahead)) ≤ most_parameters l.long;
      within : IsWithin b.limit (length (b.content l.octets) + length (said_octets l.long (parameters_left l.ahead)));
      borrows : b.borrows l.octets ≡ b.borrows l.fn.octets;
    }

abbrev pub decreases-parameters : goal.decreases-parameters
decreases-parameters g l = length (parameters_left l.ahead)
