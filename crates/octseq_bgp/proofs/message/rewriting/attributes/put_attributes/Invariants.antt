-- If those ahead are appended to what there is, all are to what there was. Those ahead may be.
use Rattle.std.proofs.Common.{◌≡◌, ◌+◌, ◌≤◌, length}
use Rattle.octseq.specs.Limit.{IsWithin}
use Rattle.octseq_bgp.specs.Lists.{attributes_left, attributes_session}
use Rattle.octseq_bgp.specs.Rewritten.{AreSound, IsAttributeAnew, attributes_size}
use Rattle.octseq_bgp.specs.Written.{attribute_octets}
use Rattle.octseq_bgp.proofs.Appending.{Goes}
use Rattle.octseq_bgp.proofs.message.rewriting.attributes.put_attributes.Given as goal

abbrev pub invariant-attributes : goal.invariant-attributes
invariant-attributes g l =
    let b = g.B.AsOctets in
    record {
      session : attributes_session l.ahead ≡ attributes_session l.fn.attributes;
      goes : Goes (IsAttributeAnew (attributes_session l.fn.attributes)) attribute_octets
          (attributes_left l.fn.attributes) (attributes_left l.ahead) (b.content l.fn.builder) (b.content l.builder);
      few : attributes_size (attributes_left l.ahead) ≤ 65535;
      sound : AreSound (attributes_left l.ahead);
      within : IsWithin b.limit (length (b.content l.builder) + attributes_size (attributes_left l.ahead));
      borrows : b.borrows l.builder ≡ b.borrows l.fn.builder;
    }

abbrev pub decreases-attributes : goal.decreases-attributes
decreases-attributes g l = length (attributes_left l.ahead)
