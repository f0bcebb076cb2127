-- If those ahead have values, all do.
use Rattle.std.proofs.Common.{◌≡◌, List, length}
use Rattle.octseq_bgp.specs.Lists.{attributes_left, attributes_session}
use Rattle.octseq_bgp.specs.Rewritten.{AreAttributesAnew}
use Rattle.octseq_bgp.specs.Written.{WrittenAttribute}
use Rattle.octseq_bgp.proofs.message.rewriting.attributes.read_values.Given as goal

abbrev pub invariant-attributes : goal.invariant-attributes
invariant-attributes g l =
    let Are = AreAttributesAnew (attributes_session l.fn.attributes) in
    record {
      session : attributes_session l.ahead ≡ attributes_session l.fn.attributes;
      whole : (row : List WrittenAttribute) × Are (attributes_left l.ahead) row
          → (row : List WrittenAttribute) × Are (attributes_left l.fn.attributes) row;
    }

abbrev pub decreases-attributes : goal.decreases-attributes
decreases-attributes g l = length (attributes_left l.ahead)
