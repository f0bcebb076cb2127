-- The faults that are left now are the ones that were left at first.
use Rattle.std.proofs.Common.{◌≤◌, List, length}
use Rattle.octseq_bgp.specs.Fault.{AttributeFault}
use Rattle.octseq_bgp.specs.FaultsOf.{AreLeft, faults_most}
use Rattle.octseq_bgp.specs.Lists.{attributes_left}
use Rattle.octseq_bgp.proofs.message.fault.FaultsIterator.next.Given as goal

abbrev pub invariant-attributes : goal.invariant-attributes
invariant-attributes g l = record {
  left : (row : List AttributeFault) → AreLeft l.self row → AreLeft l.initial.self row;
  most : faults_most l.self ≤ faults_most l.initial.self;
}

abbrev pub decreases-attributes : goal.decreases-attributes
decreases-attributes g l = length (attributes_left l.self.attributes)
