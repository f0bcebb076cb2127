-- Each family so far has.
use Rattle.std.proofs.Common.{length, map}
use Rattle.std.specs.Prelude.{◌↔◌}
use Rattle.octseq_bgp.specs.Capability.{ArePaths}
use Rattle.octseq_bgp.specs.TupleOf.{tuple_of}
use Rattle.octseq_bgp.proofs.capability.compose.are_paths.Given as goal

abbrev pub invariant-families : goal.invariant-families
invariant-families l = ArePaths (map tuple_of l.fn.families) ↔ ArePaths (map tuple_of l.left)

abbrev pub decreases-families : goal.decreases-families
decreases-families l = length l.left
