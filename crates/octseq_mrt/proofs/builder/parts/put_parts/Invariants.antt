-- The parts so far were appended.
use Rattle.std.proofs.Common.{◌≡◌, ◌++◌, take}
use Rattle.octseq_mrt.specs.Joined.{parts_joined}
use Rattle.octseq_mrt.proofs.builder.parts.put_parts.Given as goal

abbrev pub invariant-loop-part : goal.invariant-loop-part
invariant-loop-part g l = record {
  octets : g.B.AsOctets.content l.builder ≡ g.B.AsOctets.content l.fn.builder
      ++ parts_joined (take l.part-index l.parts);
  borrows : g.B.AsOctets.borrows l.builder ≡ g.B.AsOctets.borrows l.fn.builder;
}
