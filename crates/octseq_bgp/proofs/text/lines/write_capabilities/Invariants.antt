-- What is written, and any lines of what is ahead, are lines of all.
use Rattle.std.proofs.Common.{◌++◌, ℕ, List}
use Rattle.std.specs.Fmt.{HasWritten, IsPlainFormatter}
use Rattle.octseq_bgp.specs.CapabilityOf.{capabilities_left}
use Rattle.octseq_bgp.specs.MessageText.{AreCapabilityLines}
use Rattle.octseq_bgp.proofs.text.lines.write_capabilities.Given as goal

abbrev pub invariant-loop-capability : goal.invariant-loop-capability
invariant-loop-capability g l = record {
  done : List ℕ;
  written : IsPlainFormatter l.initial.f → HasWritten g.W.Write.write_str_gives l.initial.f done l.f;
  whole : (more : List ℕ) → AreCapabilityLines (capabilities_left l.capability-iterator) more
      → AreCapabilityLines (capabilities_left l.fn.capabilities) (done ++ more);
}
