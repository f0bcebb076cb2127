-- What is written, and any lines of what is ahead, are lines of all.
use Rattle.std.proofs.Common.{◌++◌, ℕ, List}
use Rattle.std.specs.Fmt.{HasWritten, IsPlainFormatter}
use Rattle.octseq_mrt.specs.Parsed.{entries_left}
use Rattle.octseq_mrt.specs.RecordText.{AreEntryLines}
use Rattle.octseq_mrt.proofs.text.rib.write_entries.Given as goal

abbrev pub invariant-loop-entry : goal.invariant-loop-entry
invariant-loop-entry g l = record {
  done : List ℕ;
  written : IsPlainFormatter l.initial.f → HasWritten g.W.Write.write_str_gives l.initial.f done l.f;
  whole : (more : List ℕ) → AreEntryLines (entries_left l.entry-iterator) more
      → AreEntryLines (entries_left l.fn.entries) (done ++ more);
}
