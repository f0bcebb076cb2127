-- What is written, and any lines of what is ahead, are lines of all.
use Rattle.std.proofs.Common.{◌++◌, ℕ, List}
use Rattle.std.specs.Fmt.{HasWritten, IsPlainFormatter}
use Rattle.octseq_mrt.specs.Parsed.{attributes_left}
use Rattle.octseq_mrt.specs.RecordText.{AreRibAttributeLines}
use Rattle.octseq_mrt.proofs.text.rib.write_attributes.Given as goal

abbrev pub invariant-loop-attribute : goal.invariant-loop-attribute
invariant-loop-attribute g l = record {
  done : List ℕ;
  written : IsPlainFormatter l.initial.f → HasWritten g.W.Write.write_str_gives l.initial.f done l.f;
  whole : (more : List ℕ) → AreRibAttributeLines (attributes_left l.attribute-iterator) more
      → AreRibAttributeLines (attributes_left l.fn.attributes) (done ++ more);
}
