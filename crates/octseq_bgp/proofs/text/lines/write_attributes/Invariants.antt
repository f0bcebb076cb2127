-- What is written, and any lines of what is ahead, are lines of all.
use Rattle.std.proofs.Common.{◌≡◌, ◌++◌, ℕ, List, length}
use Rattle.std.specs.Fmt.{HasWritten, IsPlainFormatter}
use Rattle.octseq_bgp.specs.Lists.{attributes_left, attributes_session}
use Rattle.octseq_bgp.specs.MessageText.{AreAttributeLines}
use Rattle.octseq_bgp.proofs.text.lines.write_attributes.Given as goal

abbrev pub invariant-attributes : goal.invariant-attributes
invariant-attributes g l = record {
  done : List ℕ;
  session : attributes_session l.ahead ≡ attributes_session l.fn.attributes;
  written : IsPlainFormatter l.initial.f → HasWritten g.W.Write.write_str_gives l.initial.f done l.f;
  whole : (more : List ℕ) → AreAttributeLines (attributes_session l.fn.attributes) (attributes_left l.ahead) more
      → AreAttributeLines (attributes_session l.fn.attributes) (attributes_left l.fn.attributes) (done ++ more);
}

abbrev pub decreases-attributes : goal.decreases-attributes
decreases-attributes g l = length (attributes_left l.ahead)
