-- What is written, and the text of the segments ahead, are the whole text.
use Rattle.std.proofs.Common.{◌≡◌, ◌++◌, ℕ, List, length}
use Rattle.std.specs.Fmt.{HasWritten, IsPlainFormatter}
use Rattle.octseq_bgp.specs.PathOf.{path_of, path_wide, segments_left}
use Rattle.octseq_bgp.specs.ValueText.{path_text}
use Rattle.octseq_bgp.proofs.text.value.write_path.Given as goal

abbrev pub invariant-segments : goal.invariant-segments
invariant-segments g l = record {
  wide : path_wide l.ahead ≡ path_wide l.fn.path;
  written : IsPlainFormatter l.initial.f → (done : List ℕ) × HasWritten g.W.Write.write_str_gives l.initial.f done l.f
      × (done ++ path_text (path_wide l.fn.path, segments_left l.ahead) ≡ path_text (path_of l.fn.path));
}

abbrev pub decreases-segments : goal.decreases-segments
decreases-segments g l = length (segments_left l.ahead)
