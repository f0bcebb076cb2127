-- What was where the loop began goes on where it is now, with the same end.
use Rattle.std.proofs.Common.{◌≡◌, ℕ, List}
use Rattle.octseq.specs.Parser.{sequence, window}
use Rattle.octseq.specs.Window.{Window, left}
use Rattle.octseq_dns_name.specs.Name.{HasLabels}
use Rattle.octseq_dns_name.proofs.name.step.skip_known.Given as goal

abbrev pub invariant-labels : goal.invariant-labels
invariant-labels g l = record {
  has_labels : (labels : List (List ℕ)) (pointers : ℕ) (end : Window)
      → HasLabels l.start (window l.fn.parser) labels pointers end
      → (more : List (List ℕ)) × HasLabels l.start (window l.parser) more pointers end;
  same : sequence l.parser ≡ sequence l.fn.parser;
}

abbrev pub decreases-labels : goal.decreases-labels
decreases-labels g l = left (window l.parser)
