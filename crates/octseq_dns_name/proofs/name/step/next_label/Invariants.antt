-- What was where the loop began is, after its pointers, where it is now; each pointer lowers the place.
use Rattle.std.proofs.Common.{◌≤◌, ℕ, List}
use Rattle.octseq.specs.Parser.{window}
use Rattle.octseq.specs.Window.{Window}
use Rattle.octseq_dns_name.specs.Name.{HasLabels}
use Rattle.octseq_dns_name.specs.NextLabel.{NextLabel}
use Rattle.octseq_dns_name.proofs.name.step.next_label.Given as goal

abbrev pub invariant-pointers : goal.invariant-pointers
invariant-pointers g l = record {
  has_labels : (labels : List (List ℕ)) (pointers : ℕ) (end : Window)
      → HasLabels l.fn.start (window l.fn.parser) labels pointers end
      → (fewer : ℕ) × (last : Window) × HasLabels l.start (window l.parser) labels fewer last;
  place : (place on : Window) (began : ℕ) → NextLabel l.start (window l.parser) place began on
      → NextLabel l.fn.start (window l.fn.parser) place began on;
  ordered : l.start ≤ (window l.parser).position;
}

abbrev pub decreases-pointers : goal.decreases-pointers
decreases-pointers g l = l.start
