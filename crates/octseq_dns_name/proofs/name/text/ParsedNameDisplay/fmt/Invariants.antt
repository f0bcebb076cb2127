-- What is written, followed by the text of the labels ahead, is the text of the name.
use Rattle.std.proofs.Common.{◌≡◌, ℕ, List, ◌++◌}
use Rattle.std.specs.Fmt.{HasWritten, IsPlainFormatter}
use Rattle.octseq_dns_name.specs.Read.{labels_of, labels_left}
use Rattle.octseq_dns_name.specs.Text.{labels_text}
use Rattle.octseq_dns_name.proofs.name.text.ParsedNameDisplay.fmt.Given as goal

abbrev pub invariant-loop-label : goal.invariant-loop-label
invariant-loop-label g l =
    IsPlainFormatter l.initial.f → (done : List ℕ) × HasWritten g.W.Write.write_str_gives l.initial.f done l.f
    × (done ++ labels_text (labels_left l.label-iterator) ≡ labels_text (labels_of l.fn.self))
