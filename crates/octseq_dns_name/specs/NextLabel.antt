-- Where the labels of a name are, one after another.
use Rattle.std.specs.Iterator.{YieldsFirstBy}
use Rattle.std.specs.Prelude.{◌≡◌, ℕ, List, Option, IfSome}
use Rattle.octseq.specs.declared.AsOctets.{Ghosts}
use Rattle.octseq.specs.Part.{part}
use Rattle.octseq.specs.Parser.{window}
use Rattle.octseq.specs.Window.{Window, at}
use Rattle.octseq_dns_name.specs.Name.{HasLabel, HasPointer}
use Rattle.octseq_dns_name.specs.Read.{label_octets, label_place, labels_left}
use Rattle.octseq_dns_name.specs.declared.name.labels.Label.{Label}
use Rattle.octseq_dns_name.specs.declared.name.labels.Labels.{Labels}

-- The next label from a window's position on is in the window `place`, and the rest of the name is at the position of
-- the window `on`. The label is here, or where a pointer leads. The parts of the name that have the two positions begin
-- at `start` and `began`.
pub data NextLabel : ℕ → Window → Window → ℕ → Window → Type 0 where
  here : {start : ℕ} {w place on : Window} {l : List ℕ} → HasLabel w l on → place ≡ part 1 w
      → NextLabel start w place start on
  pointed : {start to began : ℕ} {w v place on : Window} → HasPointer start w to v
      → NextLabel to (at to w) place began on → NextLabel start w place began on

-- the window at whose position the remaining labels of an iterator are
abbrev pub ahead_of : {R : Type 0} {g : Ghosts R} → Labels R g → Window
ahead_of labels = window labels.parser

-- an iterator's step over a label
abbrev pub StepsOverLabel : {R : Type 0} {g : Ghosts R} → Labels R g → Window → Labels R g → Type 0
StepsOverLabel before place after = NextLabel before.start (ahead_of before) place after.start (ahead_of after)

-- what `next` returns: the first label that is left, at its place; or none if none is left
abbrev pub YieldsNextLabel : {R : Type 0} {g : Ghosts R} → Labels R g → Option (Label R g) → Labels R g → Type 0
YieldsNextLabel before given after = YieldsFirstBy label_octets labels_left before given after
    × IfSome given (λ label. StepsOverLabel before (label_place label) after)
