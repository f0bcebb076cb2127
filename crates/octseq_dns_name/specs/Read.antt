-- What contracts see of a name that was read, and of its labels.
use Rattle.std.specs.Prelude.{ℕ, List}
use Rattle.octseq.specs.declared.AsOctets.{Ghosts}
use Rattle.octseq.specs.Parser.{window}
use Rattle.octseq.specs.Window.{Window, rest}
use Rattle.octseq_dns_name.specs.Name.{Name}
use Rattle.octseq_dns_name.specs.declared.name.labels.Label.{Label}
use Rattle.octseq_dns_name.specs.declared.name.labels.Labels.{Labels}
use Rattle.octseq_dns_name.specs.declared.name.ParsedName.{ParsedName}

-- the labels of a name
abbrev pub labels_of : {R : Type 0} {g : Ghosts R} → ParsedName R g → List (List ℕ)
labels_of name = name.named.0

-- the window at whose position a name is
abbrev pub place_of : {R : Type 0} {g : Ghosts R} → ParsedName R g → Window
place_of name = window name.parser

-- its place and its labels
abbrev pub name_of : {R : Type 0} {g : Ghosts R} → ParsedName R g → Name
name_of name = record { place = place_of name; labels = labels_of name }

-- the labels that are left
abbrev pub labels_left : {R : Type 0} {g : Ghosts R} → Labels R g → List (List ℕ)
labels_left labels = labels.ahead.0

-- the window of a label's octets
abbrev pub label_place : {R : Type 0} {g : Ghosts R} → Label R g → Window
label_place label = window label.parser

-- the octets of a label
abbrev pub label_octets : {R : Type 0} {g : Ghosts R} → Label R g → List ℕ
label_octets label = rest (label_place label)
