-- The text of the octets so far is written.
use Rattle.std.proofs.Common.{take}
use Rattle.std.specs.Fmt.{HasWritten, IsPlainFormatter}
use Rattle.octseq_dns_name.specs.Text.{label_text}
use Rattle.octseq_dns_name.proofs.name.text.LabelDisplay.fmt.Given as goal

abbrev pub invariant-loop-octet : goal.invariant-loop-octet
invariant-loop-octet g l = IsPlainFormatter l.initial.f
    → HasWritten g.W.Write.write_str_gives l.initial.f (label_text (take l.octet-index l.octet-items)) l.f
