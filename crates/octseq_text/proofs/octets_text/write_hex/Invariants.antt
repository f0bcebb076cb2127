-- What is written is the text of the octets so far.
use Rattle.std.proofs.Common.{take}
use Rattle.std.specs.Fmt.{HasWritten, IsPlainFormatter}
use Rattle.std.specs.List.{flat_map}
use Rattle.octseq_text.specs.OctetsText.{hex_text}
use Rattle.octseq_text.proofs.octets_text.write_hex.Given as goal

abbrev pub invariant-loop-octet : goal.invariant-loop-octet
invariant-loop-octet g l = IsPlainFormatter l.initial.f → HasWritten g.W.Write.write_str_gives l.initial.f
    (flat_map hex_text (take l.octet-index l.fn.octets)) l.f
