-- What is written is the text of the octets so far.
use Rattle.std.proofs.Common.{take}
use Rattle.std.specs.Fmt.{HasWritten, IsPlainFormatter}
use Rattle.std.specs.List.{flat_map}
use Rattle.octseq.specs.OctetsText.{string_octet_text}
use Rattle.octseq_dns_data.proofs.svc_params.text.write_octets.Given as goal

abbrev pub invariant-loop-octet : goal.invariant-loop-octet
invariant-loop-octet g l = IsPlainFormatter l.fn.f → HasWritten g.W.Write.write_str_gives l.fn.f
    (flat_map string_octet_text (take l.octet-index l.fn.octets)) l.f
