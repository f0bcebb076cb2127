-- What is written is the octets so far.
use Rattle.std.proofs.Common.{take}
use Rattle.std.specs.Fmt.{HasWritten, IsPlainFormatter}
use Rattle.octseq_dns_data.proofs.tag.write_tag.Given as goal

abbrev pub invariant-loop-octet : goal.invariant-loop-octet
invariant-loop-octet g l = IsPlainFormatter l.fn.f → HasWritten g.W.Write.write_str_gives l.fn.f
    (take l.octet-index l.fn.tag) l.f
