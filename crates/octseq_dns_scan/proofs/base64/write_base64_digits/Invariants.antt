-- What is written is the text of the numbers so far.
use Rattle.std.proofs.Common.{map, take}
use Rattle.std.specs.Fmt.{HasWritten, IsPlainFormatter}
use Rattle.octseq_dns_scan.specs.Base64.{base64_digit}
use Rattle.octseq_dns_scan.proofs.base64.write_base64_digits.Given as goal

abbrev pub invariant-loop-value : goal.invariant-loop-value
invariant-loop-value g l = IsPlainFormatter l.fn.f → HasWritten g.W.Write.write_str_gives l.fn.f
    (map base64_digit (take l.value-index l.fn.values)) l.f
