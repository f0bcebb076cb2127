-- What is written is the text of the numbers so far.
use Rattle.std.proofs.Common.{map, take}
use Rattle.std.specs.Fmt.{HasWritten, IsPlainFormatter}
use Rattle.std.specs.Char.{digit_char}
use Rattle.octseq_dns_scan.proofs.base32hex.write_base32hex_digits.Given as goal

abbrev pub invariant-loop-value : goal.invariant-loop-value
invariant-loop-value g l = IsPlainFormatter l.fn.f → HasWritten g.W.Write.write_str_gives l.fn.f
    (map digit_char (take l.value-index l.fn.values)) l.f
