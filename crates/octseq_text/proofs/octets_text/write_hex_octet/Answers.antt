use Rattle.std.proofs.Common.{false, arith, rules}
use Rattle.std.proofs.Output.{has_written_of_eq}
use Rattle.std.proofs.lemmas.Fmt.{hex_byte}
use Rattle.octseq_text.proofs.octets_text.write_hex_octet.Goals as goal

pub returns : goal.returns
returns g c = λ plain ok. has_written_of_eq _ _ _ _ _ (hex_byte false c.args.octet (omega (arith, c.ranges.octet)))
    (search rules)
