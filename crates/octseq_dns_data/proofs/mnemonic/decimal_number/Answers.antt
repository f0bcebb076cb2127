use Rattle.std.proofs.lemmas.Fmt.{IsAscii-from_digits}
use Rattle.std.proofs.lemmas.Str.{IsUtf8-from_ascii}
use Rattle.octseq_dns_data.proofs.mnemonic.decimal_number.Goals as goal

pub returns-in-Err : goal.returns-in-Err
returns-in-Err c = λ is. c.in-Err.ensures.cases.0 (IsUtf8-from_ascii _ (IsAscii-from_digits _ is.0.1))
