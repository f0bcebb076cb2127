use Rattle.std.proofs.Common.{rules, arith, take-append-drop}
use Rattle.octseq_dns_data.proofs.Mnemonics.{number_there}
use Rattle.octseq_dns_data.proofs.mnemonic.number_after.Goals as goal

pub returns-then-eq_ignore_ascii_case-clause-some : goal.returns-then-eq_ignore_ascii_case-clause-some
returns-then-eq_ignore_ascii_case-clause-some c =
    let parts = c.in_ok-letters.ensures.cases in
    number_there _ c.args.text.now c.in_ok-letters.letters.now c.in_ok-letters.digits.now c.decimal_number.result
    (grind (arith, take-append-drop)) (search rules) c.decimal_number.ensures
