use Rattle.std.proofs.Common.{◌≡◌, ◌+◌, true, false, get_or, rules}
use Rattle.std.specs.Char.{is_ascii_digit}
use Rattle.octseq_dns_scan.proofs.Numerals.{digits_step, value_step, no_digit, too_great}
use Rattle.octseq_dns_scan.proofs.number.scan_digits.Goals as goal

pub returns-then-not-is_ascii_digit : goal.returns-then-not-is_ascii_digit
returns-then-not-is_ascii_digit c =
    let word = c.args.word.now in
    let i = c.loop-octet.octet-index in
    let is : is_ascii_digit (get_or word i 0) ≡ false = search rules in
    no_digit word i c.args.max c.loop-octet-test.true is

pub returns-then-value-max : goal.returns-then-value-max
returns-then-value-max c =
    let word = c.args.word.now in
    let i = c.loop-octet.octet-index in
    let is : is_ascii_digit (get_or word i 0) ≡ true = search rules in
    let step = value_step word i c.loop-octet.value c.loop-octet-test.true c.loop-octet.invariant.counted is in
    too_great word (i + 1) c.args.max _ step (search rules)

pub loop-octet-preserved : goal.loop-octet-preserved
loop-octet-preserved c =
    let word = c.args.word.now in
    let i = c.loop-octet.octet-index in
    let is : is_ascii_digit (get_or word i 0) ≡ true = search rules in
    let step = value_step word i c.loop-octet.value c.loop-octet-test.true c.loop-octet.invariant.counted is in
    record {
      digits = digits_step word i c.loop-octet-test.true c.loop-octet.invariant.digits is;
      counted = search (rules, step);
      most = search rules;
    }
