-- The octets so far are digits, and the value is theirs.
use Rattle.std.proofs.Common.{◌≡◌, ◌≤◌, take}
use Rattle.std.specs.Str.Parse.{AllDigits, digits_value}
use Rattle.octseq_dns_scan.proofs.number.scan_digits.Given as goal

abbrev pub invariant-loop-octet : goal.invariant-loop-octet
invariant-loop-octet l = record {
  digits : AllDigits 10 (take l.octet-index l.word);
  counted : l.value ≡ digits_value 10 (take l.octet-index l.word);
  most : l.value ≤ l.max;
}
