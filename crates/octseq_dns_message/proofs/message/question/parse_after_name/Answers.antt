use Rattle.std.proofs.Common.{refl, sym, rules}
use Rattle.std.proofs.Math.Bool.{true≢false}
use Rattle.octseq.specs.Parser.{window}
use Rattle.octseq_dns_message.proofs.Digits.{two_numbers, no_two_numbers}
use Rattle.octseq_dns_message.proofs.message.question.parse_after_name.Goals as goal

pub returns-in_err-numbers-clause-malformed : goal.returns-in_err-numbers-clause-malformed
returns-in_err-numbers-clause-malformed g c = λ _.
    no_two_numbers (window c.args.parser.now)
    (λ room. true≢false (sym (c.in_err-numbers.ensures.taken.variant.1 room)))

pub returns-clause-value : goal.returns-clause-value
returns-clause-value g c =
    two_numbers (window c.args.parser.now) (window c.parse_u32_be.new.self) c.in_ok-numbers.numbers
    (c.in_ok-numbers.ensures.taken.variant.0 refl) (search rules) c.in_ok-numbers.ensures.octets
    c.in_ok-numbers.ensures.taken.ok
