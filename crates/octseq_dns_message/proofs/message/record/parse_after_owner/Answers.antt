use Rattle.std.proofs.Common.{refl, sym, rules}
use Rattle.std.proofs.Math.Bool.{true≢false}
use Rattle.octseq.specs.Parser.{window}
use Rattle.octseq_dns_message.proofs.Digits.{three_numbers, no_three_numbers, no_data_after}
use Rattle.octseq_dns_message.proofs.message.record.parse_after_owner.Goals as goal

pub returns-in_err-numbers-clause-malformed : goal.returns-in_err-numbers-clause-malformed
returns-in_err-numbers-clause-malformed g c = λ _.
    no_three_numbers (window c.args.parser.now)
    (λ room. true≢false (sym (c.in_err-numbers.ensures.taken.variant.1 room)))

pub returns-in_err-rdata-clause-malformed : goal.returns-in_err-rdata-clause-malformed
returns-in_err-rdata-clause-malformed g c = λ _.
    no_data_after (window c.args.parser.now) (window c.parse_u64_be.new.self) c.in_ok-numbers.ensures.taken.ok
    (λ inside v is. true≢false (sym (c.in_err-rdata.ensures.taken.variant.1 is.0)))

pub returns-clause-value : goal.returns-clause-value
returns-clause-value g c =
    three_numbers (window c.args.parser.now) (window c.parse_u64_be.new.self) (window c.parse_part_u16_be.new.self)
    (window c.in_ok-rdata.rdata) c.in_ok-numbers.numbers (c.in_ok-numbers.ensures.taken.variant.0 refl) (search rules)
    c.in_ok-numbers.ensures.octets c.in_ok-numbers.ensures.taken.ok
    (c.in_ok-rdata.ensures.taken.variant.0 refl, c.in_ok-rdata.ensures.window, c.in_ok-rdata.ensures.taken.ok)
