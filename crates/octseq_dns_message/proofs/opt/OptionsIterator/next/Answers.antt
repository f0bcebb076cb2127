use Rattle.std.proofs.Common.{refl, sym, subst, arith}
use Rattle.octseq.specs.Parser.{window}
use Rattle.octseq_dns_message.specs.Edns.{option_of}
use Rattle.octseq_dns_data.specs.OneRow.{IsRowTo}
use Rattle.octseq_dns_message.specs.OneOption.{option_code, option_item, option_parts}
use Rattle.octseq_dns_message.specs.Opt.{HasOption}
use Rattle.octseq_dns_message.proofs.Options.{option_found, option_is}
use Rattle.octseq_dns_data.proofs.Rows.{reached_none, reached_not, reached_more, reached_then}
use Rattle.octseq_format.proofs.RowSteps.{fewer}
use Rattle.octseq_dns_message.proofs.opt.OptionsIterator.next.Goals as goal

pub returns-then-remaining-eq0-clause-steps : goal.returns-then-remaining-eq0-clause-steps
returns-then-remaining-eq0-clause-steps g c =
    let self = c.args.self.now in
    let left = c.remaining.ensures.left in
    let nothing = c.if-remaining-eq0.true in
    let ordered = self.parser.ordered in
    let none = reached_none option_code HasOption option_item (window self.parser) (window self.parser).end self.ahead
    (omega (arith, left, nothing, ordered)) in
    (none, none)

pub unreachable-requires : goal.unreachable-requires
unreachable-requires g c =
    let self = c.args.self.now in
    let left = c.remaining.ensures.left in
    let some = c.if-remaining-eq0.false in
    let w = window self.parser in
    reached_not HasOption w w.end self.ahead (λ same. omega (arith, left, some, same))
    (λ option v is. c.in-Err.ensures.malformed refl (option_parts option) v (option_found w option v is))

pub invariant_of-self : goal.invariant_of-self
invariant_of-self g c =
    let self = c.args.self.now in
    let left = c.remaining.ensures.left in
    let some = c.if-remaining-eq0.false in
    let w = window self.parser in
    let u = window c.parse.new.parser in
    let option = option_of c.in-Ok.option in
    let is = option_is w (option.code, option.octets) u c.in-Ok.ensures.value in
    record {
      ahead = subst (IsRowTo HasOption u) (sym (option_item.ends w option u is))
          (reached_more option_code HasOption option_item w u w.end option self.ahead
          (λ same. omega (arith, left, some, same)) is);
    }

pub returns-clause-steps : goal.returns-clause-steps
returns-clause-steps g c =
    let self = c.args.self.now in
    let left = c.remaining.ensures.left in
    let some = c.if-remaining-eq0.false in
    let w = window self.parser in
    let u = window c.parse.new.parser in
    let option = option_of c.in-Ok.option in
    let is = option_is w (option.code, option.octets) u c.in-Ok.ensures.value in
    let end = option_item.ends w option u is in
    reached_then option_code HasOption option_item w u w.end u.end option self.ahead c.self-1.given.0 end
    (λ same. omega (arith, left, some, same)) is

pub returns-clause-goes : goal.returns-clause-goes
returns-clause-goes g c =
    let less = fewer (option_of c.in-Ok.option) c.args.self.now.ahead.0 c.self-1.given.0.0
    (returns-clause-steps g c) in
    record { on = λ finite. (tt, finite, less); keeps = tt; rests = λ _. tt }
