use Rattle.std.proofs.Common.{ap, refl, arith, rules}
use Rattle.octseq.specs.Parser.{window}
use Rattle.octseq.specs.Window.{rest}
use Rattle.octseq_dns_name.specs.Name.{wire_length}
use Rattle.octseq_dns_name.proofs.Names.{more_ahead, none_ahead, then_ahead, shorter}
use Rattle.octseq_dns_name.proofs.name.labels.LabelsIterator.next.Goals as goal

pub returns-in_err-parser-clause-steps : goal.returns-in_err-parser-clause-steps
returns-in_err-parser-clause-steps g c =
    let self = c.args.self.now in
    let none = none_ahead self.start (window self.parser) self.ahead (c.in_err-parser.ensures.none refl) in
    (search rules, search rules)

pub invariant_of-self : goal.invariant_of-self
invariant_of-self g c =
    let self = c.args.self.now in
    let on = more_ahead self.start (window self.parser) c.next_label.new.start (window c.next_label.new.parser)
    (rest (window c.in_ok-parser.parser)) self.ahead c.in_ok-parser.ensures.some in
    record {
      ahead = on.0;
      ordered = c.next_label.ensures.ordered;
      short = let all = ap wire_length on.1 in let before = self.short in omega (arith, all, before);
    }

pub returns-clause-steps : goal.returns-clause-steps
returns-clause-steps g c =
    let self = c.args.self.now in (
      then_ahead self.start (window self.parser) c.next_label.new.start (window c.next_label.new.parser)
          (rest (window c.in_ok-parser.parser)) self.ahead c.self-1.given.0 c.in_ok-parser.ensures.some,
      c.in_ok-parser.ensures.place,
    )

pub returns-clause-goes : goal.returns-clause-goes
returns-clause-goes g c =
    let less = shorter (rest (window c.in_ok-parser.parser)) c.args.self.now.ahead.0 c.self-1.given.0.0
    (returns-clause-steps g c).0 in
    record { on = λ finite. (tt, finite, less); keeps = tt; rests = λ _. tt }
