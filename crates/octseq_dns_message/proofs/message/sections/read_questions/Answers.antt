use Rattle.std.proofs.Common.{◌∙◌, ◌++◌, [], ◌∷◌, refl, ap, arith}
use Rattle.std.proofs.lemmas.List.Sums.{sum_by_push}
use Rattle.octseq.specs.Parser.{window}
use Rattle.octseq_dns_message.specs.Entry.{IsQuestion}
use Rattle.octseq_dns_message.specs.EntryTurns.{question_turns, questions_turns}
use Rattle.octseq_dns_message.specs.OneEntry.{one_question}
use Rattle.octseq_dns_message.specs.Said.{question_of}
use Rattle.octseq_dns_message.proofs.Formats.{question_takes}
use Rattle.octseq_format.specs.Row.{one_row}
use Rattle.octseq_format.proofs.RowSteps.{many_ends, many_more}
use Rattle.octseq_dns_message.proofs.message.sections.read_questions.Goals as goal

pub loop-taken-init : goal.loop-taken-init
loop-taken-init g c = record {
  all = ([], (refl, refl));
  least = omega arith;
  same = refl;
  turns = omega arith;
  entries = omega arith;
}

pub loop-taken-preserved : goal.loop-taken-preserved
loop-taken-preserved g c =
    let all = c.loop-taken.invariant.all in
    let u = window c.loop-taken.parser in
    let v = window c.parse_counted.new.parser in
    let one = question_of c.in_ok-_entry._entry in
    let is = c.in_ok-_entry.ensures.question in
    let turns = c.parse_counted.ensures.turns in
    record {
      all = (
        all.0 ++ one ∷ [],
        many_more IsQuestion (window c.args.parser.now) u v c.loop-taken.taken
            all.0 one all.1 is,
      );
      least = let before = c.loop-taken.invariant.least in
          let counted = c.in_ok-_entry.ensures.counted one.qname.labels is.0 is.1.1 in
          omega (arith, sum_by_push question_turns all.0 one, before, counted);
      same = c.parse_counted.ensures.same ∙ c.loop-taken.invariant.same;
      turns = let before = c.loop-taken.invariant.turns in let less = question_takes u v one is in
          omega (arith, before, turns, less);
      entries = let before = c.loop-taken.invariant.entries in omega (arith, before, turns);
    }

pub returns-in_err-_entry-clause-malformed : goal.returns-in_err-_entry-clause-malformed
returns-in_err-_entry-clause-malformed g c = λ _.
    let all = c.loop-taken.invariant.all in
    many_ends IsQuestion one_question (window c.args.parser.now) (window c.loop-taken.parser) c.loop-taken.taken
    c.args.count all.0 (c.in_err-_entry.ensures.malformed refl) (omega arith) all.1

pub returns-clause-least : goal.returns-clause-least
returns-clause-least g c = λ row end is.
    let all = c.loop-taken.invariant.all in
    let taken = all.1.0 in
    let counted = is.0 in
    let same = one_row IsQuestion one_question (window c.args.parser.now) _ end all.0 row
    (omega (arith, taken, counted)) all.1.1 is.1 in
    let least = c.loop-taken.invariant.least in
    omega (arith, ap questions_turns same.0, least)
