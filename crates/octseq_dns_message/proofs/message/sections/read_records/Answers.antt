use Rattle.std.proofs.Common.{◌∙◌, ◌++◌, [], ◌∷◌, refl, ap, arith}
use Rattle.std.proofs.lemmas.List.Sums.{sum_by_push}
use Rattle.octseq.specs.Parser.{window}
use Rattle.octseq_dns_message.specs.Entry.{IsRecord}
use Rattle.octseq_dns_message.specs.EntryTurns.{record_turns, records_turns}
use Rattle.octseq_dns_message.specs.OneEntry.{one_record}
use Rattle.octseq_dns_message.specs.Said.{record_of}
use Rattle.octseq_dns_message.proofs.Formats.{record_takes}
use Rattle.octseq_format.specs.Row.{one_row}
use Rattle.octseq_format.proofs.RowSteps.{many_ends, many_more}
use Rattle.octseq_dns_message.proofs.message.sections.read_records.Goals as goal

pub loop-taken-init : goal.loop-taken-init
loop-taken-init g c = record {
  all = ([], (refl, refl));
  least = omega arith;
  same = refl;
  turns = omega arith;
  entries = omega arith;
}

pub loop-taken-preserved : goal.loop-taken-preserved
loop-taken-preserved g c =
    let all = c.loop-taken.invariant.all in
    let u = window c.loop-taken.parser in
    let v = window c.parse_counted.new.parser in
    let one = record_of c.in_ok-_entry._entry in
    let is = c.in_ok-_entry.ensures.entry in
    let turns = c.parse_counted.ensures.turns in
    record {
      all = (
        all.0 ++ one ∷ [],
        many_more IsRecord (window c.args.parser.now) u v c.loop-taken.taken
            all.0 one all.1 is,
      );
      least = let before = c.loop-taken.invariant.least in
          let counted = c.in_ok-_entry.ensures.counted one.owner.labels is.0 is.1.1 in
          omega (arith, sum_by_push record_turns all.0 one, before, counted);
      same = c.parse_counted.ensures.same ∙ c.loop-taken.invariant.same;
      turns = let before = c.loop-taken.invariant.turns in let less = record_takes u v one is in
          omega (arith, before, turns, less);
      entries = let before = c.loop-taken.invariant.entries in omega (arith, before, turns);
    }

pub returns-in_err-_entry-clause-malformed : goal.returns-in_err-_entry-clause-malformed
returns-in_err-_entry-clause-malformed g c = λ _.
    let all = c.loop-taken.invariant.all in
    many_ends IsRecord one_record (window c.args.parser.now) (window c.loop-taken.parser) c.loop-taken.taken
    c.args.count all.0 (c.in_err-_entry.ensures.malformed refl) (omega arith) all.1

pub returns-clause-least : goal.returns-clause-least
returns-clause-least g c = λ row end is.
    let all = c.loop-taken.invariant.all in
    let taken = all.1.0 in
    let counted = is.0 in
    let same = one_row IsRecord one_record (window c.args.parser.now) _ end all.0 row (omega (arith, taken, counted))
    all.1.1 is.1 in
    let least = c.loop-taken.invariant.least in
    omega (arith, ap records_turns same.0, least)
