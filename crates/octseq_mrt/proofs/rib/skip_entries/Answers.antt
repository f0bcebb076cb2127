use Rattle.std.proofs.Common.{◌++◌, [], ◌∷◌, refl, ap, arith}
use Rattle.std.proofs.lemmas.List.Sums.{sum_by_push}
use Rattle.octseq.specs.Parser.{window}
use Rattle.octseq_format.specs.Row.{one_row}
use Rattle.octseq_format.proofs.RowSteps.{many_ends, many_more}
use Rattle.octseq_mrt.specs.OneListed.{one_rib_entry}
use Rattle.octseq_mrt.specs.ReadTurns.{entry_turns, entries_turns}
use Rattle.octseq_mrt.specs.Rib.{IsRibEntry}
use Rattle.octseq_mrt.proofs.rib.skip_entries.Goals as goal

pub returns-in_err-skip_entry-clause-malformed : goal.returns-in_err-skip_entry-clause-malformed
returns-in_err-skip_entry-clause-malformed g c = λ _.
    let all = c.loop-taken.invariant.all in
    let paths = c.args.paths in
    many_ends (IsRibEntry paths) (one_rib_entry paths) (window c.args.parser.now) (window c.loop-taken.parser)
    c.loop-taken.taken c.args.count all.0 (c.in_err-skip_entry.ensures.malformed refl) (omega arith) all.1

pub loop-taken-init : goal.loop-taken-init
loop-taken-init g c = record { all = ([], (refl, refl)); least = omega arith; turns = omega arith }

pub loop-taken-preserved : goal.loop-taken-preserved
loop-taken-preserved g c =
    let so_far = c.loop-taken.invariant in
    let u = window c.loop-taken.parser in
    let v = window c.skip_entry.new.parser in
    let one = c.in_ok-skip_entry.ensures.entry in
    let counted = c.in_ok-skip_entry.ensures.least one.0 v one.1 in
    let more = many_more (IsRibEntry c.args.paths) (window c.args.parser.now) u v c.loop-taken.taken so_far.all.0 one.0
    so_far.all.1 one.1 in
    let sum = sum_by_push entry_turns so_far.all.0 one.0 in
    record {
      all = (so_far.all.0 ++ one.0 ∷ [], more);
      least = omega (arith, sum, so_far.least, counted, c.tick.ensures);
      turns = omega (arith, so_far.turns, c.tick.ensures, c.in_ok-skip_entry.ensures.took);
    }

pub returns-clause-least : goal.returns-clause-least
returns-clause-least g c = λ row end is.
    let so_far = c.loop-taken.invariant in
    let paths = c.args.paths in
    let same = one_row (IsRibEntry paths) (one_rib_entry paths) (window c.args.parser.now) _ end so_far.all.0 row
    (omega (arith, so_far.all.1.0, is.0)) so_far.all.1.1 is.1 in
    omega (arith, ap entries_turns same.0, so_far.least)
