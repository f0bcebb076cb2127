use Rattle.std.proofs.Common.{◌∙◌, ◌++◌, [], ◌∷◌, refl, arith}
use Rattle.octseq.specs.Parser.{window}
use Rattle.octseq.specs.Window.{left}
use Rattle.octseq_format.specs.Laws.{moving_of}
use Rattle.octseq_format.proofs.RowSteps.{many_ends, many_more, row_turns_more, turns_more}
use Rattle.octseq_format.proofs.rows.skip_many.Goals as goal

pub loop-taken-preserved : goal.loop-taken-preserved
loop-taken-preserved g c =
    let f = g.F.Format in
    let so_far = c.loop-taken.invariant in
    let u = window c.loop-taken.parser in
    let v = window c.parse_counted.new.parser in
    let one = f.found c.in_ok-_item._item in
    let is = c.in_ok-_item.ensures.value in
    let less = (moving_of g.met.F.Format.onward (g.met.F.Format.moving refl)).on u one v is in
    let tick = c.tick.ensures in
    record {
      all = (
        so_far.all.0 ++ one ∷ [],
        many_more f.is_at (window c.args.parser.now) u v c.loop-taken.taken so_far.all.0 one so_far.all.1 is,
        let before = so_far.all.2 in
            omega (arith, before, tick, c.in_ok-_item.ensures.counted, row_turns_more f.turns_of so_far.all.0 one),
      );
      same = c.parse_counted.ensures.same ∙ so_far.same;
      end = c.parse_counted.ensures.end ∙ so_far.end;
      onward = let before = so_far.onward in omega (arith, before, less);
      some = let before = so_far.some in let more = c.parse_counted.ensures.turns.some in
          omega (arith, before, tick, more);
      took = let before = so_far.took in
          let more = turns_more f.base f.rate (left u) (left v) _ _ _ less tick c.in_ok-_item.ensures.took in
          omega (arith, before, more);
    }

pub returns-in_err-_item-clause-malformed : goal.returns-in_err-_item-clause-malformed
returns-in_err-_item-clause-malformed g c = λ _.
    let f = g.F.Format in
    let all = c.loop-taken.invariant.all in
    many_ends f.is_at f.one (window c.args.parser.now) (window c.loop-taken.parser) c.loop-taken.taken
    c.args.count all.0 (c.in_err-_item.ensures.malformed refl) (omega arith) all.1
