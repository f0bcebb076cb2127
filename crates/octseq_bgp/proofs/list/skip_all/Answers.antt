use Rattle.std.proofs.Common.{◌<◌, ◌++◌, [], ◌∷◌, refl, arith}
use Rattle.octseq.specs.Parser.{window}
use Rattle.octseq.specs.Window.{left}
use Rattle.octseq_format.specs.Laws.{moving_of}
use Rattle.octseq_format.proofs.RowSteps.{to_ends, many_more}
use Rattle.octseq_bgp.proofs.list.skip_all.Goals as goal

pub items-preserved : goal.items-preserved
items-preserved g c =
    let f = g.F.Format in
    let laws = g.met.F.Format in
    let so_far = c.items.invariant in
    let u = window c.items.parser in
    let v = window c.parse.new.parser in
    let one = f.found c.in_ok-_item._item in
    let is = c.in_ok-_item.ensures.value in
    let moves = moving_of laws.onward (laws.moving refl) in
    let less = moves.on u one v is in
    let tick = c.tick.ensures in
    let ahead = so_far.ahead in
    let here = c.remaining-left-in-items.ensures.left in
    record {
      all = (
        so_far.all.0 ++ one ∷ [],
        many_more f.is_at (window c.args.parser.now) u v c.items.count so_far.all.0 one so_far.all.1 is,
      );
      ahead = here;
      few = let before = so_far.few in omega (arith, before, ahead, here, less);
      least = let before = so_far.least in omega (arith, before, tick);
      turns = let before = so_far.turns in omega (arith, before, tick, less);
    }

pub returns-in_err-_item-clause-malformed : goal.returns-in_err-_item-clause-malformed
returns-in_err-_item-clause-malformed g c = λ _ row fills.
    let f = g.F.Format in
    let laws = g.met.F.Format in
    let all = c.items.invariant.all in
    let some : 0 < left (window c.items.parser) = omega (arith, c.items.invariant.ahead, c.items-test.true) in
    to_ends f.is_at f.one (moving_of laws.onward (laws.moving refl)) (window c.args.parser.now) (window c.items.parser)
    fills.0 all.0 row (c.in_err-_item.ensures.malformed refl) some all.1.1 fills.1.0 fills.1.1
