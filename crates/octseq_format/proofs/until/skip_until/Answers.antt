use Rattle.std.proofs.Common.{◌+◌, ◌<◌, ◌≤◌, ◌∙◌, ◌++◌, [], ◌∷◌, refl, sym, subst, arith}
use Rattle.octseq.specs.Parser.{window}
use Rattle.octseq.specs.Window.{left}
use Rattle.octseq_format.specs.Optional.{optional_says, optional_turns}
use Rattle.octseq_format.specs.Until.{IsItem, IsNextItem}
use Rattle.octseq_format.proofs.RowSteps.{many_more, row_turns_more, turns_more}
use Rattle.octseq_format.proofs.UntilSteps.{item_moves, item_goes_on, until_nowhere}
use Rattle.octseq_format.proofs.until.skip_until.Goals as goal

pub items-preserved : goal.items-preserved
items-preserved g c =
    let f = g.F.Family in
    let n = g.N.Number in
    let item = IsItem g.row.END n.is_at f.is_at in
    let so_far = c.items.invariant in
    let u = window c.items.parser in
    let v = window c.next_item.new.parser in
    let one = f.found c.in-Some._item in
    let is : item u one v =
    subst (λ next. IsNextItem g.row.END n.is_at f.is_at u (optional_says f.found next) v) c.in-Some.is
    c.in_ok-_item.ensures.value in
    let counted =
    subst (λ next. c.tick.new.self + optional_turns f.turns_of (optional_says f.found next) ≤ c.next_item.new.turns)
    c.in-Some.is c.in_ok-_item.ensures.counted in
    let moving = item_moves g.row.END g.met.N.Number.onward g.met.F.Family.onward g.met.N.Number.moving in
    let less = moving.on u one v is in
    let on = item_goes_on g.row.END g.met.N.Number.onward g.met.F.Family.onward g.met.N.Number.moving u one v
    c.items.parser.ordered is in
    let tick = c.tick.ensures in
    let here = c.pos-end-in-items.ensures.position in
    record {
      all = (
        so_far.all.0 ++ one ∷ [],
        many_more item (window c.args.parser.now) u v c.items.count so_far.all.0 one so_far.all.1 is,
        let before = so_far.all.2 in
            omega (arith, before, tick, counted, row_turns_more f.turns_of so_far.all.0 one),
      );
      offset = here;
      few = let before = so_far.few in let offset = so_far.offset in omega (arith, before, offset, here, on);
      onward = let before = so_far.onward in omega (arith, before, less);
      same = c.next_item.ensures.same ∙ so_far.same;
      end = c.next_item.ensures.end ∙ so_far.end;
      some = let before = so_far.some in let more = c.next_item.ensures.turns.some in
          omega (arith, before, tick, more);
      took = let before = so_far.took in
          let more = turns_more f.base f.rate (left u) (left v) _ _ _ less tick c.in_ok-_item.ensures.took in
          omega (arith, before, more);
    }

pub returns-in_err-_item-clause-malformed : goal.returns-in_err-_item-clause-malformed
returns-in_err-_item-clause-malformed g c = λ _.
    let f = g.F.Family in
    let n = g.N.Number in
    let all = c.items.invariant.all in
    until_nowhere g.row.END f.is_at n.one f.one (window c.args.parser.now) (window c.items.parser) all.0
    (c.in_err-_item.ensures.malformed refl) all.1.1

pub returns-in_default-clause-all : goal.returns-in_default-clause-all
returns-in_default-clause-all g c =
    let f = g.F.Family in
    let so_far = c.items.invariant in
    let u = window c.items.parser in
    let v = window c.next_item.new.parser in
    let before = so_far.all.2 in
    let more = c.next_item.ensures.turns.some in
    let tick = c.tick.ensures in (
      so_far.all.0,
      u,
      so_far.all.1,
      sym so_far.offset,
      subst (λ next. IsNextItem g.row.END g.N.Number.is_at f.is_at u (optional_says f.found next) v) c.in_default.is
          c.in_ok-_item.ensures.value,
      omega (arith, before, tick, more),
    )

pub returns-in_default-clause-took : goal.returns-in_default-clause-took
returns-in_default-clause-took g c =
    let f = g.F.Family in
    let n = g.N.Number in
    let u = window c.items.parser in
    let v = window c.next_item.new.parser in
    let is : n.is_at u g.row.END v =
    subst (λ next. IsNextItem g.row.END n.is_at f.is_at u (optional_says f.found next) v) c.in_default.is
    c.in_ok-_item.ensures.value in
    let on = g.met.N.Number.onward.less u g.row.END v is in
    let some = g.met.N.Number.moving in
    let less : left v < left u = omega (arith, on, some) in
    let before = c.items.invariant.took in
    let more = turns_more f.base f.rate (left u) (left v) _ _ _ less c.tick.ensures c.in_ok-_item.ensures.took in
    omega (arith, before, more)
