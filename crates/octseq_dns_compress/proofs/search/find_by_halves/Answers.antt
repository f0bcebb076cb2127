use Rattle.std.proofs.Common.{sym, ◌∙◌, ◌+◌, ◌-◌, ◌/◌, ◌<◌, length, arith, rules}
use Rattle.std.specs.Cmp.{Equal-is}
use Rattle.octseq_dns_compress.specs.Key.{key}
use Rattle.octseq_dns_compress.proofs.Keys.{before_more, after_more, greater_not_less, halved, halves_left, few_halves}
use Rattle.octseq_dns_compress.proofs.Keys.{key_there, nowhere}
use Rattle.octseq_dns_compress.proofs.search.find_by_halves.Goals as goal

pub halves-preserved-then-is_lt : goal.halves-preserved-then-is_lt
halves-preserved-then-is_lt c =
    let so_far = c.halves.invariant in
    let octets = c.args.octets.now in
    let targets = c.args.targets.now in
    let key = key c.args.next c.args.label.now in
    let half = c.halves.left / 2 in
    let mid = c.halves.from + half in
    let within = so_far.within in
    let inside : mid < length targets = omega (arith, within, c.halves-test.true) in
    let tick = c.tick.ensures in
    let some = so_far.some in
    let few = few_halves (c.halves.turns - c.args.turns.now) c.halves.left c.halves-test.true
    (omega (arith, so_far.halved, c.requires.few)) in
    record {
      within = omega (arith, within, c.halves-test.true);
      before = λ k e below. before_more octets targets key c.requires.targets mid _ c.compare-order.result inside
          c.compare-order.ensures (search rules) k e (omega (arith, below));
      after = λ k e from inside. so_far.after k e (omega (arith, from, c.halves-test.true)) inside;
      some = omega (arith, some, tick);
      halved = halved (c.halves.turns - c.args.turns.now) _ c.halves.left _ (length targets) (omega (arith, some, tick))
          (omega (arith, c.halves-test.true)) so_far.halved;
      least = halves_left (c.halves.turns - c.args.turns.now) _ c.halves.left _ (length targets)
          (omega (arith, some, tick)) (omega (arith, c.halves-test.true)) so_far.least;
      most = omega (arith, some, tick, few);
    }

pub halves-preserved : goal.halves-preserved
halves-preserved c =
    let so_far = c.halves.invariant in
    let octets = c.args.octets.now in
    let targets = c.args.targets.now in
    let key = key c.args.next c.args.label.now in
    let half = c.halves.left / 2 in
    let mid = c.halves.from + half in
    let tick = c.tick.ensures in
    let some = so_far.some in
    let few = few_halves (c.halves.turns - c.args.turns.now) c.halves.left c.halves-test.true
    (omega (arith, so_far.halved, c.requires.few)) in
    record {
      within = omega (arith, so_far.within);
      before = so_far.before;
      after = λ k e from inside. after_more octets targets key c.requires.targets mid _ c.compare-order.result
          (omega (arith, from, inside)) c.compare-order.ensures (search rules) (search rules) k e from inside;
      some = omega (arith, some, tick);
      halved = halved (c.halves.turns - c.args.turns.now) _ c.halves.left half (length targets)
          (omega (arith, some, tick)) (omega arith) so_far.halved;
      least = halves_left (c.halves.turns - c.args.turns.now) _ c.halves.left half (length targets)
          (omega (arith, some, tick)) (omega arith) so_far.least;
      most = omega (arith, some, tick, few);
    }

pub returns-then-is_eq-clause-found : goal.returns-then-is_eq-clause-found
returns-then-is_eq-clause-found c =
    let reported = c.compare-order.result in
    key_there c.args.octets.now c.args.targets.now (key c.args.next c.args.label.now)
    (c.halves.from + c.halves.left / 2) _ (omega (arith, c.halves.invariant.within, c.halves-test.true))
    (sym c.compare-order.ensures ∙ (Equal-is reported).0 (sym c.is_eq.ensures ∙ c.if-is_eq.true))

pub returns-clause-position : goal.returns-clause-position
returns-clause-position c =
    let so_far = c.halves.invariant in
    let none = c.halves-test.false in
    record {
      within = omega (arith, none, so_far.within);
      before = so_far.before;
      after = λ k d from inside. greater_not_less _ (so_far.after k d (omega (arith, none, from)) inside);
    }

pub returns-clause-none : goal.returns-clause-none
returns-clause-none c = λ _.
    let so_far = c.halves.invariant in
    nowhere c.args.octets.now c.args.targets.now (key c.args.next c.args.label.now) c.halves.from so_far.before
    (λ k d from inside. so_far.after k d (omega (arith, c.halves-test.false, from)) inside)
