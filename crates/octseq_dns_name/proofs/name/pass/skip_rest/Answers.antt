use Rattle.std.proofs.Common.{sym, subst}
use Rattle.octseq_dns_name.specs.Name.{HasPointer}
use Rattle.octseq_dns_name.specs.Pass.{place_in, window_at}
use Rattle.std.proofs.Common.{◌≡◌, ◌+◌, ◌≤◌, get_or, refl, rules, arith}
use Rattle.octseq_dns_name.proofs.Passes.{ended_rest, long_label, none_pointed, cuts_rest, rests_none, no_rest}
use Rattle.octseq_dns_name.proofs.Passes.{many_pointers, rests_pointer, rests_label, rests_root}
use Rattle.octseq_dns_name.proofs.name.pass.skip_rest.Goals as goal

pub pieces-init : goal.pieces-init
pieces-init c = record {
  inside = λ _. rests_none c.args.octets.now c.args.to c.args.end c.args.before c.args.turns.now;
  outside = let ordered = c.requires.ordered in λ over. absurd (omega (arith, ordered, over));
  ordered = c.requires.ordered;
  more = omega arith;
  short = c.requires.short;
  some = omega arith;
  few = omega arith;
  turns = omega arith;
  least = omega arith;
}

pub returns-then-size-eq0-clause-some : goal.returns-then-size-eq0-clause-some
returns-then-size-eq0-clause-some c =
    let so_far = c.pieces.invariant in
    let room = c.pieces-test.true in
    let is : get_or c.args.octets.now c.pieces.at 0 ≡ c.from-size.result = search rules in
    rests_root c.args.octets.now c.args.to c.args.end c.pieces.start c.pieces.at c.args.before c.pieces.len
    c.pieces.pointers c.args.turns.now c.pieces.turns (so_far.inside (omega (arith, room))) so_far.more
    c.from-size.result c.requires.within room is c.if-size-eq0.true so_far.short so_far.few

pub returns-then-len-gt-NAME_MAX-clause-none : goal.returns-then-len-gt-NAME_MAX-clause-none
returns-then-len-gt-NAME_MAX-clause-none c = λ _.
    let so_far = c.pieces.invariant in
    let room = c.pieces-test.true in
    let other = c.if-size-eq0.false in
    let is : get_or c.args.octets.now c.pieces.at 0 ≡ c.from-size.result = search rules in
    long_label c.args.octets.now c.args.to c.args.end c.pieces.start c.pieces.at c.args.before c.pieces.len
    c.pieces.pointers c.args.turns.now c.pieces.turns c.from-size.result (so_far.inside (omega (arith, room)))
    so_far.more c.requires.within room is (omega (arith, other)) c.if-size-le-LABEL_MAX.true c.if-len-gt-NAME_MAX.true

pub pieces-preserved-then-size-le-LABEL_MAX : goal.pieces-preserved-then-size-le-LABEL_MAX
pieces-preserved-then-size-le-LABEL_MAX c =
    let octets = c.args.octets.now in
    let size = c.from-size.result in
    let so_far = c.pieces.invariant in
    let room = c.pieces-test.true in
    let other = c.if-size-eq0.false in
    let some : 1 ≤ size = omega (arith, other) in
    let short = c.if-size-le-LABEL_MAX.true in
    let is : get_or octets c.pieces.at 0 ≡ size = search rules in
    let read = so_far.inside (omega (arith, room)) in
    let more = so_far.more in
    let turns = so_far.turns in
    let least = so_far.least in
    let tick = c.tick.ensures in
    record {
      inside = rests_label octets c.args.to c.args.end c.pieces.start c.pieces.at c.args.before c.pieces.len
          c.pieces.pointers c.args.turns.now c.pieces.turns read more size c.requires.within room is c.tick.new.self
          some
          short tick;
      outside = cuts_rest octets c.args.to c.args.end c.pieces.start c.pieces.at c.args.before c.pieces.len
          c.pieces.pointers c.args.turns.now c.pieces.turns read more size c.requires.within room is some short;
      ordered = so_far.ordered;
      more = omega (arith, more);
      short = c.if-len-gt-NAME_MAX.false;
      some = so_far.some;
      few = so_far.few;
      turns = omega (arith, turns, tick, some);
      least = omega (arith, least, tick);
    }

pub pieces-preserved : goal.pieces-preserved
pieces-preserved c =
    let octets = c.args.octets.now in
    let end = c.args.end in
    let to = c.pointer_target-start.result in
    let so_far = c.pieces.invariant in
    let room = c.pieces-test.true in
    let has = subst (λ to. HasPointer c.pieces.start (window_at octets c.pieces.at end) to
    (window_at octets (c.pieces.at + 2) end)) (sym c.pointer_target-start.ensures)
    (c.points_before.ensures.some c.if-not-points_before.false) in
    let turns = so_far.turns in
    let least = so_far.least in
    let some = so_far.some in
    let ordered = so_far.ordered in
    let before = has.before in
    let tick = c.tick-in-pieces.ensures in
    record {
      inside = λ _. rests_pointer octets c.args.to end c.pieces.start c.pieces.at c.args.before c.pieces.len
          c.pieces.pointers c.args.turns.now c.pieces.turns (so_far.inside (omega (arith, room))) so_far.more to
          c.tick-in-pieces.new.self some has tick;
      outside = λ over. absurd (omega (arith, over, before, ordered));
      ordered = omega (arith, before, ordered);
      more = so_far.more;
      short = so_far.short;
      some = omega arith;
      few = c.if-pointers-gt-POINTER_MAX.false;
      turns = omega (arith, turns, tick);
      least = omega (arith, least, tick);
    }

pub returns-then-not-points_before-clause-none : goal.returns-then-not-points_before-clause-none
returns-then-not-points_before-clause-none c = λ _.
    let so_far = c.pieces.invariant in
    let room = c.pieces-test.true in
    let other = c.if-size-le-LABEL_MAX.false in
    let size = c.from-size.ensures in
    no_rest c.args.octets.now c.args.to c.args.end c.pieces.start c.pieces.at c.args.before c.pieces.len
    c.pieces.pointers c.args.turns.now c.pieces.turns (so_far.inside (omega (arith, room))) so_far.more
    (none_pointed c.args.octets.now c.pieces.at c.args.end (get_or c.args.octets.now c.pieces.at 0) c.requires.within
    room refl c.pieces.start (omega (arith, other, size)) (c.points_before.ensures.none c.if-not-points_before.true))

pub returns-then-pointers-gt-POINTER_MAX-clause-none : goal.returns-then-pointers-gt-POINTER_MAX-clause-none
returns-then-pointers-gt-POINTER_MAX-clause-none c = λ _.
    let so_far = c.pieces.invariant in
    let room = c.pieces-test.true in
    let to = place_in c.args.octets.now c.pieces.at in
    let read = rests_pointer c.args.octets.now c.args.to c.args.end c.pieces.start c.pieces.at c.args.before
    c.pieces.len c.pieces.pointers c.args.turns.now c.pieces.turns (so_far.inside (omega (arith, room))) so_far.more to
    (c.pieces.turns + 1) so_far.some (c.points_before.ensures.some c.if-not-points_before.false) refl in
    many_pointers c.args.octets.now c.args.to c.args.end to to c.args.before c.pieces.len (c.pieces.pointers + 1)
    c.args.turns.now (c.pieces.turns + 1) read so_far.more c.if-pointers-gt-POINTER_MAX.true

pub returns-clause-none : goal.returns-clause-none
returns-clause-none c = λ _.
    let so_far = c.pieces.invariant in
    ended_rest c.args.octets.now c.args.to c.args.end c.pieces.start c.pieces.at c.args.before c.pieces.len
    c.pieces.pointers c.args.turns.now c.pieces.turns so_far.more c.pieces-test.false so_far.inside so_far.outside
