use Rattle.std.proofs.Common.{◌≡◌, ◌<◌, ◌≤◌, get_or, rules, arith}
use Rattle.octseq_dns_name.proofs.Passes.{octet_at, reads_none, reads_label, cuts_label, no_more}
use Rattle.octseq_dns_name.proofs.name.pass.skip_labels.Goals as goal

pub labels-init : goal.labels-init
labels-init c = record {
  inside = λ _. reads_none c.args.octets.now c.args.place c.args.end c.args.turns.now;
  outside = let ordered = c.requires.ordered in λ over. absurd (omega (arith, ordered, over));
  ordered = omega arith;
  few = omega arith;
  most = omega arith;
  least = omega arith;
}

pub returns-then-size-eq0-clause-some : goal.returns-then-size-eq0-clause-some
returns-then-size-eq0-clause-some c =
    let so_far = c.labels.invariant in
    let limit = c.min.ensures in
    let test = c.labels-test.true in
    let within = c.requires.within in
    let room : c.labels.at < c.args.end = omega (arith, limit, test) in
    let is = octet_at c.args.octets.now c.labels.at c.args.end (omega (arith, room, within)) in
    let size = c.from-size.ensures in
    record {
      reading = so_far.inside (omega (arith, room));
      ordered = so_far.ordered;
      room = room;
      near = omega (arith, limit, test);
      few = so_far.few;
      other = λ some. let either = c.then-size-eq0.either in omega (arith, is, size, either, some);
    }

pub labels-preserved : goal.labels-preserved
labels-preserved c =
    let octets = c.args.octets.now in
    let place = c.args.place in
    let end = c.args.end in
    let to = c.labels.at in
    let size = c.from-size.result in
    let so_far = c.labels.invariant in
    let limit = c.min.ensures in
    let test = c.labels-test.true in
    let room : to < end = omega (arith, limit, test) in
    let other = c.if-size-eq0.false in
    let some : 1 ≤ size = omega (arith, other) in
    let short = c.if-size-gt-LABEL_MAX.false in
    let read = so_far.inside (omega (arith, room)) in
    let few = so_far.few in
    let least = so_far.least in
    let ordered = so_far.ordered in
    let tick = c.tick.ensures in
    let is : get_or octets to 0 ≡ size = search rules in
    record {
      inside = reads_label octets place end to size c.args.turns.now c.labels.turns c.tick.new.self c.requires.within
          ordered room is some short read tick;
      outside = cuts_label octets place end to size c.args.turns.now c.labels.turns c.tick.new.self c.requires.within
          ordered room is some short read;
      ordered = omega (arith, ordered);
      few = omega (arith, few, tick, some);
      most = omega (arith, few, tick, limit, test);
      least = omega (arith, least, tick);
    }

pub returns-clause-none : goal.returns-clause-none
returns-clause-none c = λ _ labels end name.
    let so_far = c.labels.invariant in
    let limit = c.min.ensures in
    let over = c.labels-test.false in
    no_more c.args.octets.now c.args.place c.args.end c.labels.at c.args.turns.now c.labels.turns so_far.ordered
    (omega (arith, limit, over)) so_far.inside so_far.outside labels end name
