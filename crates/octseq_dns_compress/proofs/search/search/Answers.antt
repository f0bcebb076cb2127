use Rattle.std.proofs.Common.{refl, subst, arith}
use Rattle.octseq_dns_compress.proofs.Words.{key, IsPosition, plain_labels, Target}
use Rattle.octseq_dns_compress.proofs.PlainLabels.{last_label}
use Rattle.octseq_dns_compress.proofs.Searched.{ends_at, none_at, ending_is}
use Rattle.octseq_dns_compress.proofs.search.search.Goals as goal

pub overflow_sub-ending-in-Ok-2 : goal.overflow_sub-ending-in-Ok-2
overflow_sub-ending-in-Ok-2 c =
    let so_far = c.labels.invariant in
    let last = last_label (plain_labels c.args.name.now) c.labels.ending.written c.label-label.result.now
    (omega (arith, c.labels-test.true)) so_far.within c.label-label.ensures in
    omega (arith, so_far.len, last)

pub labels-preserved : goal.labels-preserved
labels-preserved c =
    let so_far = c.labels.invariant in
    let labels = plain_labels c.args.name.now in
    let within = so_far.within in
    let one = c.in-Ok.ensures.least in
    let turns = c.in-Ok.ensures.turns in
    let found = c.in-Ok.ensures.found in
    let index = found.within in
    let d : Target = record { at = 0; next = 0; pointers = 0; digest = 0 } in
    record {
      within = omega (arith, within);
      len = (let last = last_label labels c.labels.ending.written c.label-label.result.now
          (omega (arith, c.labels-test.true)) within c.label-label.ensures in
          omega (arith, so_far.len, last));
      short = (omega (arith, so_far.short));
      position = so_far.position;
      near = c.requires.targets.near c.in-Ok.index d index;
      few = (let few = c.requires.targets.few c.in-Ok.index d index in omega (arith, few));
      turned = omega (arith, so_far.turned, turns, c.labels-test.true);
      least = omega (arith, so_far.least, one, c.labels-test.true);
      ends = λ names agrees. ends_at c.args.octets.now c.args.targets.now names agrees labels c.labels.ending.written
          c.label-label.result.now c.labels.ending.next c.labels.ending.pointers
          (omega (arith, c.labels-test.true)) within c.label-label.ensures (so_far.ends names agrees) c.in-Ok.index d
          found;
    }

pub returns-in-Err-clause-ending : goal.returns-in-Err-clause-ending
returns-in-Err-clause-ending c names agrees =
    let so_far = c.labels.invariant in
    let labels = plain_labels c.args.name.now in
    let ends = so_far.ends names agrees in
    let new = none_at c.args.octets.now c.args.targets.now names agrees labels c.labels.ending.written
    c.label-label.result.now c.labels.ending.next c.labels.ending.pointers (omega (arith, c.labels-test.true))
    so_far.within c.label-label.ensures ends (c.in-Err.ensures.none refl) in
    let is = ending_is names agrees labels c.labels.ending.written so_far.within ends.there new in
    record {
      first = is.0;
      last = is.1;
      ends = ends;
      new = new;
      position = λ some.
          subst (λ o. IsPosition c.args.octets.now c.args.targets.now (key c.labels.ending.next o) c.in-Err.position)
          c.label-label.ensures c.in-Err.ensures.position;
    }
