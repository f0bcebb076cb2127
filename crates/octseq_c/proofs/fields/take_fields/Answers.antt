use Rattle.std.proofs.Common.{◌+◌, ◌++◌, ◌∷◌, [], ap, arith, length-append}
use Rattle.std.proofs.lemmas.List.{drop_more}
use Rattle.octseq_c.proofs.TakenFields.{ahead_fields, more_fields, written_row}
use Rattle.octseq_c.proofs.fields.take_fields.Goals as goal

pub loop-field-preserved : goal.loop-field-preserved
loop-field-preserved g c =
    let so_far = c.loop-field.invariant in
    let at = c.loop-field.field-index in
    let next = drop_more c.args.fields.now at _ c.loop-field-test.true in
    let row = c.in_ok-front.field-0 in
    let is = c.in_ok-front.ensures.ok in
    let less = c.in_ok-front.ensures.onward in
    let before = so_far.onward in
    let long = so_far.long in record {
      done = so_far.done ++ row ∷ [];
      long = let both = length-append so_far.done (row ∷ []) in omega (arith, both, long);
      same = ap (λ n. n + 1) so_far.same;
      onward = omega (arith, before, less);
      whole = more_fields c.args.fields.now _ _ _ row next is so_far.done so_far.whole;
      ahead = ahead_fields c.args.fields.now _ _ _ row next is so_far.ahead;
      written = written_row c.args.front.now c.loop-field.front so_far.done row at so_far.same long
          (omega (arith, c.requires.room, c.loop-field-test.true)) so_far.written;
    }
