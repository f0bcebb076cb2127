use Rattle.std.proofs.Common.{◌∷◌, [], inl, inr, refl, arith}
use Rattle.std.proofs.lemmas.List.{drop_all}
use Rattle.octseq_c.proofs.Anew.{ahead_first}
use Rattle.octseq_c.specs.Made.{offsets_kept}
use Rattle.octseq_c.proofs.RowsPushed.{left_next, left_none, left_past, row_passed, row_taken, rows_step}
use Rattle.octseq_c.proofs.answer.push_rows.Goals as goal

pub loop-row-init : goal.loop-row-init
loop-row-init g c = record {
  left = λ m written is are. ahead_first offsets_kept m written _ _ _ _ 0 is are;
  records = λ rest are. (rest, are);
  rows = c.requires.rows;
  unlimited = c.requires.unlimited;
  room = omega arith;
}

-- a row of another section is skipped
pub loop-row-preserved-then-row-section : goal.loop-row-preserved-then-row-section
loop-row-preserved-then-row-section g c =
    let so_far = c.loop-row.invariant in
    let at = c.loop-row.row-index in
    let passed = row_passed c.args.section c.args.rows.now at c.loop-row-test.true c.if-row-section.true in
    let room = so_far.room in
    record {
      left = λ m written is are. rw passed at (so_far.left m written is are);
      records = λ rest are. so_far.records rest (rw passed are);
      rows = (rw (rows_step c.args.section c.args.rows.now at c.loop-row-test.true) at so_far.rows).1;
      unlimited = so_far.unlimited;
      room = omega (arith, room);
    }

-- a row of the section is pushed
pub loop-row-preserved : goal.loop-row-preserved
loop-row-preserved g c =
    let so_far = c.loop-row.invariant in
    let went = c.in_ok-push_row.ensures in
    let at = c.loop-row.row-index in
    let taken = row_taken c.args.section c.args.rows.now at c.loop-row-test.true c.if-row-section.false in
    let room = so_far.room in
    let counts = went.counts in
    record {
      left = λ m written is are. left_next g.met.S.RecordSection.takes_records
          (rw taken at (so_far.left m written is are)) went.pushed.0 went.pushed.1 went.reaches went.pushed.2;
      records = λ rest are. so_far.records (went.pushed.0 ∷ rest) (rw taken (went.pushed.1, are));
      rows = (rw (rows_step c.args.section c.args.rows.now at c.loop-row-test.true) at so_far.rows).1;
      unlimited = went.unlimited;
      room = omega (arith, room, counts);
    }

-- if a row can't be pushed, the whole exceeds the limit
pub returns-in_err-push_row-clause-short : goal.returns-in_err-push_row-clause-short
returns-in_err-push_row-clause-short g c err m written is are room =
    let so_far = c.loop-row.invariant in
    let went = c.in_err-push_row.ensures in
    let taken = row_taken c.args.section c.args.rows.now c.loop-row.row-index c.loop-row-test.true
    c.if-row-section.false in
    elim (went.pushed.3 refl) [
      | inl past ↦ left_past g.met.S.RecordSection.takes_records (rw taken at (so_far.left m written is are))
          went.pushed.0 went.pushed.1 went.reaches _ past
      | inr full ↦ let few = so_far.room in let within = c.loop-row-test.true in
          absurd (omega (arith, full, few, within, room))
    ]

pub returns-clause-records : goal.returns-clause-records
returns-clause-records g c =
    c.loop-row.invariant.records [] (rw (drop_all c.loop-row.row-index c.args.rows.now c.loop-row-test.false) tt)

pub returns-clause-written : goal.returns-clause-written
returns-clause-written g c m written is are =
    left_none c.args.section c.args.rows.now c.loop-row.row-index c.loop-row-test.false
    (c.loop-row.invariant.left m written is are)
