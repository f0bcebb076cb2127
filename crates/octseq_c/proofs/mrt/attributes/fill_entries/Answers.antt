use Rattle.std.proofs.Common.{◌+◌, ◌≤◌, ◌++◌, length, ap, sym, ◌∙◌, arith, append_assoc, flat_map}
use Rattle.std.proofs.Common.{length-append}
use Rattle.std.proofs.lemmas.List.{length-map}
use Rattle.octseq_mrt.specs.Parsed.{attributes_left, entries_left, entry_of}
use Rattle.octseq_c.specs.BgpRows.{row_of_attribute}
use Rattle.octseq_c.specs.MrtRows.{rows_of_attributes}
use Rattle.octseq_c.proofs.BgpFilled.{copy_long}
use Rattle.octseq_c.proofs.Placed.{placed_after}
use Rattle.octseq_c.proofs.mrt.attributes.fill_entries.Goals as goal

-- what is ahead has room
pub fill_attributes-at-requires : goal.fill_attributes-at-requires
fill_attributes-at-requires g c =
    let so_far = c.loop-entry.invariant in
    let rows = rows_of_attributes (entry_of c.in-Some.entry) in
    let more = flat_map rows_of_attributes (entries_left c.next.new.self) in
    let same = length-map (attributes_left c.in-Some.entry.attributes) row_of_attribute in
    let whole = ap (λ row. so_far.done ++ flat_map rows_of_attributes row) (sym c.in-Some.ensures.steps)
    ∙ so_far.whole in
    let all = ap length whole in
    let front = length-append so_far.done (rows ++ more) in
    let back = length-append rows more in
    omega (arith, same, all, front, back, so_far.offset, so_far.long, c.requires)

pub loop-entry-preserved : goal.loop-entry-preserved
loop-entry-preserved g c =
    let so_far = c.loop-entry.invariant in
    let rows = rows_of_attributes (entry_of c.in-Some.entry) in
    let more = flat_map rows_of_attributes (entries_left c.next.new.self) in
    let same = length-map (attributes_left c.in-Some.entry.attributes) row_of_attribute in
    let end = c.fill_attributes-at.ensures.end ∙ ap (λ k. c.loop-entry.at + k) (sym same) in
    let there = length-append so_far.done rows in
    let whole = ap (λ row. so_far.done ++ flat_map rows_of_attributes row) (sym c.in-Some.ensures.steps)
    ∙ so_far.whole in
    let all = ap length whole in
    let front = length-append so_far.done (rows ++ more) in
    let back = length-append rows more in
    let within : c.fill_attributes-at.result ≤ length c.loop-entry.out =
    omega (arith, end, all, front, back, so_far.offset, so_far.long, c.requires) in
    record {
      done = so_far.done ++ rows;
      whole = append_assoc so_far.done rows more ∙ whole;
      offset = omega (arith, end, there, so_far.offset);
      written = placed_after c.args.out.now c.loop-entry.out c.fill_attributes-at.new.out so_far.done rows
          c.loop-entry.at c.fill_attributes-at.result (sym so_far.offset) end so_far.written
          c.fill_attributes-at.ensures.out;
      long = copy_long c.loop-entry.out c.fill_attributes-at.new.out rows c.loop-entry.at
          c.fill_attributes-at.result end within c.fill_attributes-at.ensures.out ∙ so_far.long;
    }
