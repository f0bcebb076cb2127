use Rattle.std.proofs.Common.{ap, arith}
use Rattle.octseq_mrt.specs.Parsed.{entries_left, value_of}
use Rattle.octseq_mrt.specs.ReadTurns.{record_turns}
use Rattle.octseq_c.proofs.MrtRows.{entries_few}
use Rattle.octseq_c.proofs.mrt.rows.row_count.Goals as goal

pub entries_count-requires : goal.entries_count-requires
entries_count-requires g c =
    let same = ap (λ v. record_turns (value_of v)) c.in-Rib.is in
    let few = entries_few (entries_left c.in-Rib.rib.entries) in
    omega (arith, same, few, c.requires)

pub overflow_add-result-in-Rib : goal.overflow_add-result-in-Rib
overflow_add-result-in-Rib g c =
    let same = ap (λ v. record_turns (value_of v)) c.in-Rib.is in
    let few = entries_few (entries_left c.in-Rib.rib.entries) in
    omega (arith, same, few, c.requires, c.entries_count.ensures)
