use Rattle.std.proofs.Common.{◌-◌, length, refl, arith, sym, ◌∙◌}
use Rattle.octseq_text.proofs.FaultSearching.{settled_here, open_few, turns_to_end, turns_to_fault}
use Rattle.octseq_text.proofs.Piecewise.{size_none, size_some}
use Rattle.octseq_text.proofs.utf8.pieces.search.Goals as goal

pub returns-then-is_some-clause-fault : goal.returns-then-is_some-clause-fault
returns-then-is_some-clause-fault c =
    settled_here _ c.in-Some.ensures.fault
    (size_some c.in-Some.fault.size c.error_len.result c.error_len.ensures (sym c.is_some.ensures ∙ c.if-is_some.true))
    c.offset.ensures

pub returns-then-is_some-clause-turns : goal.returns-then-is_some-clause-turns
returns-then-is_some-clause-turns c =
    turns_to_fault _ _ _ c.in-Some.fault c.in-Some.ensures.fault c.in-Some.ensures.turns_to_fault

pub returns-in-None-clause-turns : goal.returns-in-None-clause-turns
returns-in-None-clause-turns c = turns_to_end _ _ _ (c.in-None.ensures.none.0 refl) c.in-None.ensures.turns

pub returns-else-is_some-clause-turns : goal.returns-else-is_some-clause-turns
returns-else-is_some-clause-turns c =
    turns_to_fault _ _ _ c.in-Some.fault c.in-Some.ensures.fault c.in-Some.ensures.turns_to_fault

pub open_end-requires : goal.open_end-requires
open_end-requires c =
    let none = size_none c.in-Some.fault.size c.error_len.result c.error_len.ensures
    (sym c.is_some.ensures ∙ c.if-is_some.false) in
    let few = open_few _ c.in-Some.fault c.in-Some.ensures.fault none
    (length c.args.octets.now - c.in-Some.fault.place) in
    rw c.valid_up_to-in-Some.ensures (omega (arith, few))
