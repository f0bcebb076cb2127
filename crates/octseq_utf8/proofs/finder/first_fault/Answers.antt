use Rattle.std.proofs.Common.{refl, arith, length-drop}
use Rattle.std.proofs.lemmas.Option.{IfSome_then}
use Rattle.octseq_utf8.proofs.Faults.{fault_refutes}
use Rattle.octseq_utf8.proofs.Search.{search_start, Finds, tail, ascii_turns, low_well_formed}
use Rattle.octseq_utf8.proofs.finder.first_fault.Goals as goal

-- sixteen to thirty-two octets that are all below 80

pub returns-then-is_ascii_of_two_lanes-clause-none : goal.returns-then-is_ascii_of_two_lanes-clause-none
returns-then-is_ascii_of_two_lanes-clause-none c =
    (λ h. (low_well_formed _ (c.is_ascii_of_two_lanes.ensures.low c.if-is_ascii_of_two_lanes.true)).0, λ w. refl)

pub returns-then-is_ascii_of_two_lanes-clause-turns : goal.returns-then-is_ascii_of_two_lanes-clause-turns
returns-then-is_ascii_of_two_lanes-clause-turns c =
    omega (
      arith,
      c.pass.ensures,
      c.is_ascii_of_two_lanes.ensures.len c.if-is_ascii_of_two_lanes.true,
      low_well_formed _ (c.is_ascii_of_two_lanes.ensures.low c.if-is_ascii_of_two_lanes.true),
    )

-- the runs

pub loop-at-init : goal.loop-at-init
loop-at-init c = search_start c.args.octets.now c.args.turns.now

pub skip_ascii-at-requires : goal.skip_ascii-at-requires
skip_ascii-at-requires c = (c.in-Ok.ensures.passed c.args.turns.now c.loop-at.invariant).at.within

pub loop-at-preserved : goal.loop-at-preserved
loop-at-preserved c =
    c.skip_ascii-at.ensures.passed c.args.turns.now (c.in-Ok.ensures.passed c.args.turns.now c.loop-at.invariant)

-- a fault before the last octets
pub returns-in-Err : goal.returns-in-Err
returns-in-Err c =
    let found = c.in-Err.ensures.fault c.args.turns.now c.loop-at.invariant in
    record {
      none = (λ h. cc, λ w. absurd (fault_refutes found.at.is_fault w));
      fault = found.at.is_fault;
      turns = tt;
      turns_to_fault = found.at.turns;
      passed = tt;
      passed_to_fault = found.at.passed;
      ascii = λ low. absurd (fault_refutes found.at.is_fault (low_well_formed c.args.octets.now low).0);
      mixed = found.few;
    }

-- and the last octets, those after the lanes
all : (c : goal.After-fault_by_parts)
    → Finds c.args.octets.now c.args.turns.now c.fault_by_parts.new.turns c.fault_by_parts.result
all c =
    let last = c.fault_by_parts.ensures in
    tail _ c.loop-at.at _ c.loop-at.turns _ c.fault_by_parts.result c.loop-at.invariant (omega arith) last.none
    last.place last.fault last.turns last.turns_to_fault last.passed_to_fault

pub returns-clause-none : goal.returns-clause-none
returns-clause-none c = (all c).0

pub returns-clause-fault : goal.returns-clause-fault
returns-clause-fault c = IfSome_then c.fault_by_parts.result (all c).1 (λ fault h. h.is_fault)

pub returns-clause-turns_to_fault : goal.returns-clause-turns_to_fault
returns-clause-turns_to_fault c = IfSome_then c.fault_by_parts.result (all c).1 (λ fault h. h.turns)

pub returns-clause-turns : goal.returns-clause-turns
returns-clause-turns c = (all c).2

pub returns-clause-mixed : goal.returns-clause-mixed
returns-clause-mixed c = (all c).3

pub returns-clause-ascii : goal.returns-clause-ascii
returns-clause-ascii c low =
    ascii_turns c.args.octets.now c.loop-at.at c.args.turns.now c.loop-at.turns _ c.loop-at.invariant (omega arith)
    (omega (arith, c.fault_by_parts.ensures.octets, length-drop c.loop-at.at c.args.octets.now)) low
