use Rattle.std.proofs.Common.{drop, refl, arith, length-drop}
use Rattle.octseq_utf8.specs.Fault.{fault_from}
use Rattle.octseq_utf8.specs.Search.{IsFaultAt}
use Rattle.octseq_utf8.proofs.Faults.{fault_refutes}
use Rattle.octseq_utf8.proofs.Search.{after_more, after_end, after_fault, low_well_formed}
use Rattle.octseq_utf8.proofs.finder.fault_by_parts.Goals as goal

-- the octets that are left are few and all below 80

pub returns-then-is_short_ascii-clause-none : goal.returns-then-is_short_ascii-clause-none
returns-then-is_short_ascii-clause-none c =
    (λ h. (low_well_formed _ (c.is_short_ascii.ensures c.if-is_short_ascii.true)).0, λ w. refl)

pub returns-then-is_short_ascii-clause-turns : goal.returns-then-is_short_ascii-clause-turns
returns-then-is_short_ascii-clause-turns c =
    omega (
      arith,
      c.pass.ensures,
      low_well_formed _ (c.is_short_ascii.ensures c.if-is_short_ascii.true),
      length-drop c.args.from c.args.octets.now,
    )

pub loop-at-preserved : goal.loop-at-preserved
loop-at-preserved c = record {
  after = rw c.tick.ensures (after_more _ _ _ _ _ _ c.loop-at.invariant.after c.in-Encoding.ensures);
  few = omega (arith, c.loop-at.invariant.few);
}

-- what must be shown of the returned fault
owed : (c : goal.After-new) → IsFaultAt (drop c.args.from c.args.octets.now) c.args.turns.now c.tick.new.self
    (fault_from c.args.from c.new.result)
owed c = rw (c.new.ensures, c.tick.ensures) (after_fault _ _ _ _ _ _ c.loop-at.invariant.after c.in-Bad.ensures)

-- a fault while four octets are left

pub returns-in-Err-clause-none : goal.returns-in-Err-clause-none
returns-in-Err-clause-none c = (λ h. cc, λ w. absurd (fault_refutes c.in-Err.ensures.fault.is_fault w))

pub returns-in-Bad-clause-none : goal.returns-in-Bad-clause-none
returns-in-Bad-clause-none c = (λ h. cc, λ w. absurd (fault_refutes (owed c).is_fault w))

pub returns-in-Bad-clause-fault : goal.returns-in-Bad-clause-fault
returns-in-Bad-clause-fault c = (owed c).is_fault

pub returns-in-Bad-clause-turns_to_fault : goal.returns-in-Bad-clause-turns_to_fault
returns-in-Bad-clause-turns_to_fault c = (owed c).turns

pub returns-clause-turns : goal.returns-clause-turns
returns-clause-turns c = (after_end _ _ _ _ _ c.loop-at.invariant.after c.loop-at-test.false).1
