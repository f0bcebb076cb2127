use Rattle.std.proofs.Common.{◌+◌, sym, ◌∙◌, Some}
use Rattle.octseq_utf8.specs.Search.{IsFaultAt}
use Rattle.octseq_utf8.proofs.Faults.{fault_refutes}
use Rattle.octseq_utf8.proofs.Search.{at_start, fault_at}
use Rattle.octseq_utf8.proofs.Splitting.{front_stray}
use Rattle.octseq_utf8.proofs.chunk.fault_of_rest.Goals as goal

-- a stray octet is a fault at the front
stray : (c : goal.After-new)
    → IsFaultAt c.args.octets.now c.args.turns.now (c.args.turns.now + 1) (record { place = 0; size = Some 1 })
stray c =
    fault_at c.args.octets.now 0 c.args.turns.now c.args.turns.now (Some 1) (at_start _ _)
    (front_stray c.args.octets.now c.requires (sym c.is_continuation.ensures ∙ c.if-is_continuation.true))

pub returns-then-is_continuation-clause-none : goal.returns-then-is_continuation-clause-none
returns-then-is_continuation-clause-none c = (λ h. cc, λ w. absurd (fault_refutes (stray c).is_fault w))

pub returns-then-is_continuation-clause-fault : goal.returns-then-is_continuation-clause-fault
returns-then-is_continuation-clause-fault c = rw c.new.ensures (stray c).is_fault
