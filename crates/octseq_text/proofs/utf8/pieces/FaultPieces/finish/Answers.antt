use Rattle.std.proofs.Common.{refl}
use Rattle.octseq_text.proofs.FaultSearching.{reported_fault, reported_refutes, met_reported, all_well_formed}
use Rattle.octseq_text.proofs.FaultSearching.{end_reported}
use Rattle.octseq_text.proofs.utf8.pieces.FaultPieces.finish.Goals as goal

-- where a fault was met

pub returns-in-Some-clause-reported : goal.returns-in-Some-clause-reported
returns-in-Some-clause-reported c = rw (← c.self.view_is)
    (λ octets s. met_reported _ octets c.in-Some.fault s c.in-Some.is)

pub returns-in-Some-clause-fault : goal.returns-in-Some-clause-fault
returns-in-Some-clause-fault c = λ octets s. reported_fault octets _ (returns-in-Some-clause-reported c octets s)

pub returns-in-Some-clause-none : goal.returns-in-Some-clause-none
returns-in-Some-clause-none c = λ octets s.
    (λ h. absurd (cc), λ w. absurd (reported_refutes (returns-in-Some-clause-reported c octets s) w))

-- where none was, and the open end is looked at

pub returns-in-None-clause-none : goal.returns-in-None-clause-none
returns-in-None-clause-none c =
    rw (← c.self.view_is)
    (λ octets s. (
      λ h. all_well_formed _ octets s c.in_default.is
          (rw c.as_slice.ensures.content at (c.in-None.ensures.none.0 refl)),
      λ w. refl,
    ))

pub returns-in-Some-find_fault-clause-reported : goal.returns-in-Some-find_fault-clause-reported
returns-in-Some-find_fault-clause-reported c =
    rw (← c.self.view_is)
    (λ octets s. end_reported _ octets s c.in_default.is
    (rw c.as_slice.ensures.content at c.in-Some-find_fault.ensures.fault) c.offset.ensures)

pub returns-in-Some-find_fault-clause-fault : goal.returns-in-Some-find_fault-clause-fault
returns-in-Some-find_fault-clause-fault c =
    λ octets s. reported_fault octets _ (returns-in-Some-find_fault-clause-reported c octets s)

pub returns-in-Some-find_fault-clause-none : goal.returns-in-Some-find_fault-clause-none
returns-in-Some-find_fault-clause-none c = λ octets s.
    (λ h. absurd (cc), λ w. absurd (reported_refutes (returns-in-Some-find_fault-clause-reported c octets s) w))
