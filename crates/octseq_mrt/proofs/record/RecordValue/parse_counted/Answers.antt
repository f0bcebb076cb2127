use Rattle.std.proofs.Common.{refl}
use Rattle.octseq_mrt.proofs.record.RecordValue.parse_counted.Goals as goal

pub returns-in_err-parse_counted-in-PeerIndexTable-clause-malformed :
    goal.returns-in_err-parse_counted-in-PeerIndexTable-clause-malformed
returns-in_err-parse_counted-in-PeerIndexTable-clause-malformed g c = rw c.in-PeerIndexTable.is
    (λ _ value is. c.in_err-parse_counted-in-PeerIndexTable.ensures.malformed refl is.0 is.2)

pub returns-in_err-parse_counted-in-Rib-clause-malformed : goal.returns-in_err-parse_counted-in-Rib-clause-malformed
returns-in_err-parse_counted-in-Rib-clause-malformed g c = rw c.in-Rib.is
    (λ _ value is. c.in_err-parse_counted-in-Rib.ensures.malformed refl is.0 is.2)

pub returns-in_err-parse-in-Bgp4Mp-clause-malformed : goal.returns-in_err-parse-in-Bgp4Mp-clause-malformed
returns-in_err-parse-in-Bgp4Mp-clause-malformed g c = rw c.in-Bgp4Mp.is
    (λ _ value is. c.in_err-parse-in-Bgp4Mp.ensures.malformed refl is.0 is.2)

pub returns-in_err-parse-in-Bgp4MpEt-clause-malformed : goal.returns-in_err-parse-in-Bgp4MpEt-clause-malformed
returns-in_err-parse-in-Bgp4MpEt-clause-malformed g c = rw c.in-Bgp4MpEt.is
    (λ _ value is. c.in_err-parse-in-Bgp4MpEt.ensures.malformed refl is.0 is.2)
