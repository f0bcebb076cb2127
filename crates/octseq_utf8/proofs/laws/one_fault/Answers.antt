use Rattle.octseq_utf8.proofs.Faults as Faults
use Rattle.octseq_utf8.proofs.laws.one_fault.Goals as goal

pub returns : goal.returns
returns c = record {
  only = λ octets fault other f g. Faults.one_fault f g;
  refutes = λ octets fault f. Faults.fault_refutes f;
  size = λ octets place n f. Faults.fault_small f;
}
