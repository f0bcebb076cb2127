-- Octets that were refused as text, and why.
use Rattle.octseq_utf8.specs.Fault.{Fault}

pub record Refused (Octets : Type 0) : Type 0 where
  pub octets : Octets
  pub fault : Fault
