use Rattle.octseq.proofs.Written.{are_le_3}
use Rattle.octseq.proofs.compose.integers.append_u24_le.Goals as goal

pub returns-in_err-append_slice-clause-octets : goal.returns-in_err-append_slice-clause-octets
returns-in_err-append_slice-clause-octets g c = are_le_3 c.args.value

pub returns-clause-octets : goal.returns-clause-octets
returns-clause-octets g c = are_le_3 c.args.value
