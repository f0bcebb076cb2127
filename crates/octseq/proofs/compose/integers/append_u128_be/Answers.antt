use Rattle.std.proofs.Common.{◌∙◌}
use Rattle.octseq.proofs.Written.{appends, are_be_16, made_be_16}
use Rattle.octseq.proofs.compose.integers.append_u128_be.Goals as goal

pub returns-clause-octets : goal.returns-clause-octets
returns-clause-octets g c = are_be_16 c.args.value c.ranges.value

pub returns-clause-appended : goal.returns-clause-appended
returns-clause-appended g c = appends (c.to_be_bytes.ensures ∙ made_be_16 c.args.value) c.append_slice.ensures.appended
