use Rattle.std.proofs.Common.{refl, arith}
use Rattle.octseq_mrt.specs.Parsed.{record_of}
use Rattle.octseq_c.proofs.MrtRows.{record_few}
use Rattle.octseq_c.proofs.Puts.{when_err}
use Rattle.octseq_c.proofs.mrt.record.record_value.Goals as goal

pub returns-in_err-record-clause-malformed : goal.returns-in_err-record-clause-malformed
returns-in_err-record-clause-malformed g c =
    when_err c.from_residual.result (λ err is. c.in_err-record.ensures.malformed refl is.0 is.1)

pub returns-clause-few : goal.returns-clause-few
returns-clause-few g c =
    let few = record_few (g.R.AsOctets.content c.args.octets) (record_of c.in_ok-record.record)
    c.in_ok-record.ensures.record in
    let least = c.value_counted.ensures.least in
    let most = c.value_counted.ensures.turns in
    omega (arith, few, least, most)
