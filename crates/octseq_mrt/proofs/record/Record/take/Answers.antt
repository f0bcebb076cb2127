use Rattle.std.proofs.Common.{refl}
use Rattle.octseq.specs.Parser.{window}
use Rattle.octseq_mrt.proofs.record.Record.take.Goals as goal

pub returns-in_err-header-clause-malformed : goal.returns-in_err-header-clause-malformed
returns-in_err-header-clause-malformed g c = λ _ it v is. c.in_err-header.ensures.malformed refl it.0 is.0 is.1

pub returns-clause-record : goal.returns-clause-record
returns-clause-record g c =
    let at = c.in_ok-octets.ensures in
    (window c.parse.new.parser, c.in_ok-header.ensures.header, (at.taken.variant.0 refl, at.window, at.taken.ok))
