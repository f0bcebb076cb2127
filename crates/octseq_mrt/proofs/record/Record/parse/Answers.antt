use Rattle.std.proofs.Common.{refl, sym, subst, arith}
use Rattle.octseq.specs.Parser.{window}
use Rattle.octseq_mrt.specs.Header.{IsRecord}
use Rattle.octseq_mrt.specs.Parsed.{record_of}
use Rattle.octseq_mrt.proofs.record.Record.parse.Goals as goal

pub returns-in_err-record-clause-malformed : goal.returns-in_err-record-clause-malformed
returns-in_err-record-clause-malformed g c = λ _ it whole.
    c.in_err-record.ensures.malformed refl it whole.0
    (subst (λ w. IsRecord w it whole.0) (sym c.from_ref-parser.ensures.window) whole.1)

pub returns-clause-record : goal.returns-clause-record
returns-clause-record g c =
    let v = window c.take.new.parser in
    let is = subst (λ w. IsRecord w (record_of c.in_ok-record.«record») v) c.from_ref-parser.ensures.window
    c.in_ok-record.ensures.«record» in
    (v, is, omega (arith, c.remaining.ensures.left, c.if-remaining-gt0.false))
