use Rattle.std.proofs.Common.{refl, subst}
use Rattle.std.proofs.Math.Nat.{lt_of_not-le}
use Rattle.octseq.specs.Parser.{window}
use Rattle.octseq_format.specs.Laws.{NoneAt}
use Rattle.octseq_mrt.specs.Header.{IsHeader}
use Rattle.octseq_c.proofs.MrtHeader.{some_header}
use Rattle.octseq_c.proofs.Puts.{when_err}
use Rattle.octseq_c.proofs.mrt.header.header_of.Goals as goal

pub returns-in_err-header-clause-malformed : goal.returns-in_err-header-clause-malformed
returns-in_err-header-clause-malformed g c =
    let octets = g.R.AsOctets.content c.args.octets in
    let none = subst (NoneAt IsHeader) c.from_ref-parser.ensures.window (c.in_err-header.ensures.malformed refl) in
    when_err c.from_residual.result
    (λ err. lt_of_not-le (λ long. let some = some_header octets long in none some.0 _ some.1))

pub returns-clause-header : goal.returns-clause-header
returns-clause-header g c =
    let header = c.in_ok-header.header in
    let after = window c.parse.new.parser in
    record {
      header = header;
      after = after;
      is = subst (λ w. IsHeader w header after) c.from_ref-parser.ensures.window c.in_ok-header.ensures.header;
      len = refl;
      timestamp = refl;
      type_code = refl;
      subtype = refl;
    }
