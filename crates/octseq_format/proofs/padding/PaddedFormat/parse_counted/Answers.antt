use Rattle.std.proofs.Common.{◌≡◌, ◌-◌, refl, subst}
use Rattle.octseq.specs.Parser.{window}
use Rattle.octseq_format.specs.Laws.{NoneAt}
use Rattle.octseq_format.specs.Padding.{IsZeros, padding, no_padding}
use Rattle.octseq_format.proofs.padding.PaddedFormat.parse_counted.Goals as goal

pub returns-in_err-parse_zeros-clause-malformed : goal.returns-in_err-parse_zeros-clause-malformed
returns-in_err-parse_zeros-clause-malformed g c = λ _.
    let w = window c.args.parser.now in
    let u = window c.parse_counted.new.parser in
    let many : c.padding_len-len.result ≡ padding g.row.N (u.position - w.position) = cc in
    no_padding g.row.N g.A.Format.one w u (g.A.Format.found c.in_ok-value.value) c.in_ok-value.ensures.value
    (subst (λ n. NoneAt (IsZeros n) u) many (c.in_err-parse_zeros.ensures.malformed refl))
