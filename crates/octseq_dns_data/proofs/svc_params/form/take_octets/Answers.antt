use Rattle.std.proofs.Common.{refl, sym, ap, ◌∙◌, Some}
use Rattle.std.proofs.Math.Nat.{lt_of_not-le}
use Rattle.octseq.specs.Parser.{window}
use Rattle.octseq.specs.Window.{next, past, rest}
use Rattle.octseq_dns_data.proofs.Windows.{long_rest, no_octets_at, octets_at}
use Rattle.octseq_dns_data.proofs.svc_params.form.take_octets.Goals as goal

pub returns-in_err-octets-clause-none : goal.returns-in_err-octets-clause-none
returns-in_err-octets-clause-none g c = λ _.
    let w = window c.args.parser.now in
    let n = g.row.N in
    let long = long_rest w c.args.parser.now.ordered c.args.parser.now.within in
    no_octets_at n w long
    (lt_of_not-le (λ few. c.in_err-octets.ensures.malformed refl (next n w) (past n w) (few, refl, refl)))

pub returns-clause-octets : goal.returns-clause-octets
returns-clause-octets g c =
    let w = window c.args.parser.now in
    let v = window c.parse.new.parser in
    let long = long_rest w c.args.parser.now.ordered c.args.parser.now.within in
    let is = c.in_ok-octets.ensures.value in
    octets_at g.row.N w v long is.0 is.2 ∙ ap (λ octets. Some (octets, rest v)) (sym is.1)
