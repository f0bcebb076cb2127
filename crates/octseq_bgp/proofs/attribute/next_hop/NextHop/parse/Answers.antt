use Rattle.std.proofs.Common.{refl, arith}
use Rattle.octseq.specs.Parser.{window}
use Rattle.octseq_bgp.proofs.NextHops.{none_of_16, none_of_32, none_of_4}
use Rattle.octseq_bgp.proofs.attribute.next_hop.NextHop.parse.Goals as goal

pub returns-in_err-parse_all-clause-malformed : goal.returns-in_err-parse_all-clause-malformed
returns-in_err-parse_all-clause-malformed g c = λ _.
    let size = c.remaining.ensures.left in
    let is = c.if-remaining-eq16.true in
    none_of_16 c.args.family (window c.args.parser) (omega (arith, size, is))
    (c.in_err-parse_all.ensures.malformed refl)

pub returns-in_err-global-clause-malformed : goal.returns-in_err-global-clause-malformed
returns-in_err-global-clause-malformed g c = λ _.
    let size = c.remaining-2.ensures.left in
    let is = c.if-remaining-eq32.true in
    none_of_32 c.args.family (window c.args.parser) (omega (arith, size, is)) (c.in_err-global.ensures.malformed refl)

pub returns-in_err-parse_all-2-clause-malformed : goal.returns-in_err-parse_all-2-clause-malformed
returns-in_err-parse_all-2-clause-malformed g c = λ _.
    let size = c.remaining.ensures.left in
    let long = c.remaining-2.ensures.left in
    let not = c.if-remaining-eq16.false in
    let nor = c.if-remaining-eq32.false in
    none_of_4 c.args.family (window c.args.parser) (λ is. omega (arith, size, is, not))
    (λ is. omega (arith, long, is, nor))
    (λ a _. c.in_err-parse_all-2.ensures.malformed refl a)
