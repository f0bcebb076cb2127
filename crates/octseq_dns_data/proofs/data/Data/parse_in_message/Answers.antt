use Rattle.std.proofs.Common.{arith, rules}
use Rattle.octseq.specs.Parser.{window}
use Rattle.octseq_dns_data.specs.Typed.{rdata_of}
use Rattle.octseq_dns_data.proofs.Rdata.{none_ends}
use Rattle.octseq_dns_data.proofs.data.Data.parse_in_message.Goals as goal

pub returns-then-pos-end-clause-malformed : goal.returns-then-pos-end-clause-malformed
returns-then-pos-end-clause-malformed g c = λ _ other v is.
    let place = c.pos.ensures.position in
    let elsewhere = c.if-pos-end.true in
    none_ends c.args.rtype c.args.class (window c.args.parser.now) (window c.take.new.parser) v
    (rdata_of c.in_ok-found.found) other c.args.end (search rules)
    c.in_ok-found.ensures.rdata (λ same. omega (arith, place, elsewhere, same)) is
