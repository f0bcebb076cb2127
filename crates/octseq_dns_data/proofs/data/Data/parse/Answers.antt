use Rattle.std.proofs.Common.{refl, rules}
use Rattle.octseq.specs.Parser.{window}
use Rattle.octseq_dns_data.specs.Typed.{rdata_of}
use Rattle.octseq_dns_data.proofs.Rdata.{in_message, none_typed, none_typed_local}
use Rattle.octseq_dns_data.proofs.data.Data.parse.Goals as goal

pub returns-in_err-found-clause-malformed : goal.returns-in_err-found-clause-malformed
returns-in_err-found-clause-malformed g c = λ _.
    none_typed c.args.rtype c.args.class (window c.args.message) (window c.args.inside) _ (search rules) (search rules)
    (c.in_err-found.ensures.malformed refl)

pub returns-then-is_in_message-clause-rdata : goal.returns-then-is_in_message-clause-rdata
returns-then-is_in_message-clause-rdata g c =
    in_message c.args.rtype c.args.class (window c.args.message) (window c.args.inside) (rdata_of c.in_ok-found.found)
    (record {
      end = window c.parse_in_message.new.parser;
      rdata_is = c.in_ok-found.ensures.rdata;
      ends = search rules;
    })

pub returns-in_err-found-2-clause-malformed : goal.returns-in_err-found-2-clause-malformed
returns-in_err-found-2-clause-malformed g c = λ _.
    none_typed_local c.args.rtype c.args.class (window c.args.message) (window c.args.inside) (search rules)
    (c.in_err-found-2.ensures.malformed refl)

pub returns-clause-rdata : goal.returns-clause-rdata
returns-clause-rdata g c = c.in_ok-found-2.ensures.rdata (window c.args.message)

pub returns-clause-place : goal.returns-clause-place
returns-clause-place g c = c.in_ok-found-2.ensures.place (window c.args.message)
