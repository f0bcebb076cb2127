use Rattle.std.proofs.Common.{refl}
use Rattle.octseq.specs.Parser.{window}
use Rattle.octseq_bgp.proofs.Bodies.{no_open, no_update, no_notification, no_route_refresh}
use Rattle.octseq_bgp.proofs.message.Message.parse_body.Goals as goal

pub returns-in_err-parse_counted-in-1-clause-malformed : goal.returns-in_err-parse_counted-in-1-clause-malformed
returns-in_err-parse_counted-in-1-clause-malformed g c = λ _.
    no_open c.args.session (window c.args.parser) c.args.kind c.in-1.is
    (c.in_err-parse_counted-in-1.ensures.malformed refl)

pub returns-in_err-parse_counted-in-2-clause-malformed : goal.returns-in_err-parse_counted-in-2-clause-malformed
returns-in_err-parse_counted-in-2-clause-malformed g c = λ _.
    no_update c.args.session (window c.args.parser) c.args.kind c.in-2.is
    (c.in_err-parse_counted-in-2.ensures.malformed refl)

pub returns-in_err-parse-in-3-clause-malformed : goal.returns-in_err-parse-in-3-clause-malformed
returns-in_err-parse-in-3-clause-malformed g c = λ _.
    no_notification c.args.session (window c.args.parser) c.args.kind c.in-3.is
    (c.in_err-parse-in-3.ensures.malformed refl)

pub returns-in_err-parse-in-5-clause-malformed : goal.returns-in_err-parse-in-5-clause-malformed
returns-in_err-parse-in-5-clause-malformed g c = λ _.
    no_route_refresh c.args.session (window c.args.parser) c.args.kind c.in-5.is
    (c.in_err-parse-in-5.ensures.malformed refl)
