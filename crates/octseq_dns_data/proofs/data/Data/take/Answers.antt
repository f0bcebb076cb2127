use Rattle.std.proofs.Common.{refl, rules}
use Rattle.octseq.specs.Parser.{window}
use Rattle.octseq_dns_data.specs.Data.{ParsedRdata, HasOctetCount, HasMx, HasNaptr, HasSoa, HasSrv}
use Rattle.octseq_dns_name.specs.Name.{HasName}
use Rattle.octseq_dns_data.proofs.Rdata.{Kind, none_by, none_made, no_mx, no_naptr, no_soa, no_srv}
use Rattle.octseq_dns_data.proofs.data.Data.take.Goals as goal

pub returns-in_err-parse_counted-clause-malformed : goal.returns-in_err-parse_counted-clause-malformed
returns-in_err-parse_counted-clause-malformed g c = λ _ _.
    let w = window c.args.parser.now in
    none_by Kind.of_ns c.args.rtype c.args.class w (search rules)
    (none_made ParsedRdata.ns HasName w (c.in_err-parse_counted.ensures.malformed refl))

pub returns-in_err-parse_counted-2-clause-malformed : goal.returns-in_err-parse_counted-2-clause-malformed
returns-in_err-parse_counted-2-clause-malformed g c = λ _ _.
    let w = window c.args.parser.now in
    none_by Kind.of_cname c.args.rtype c.args.class w (search rules)
    (none_made ParsedRdata.cname HasName w (c.in_err-parse_counted-2.ensures.malformed refl))

pub returns-in_err-parse_counted-3-clause-malformed : goal.returns-in_err-parse_counted-3-clause-malformed
returns-in_err-parse_counted-3-clause-malformed g c = λ _ _.
    let w = window c.args.parser.now in
    none_by Kind.of_ptr c.args.rtype c.args.class w (search rules)
    (none_made ParsedRdata.ptr HasName w (c.in_err-parse_counted-3.ensures.malformed refl))

pub returns-in_err-parse_counted-4-clause-malformed : goal.returns-in_err-parse_counted-4-clause-malformed
returns-in_err-parse_counted-4-clause-malformed g c = λ _ _.
    let w = window c.args.parser.now in
    none_by Kind.of_mx c.args.rtype c.args.class w (search rules)
    (none_made ParsedRdata.mx HasMx w (no_mx w (c.in_err-parse_counted-4.ensures.malformed refl)))

pub returns-in_err-parse_counted-5-clause-malformed : goal.returns-in_err-parse_counted-5-clause-malformed
returns-in_err-parse_counted-5-clause-malformed g c = λ _ _.
    let w = window c.args.parser.now in
    none_by Kind.of_soa c.args.rtype c.args.class w (search rules)
    (none_made ParsedRdata.soa HasSoa w (no_soa w (c.in_err-parse_counted-5.ensures.malformed refl)))

pub returns-in_err-parse-clause-malformed : goal.returns-in_err-parse-clause-malformed
returns-in_err-parse-clause-malformed g c = λ _ _.
    let w = window c.args.parser.now in
    none_by Kind.of_a c.args.rtype c.args.class w (search rules)
    (none_made ParsedRdata.a (HasOctetCount 4) w (c.in_err-parse.ensures.malformed refl))

pub returns-in_err-parse-2-clause-malformed : goal.returns-in_err-parse-2-clause-malformed
returns-in_err-parse-2-clause-malformed g c = λ _ _.
    let w = window c.args.parser.now in
    none_by Kind.of_aaaa c.args.rtype c.args.class w (search rules)
    (none_made ParsedRdata.aaaa (HasOctetCount 16) w (c.in_err-parse-2.ensures.malformed refl))

pub returns-in_err-parse_counted-6-clause-malformed : goal.returns-in_err-parse_counted-6-clause-malformed
returns-in_err-parse_counted-6-clause-malformed g c = λ _ _.
    let w = window c.args.parser.now in
    none_by Kind.of_srv c.args.rtype c.args.class w (search rules)
    (none_made ParsedRdata.srv HasSrv w (no_srv w (c.in_err-parse_counted-6.ensures.malformed refl)))

pub returns-in_err-parse_counted-7-clause-malformed : goal.returns-in_err-parse_counted-7-clause-malformed
returns-in_err-parse_counted-7-clause-malformed g c = λ _ _.
    let w = window c.args.parser.now in
    none_by Kind.of_naptr c.args.rtype c.args.class w (search rules)
    (none_made ParsedRdata.naptr HasNaptr w (no_naptr w (c.in_err-parse_counted-7.ensures.malformed refl)))
