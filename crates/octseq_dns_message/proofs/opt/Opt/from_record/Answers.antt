use Rattle.std.proofs.Common.{◌%◌, map, refl, sym, ap, ◌∙◌, subst, arith, rules}
use Rattle.octseq.specs.Parser.{window}
use Rattle.octseq_dns_message.specs.OneOption.{option_code, option_from, option_item}
use Rattle.octseq_dns_message.specs.Opt.{HasOption}
use Rattle.octseq_dns_message.proofs.Options.{no_options, options_are, options_end}
use Rattle.octseq_dns_data.proofs.Rows.{reached_as}
use Rattle.octseq_format.specs.Row.{Row}
use Rattle.octseq_format.specs.Walk.{items_left}
use Rattle.octseq_dns_message.proofs.opt.Opt.from_record.Goals as goal

pub returns-in_err-_walk-clause-malformed : goal.returns-in_err-_walk-clause-malformed
returns-in_err-_walk-clause-malformed g c = λ _ opt is.
    let same = c.rdata-parser.ensures.place in
    no_options (window c.rdata-parser.result) (c.in_err-_walk.ensures.malformed refl) opt.options is.end
    (subst (λ w. Row HasOption w opt.options is.end) (sym same) is.options) (is.ends ∙ ap (λ w. w.end) (sym same))

pub invariant_of-result : goal.invariant_of-result
invariant_of-result g c =
    let w = window c.rdata-parser.result in
    let v = window c.parse.new.parser in
    let found = items_left c.in_ok-_walk._walk in
    let is = c.in_ok-_walk.ensures.value in
    let ordered = c.parse.new.parser.ordered in
    record { row = (map option_from found, ∣ (v, options_are w found v is, options_end w found v ordered is) ∣₁) }

pub returns-clause-opt : goal.returns-clause-opt
returns-clause-opt g c =
    let same = c.rdata-parser.ensures.place in
    let w = window c.rdata-parser.result in
    let v = window c.parse.new.parser in
    let found = items_left c.in_ok-_walk._walk in
    let is = c.in_ok-_walk.ensures.value in
    let ordered = c.parse.new.parser.ordered in
    let ends = options_end w found v ordered is in
    let all = options_are w found v is in
    let bits = c.as_secs-bits.result in
    let seconds = c.ttl.ensures in
    let number = c.as_secs-bits.ensures in
    let marked = c.is_dnssec_ok.ensures in
    let row = subst (λ row. Row HasOption w row v) (reached_as option_code HasOption option_item w
    v w.end (map option_from found) c.result-1.given.0 ends all) all in
    record {
      rtype = search rules;
      size = search rules;
      z = bits % 32768;
      ttl = omega (arith, seconds, number, marked);
      version = omega arith;
      few = omega arith;
      end = v;
      options = subst (λ w. Row HasOption w c.result-1.given.0.0 v) same row;
      ends = ends ∙ ap (λ w. w.end) same;
    }
