use Rattle.std.proofs.Common.{◌≡◌, ◌+◌, length, sym, ap, subst, arith, rules}
use Rattle.octseq.specs.Parser.{window}
use Rattle.octseq.specs.Window.{rest}
use Rattle.octseq_dns_data.specs.SvcParams.{IsValueOf, Param, param_octets, split_param, value_turns}
use Rattle.octseq_dns_data.proofs.Params.{ParamPasses, ParamsFrom, Same, after_piece, are_params, no_params, param_less}
use Rattle.octseq_dns_data.proofs.Params.{param_long, param_more, param_split, param_step, params_from, same_as}
use Rattle.octseq_dns_data.proofs.Pieces.{pass_end, pass_none}
use Rattle.octseq_dns_data.proofs.svc_params.form.is_svc_params.Goals as goal

pub returns-in_default-clause-no : goal.returns-in_default-clause-no
returns-in_default-clause-no c = λ _ are.
    let ahead = rest (window c.params.ahead) in
    let from = params_from c.args.octets.now are in
    let test = c.params-test.true in
    let long = c.remaining.ensures.rest in
    pass_none split_param param_octets ParamPasses (λ param. param.0 + 1)
    c.params.least ahead (c.in_default.ensures.none (search rules)) (omega (arith, test, long))
    (c.params.invariant.same.no from)

pub returns-then-from-least-clause-no : goal.returns-then-from-least-clause-no
returns-then-from-least-clause-no c = λ _ are.
    let ahead = rest (window c.params.ahead) in
    let param : Param = (c.in-Ok.key, rest (window c.in-Ok.value)) in
    let less = c.if-from-least.true in
    let same = c.from.ensures in
    let least = param_less c.params.least ahead param (rest (window c.take_param.new.parser)) c.params.invariant.each
    c.in-Ok.ensures.param (c.params.invariant.same.no (params_from c.args.octets.now are)) in
    omega (arith, less, same, least.0)

pub returns-then-not-is_value_of-clause-no : goal.returns-then-not-is_value_of-clause-no
returns-then-not-is_value_of-clause-no c = λ _ are.
    let ahead = rest (window c.params.ahead) in
    let param : Param = (c.in-Ok.key, rest (window c.in-Ok.value)) in
    let least = param_less c.params.least ahead param (rest (window c.take_param.new.parser)) c.params.invariant.each
    c.in-Ok.ensures.param (c.params.invariant.same.no (params_from c.args.octets.now are)) in
    c.if-not-is_value_of.ensures.no (search rules)
    (subst (IsValueOf c.in-Ok.key) (sym c.peek_all.ensures.content) least.1)

pub params-preserved : goal.params-preserved
params-preserved c =
    let ahead = rest (window c.params.ahead) in
    let param : Param = (c.in-Ok.key, rest (window c.in-Ok.value)) in
    let more = rest (window c.take_param.new.parser) in
    let so_far = c.params.invariant in
    let found = c.in-Ok.ensures.param in
    let least = c.if-from-least.false in
    let same = c.from.ensures in
    let value = subst (IsValueOf c.in-Ok.key) c.peek_all.ensures.content
    (c.if-not-is_value_of.ensures.yes (search rules)) in
    let after = after_piece param_split ahead param more so_far.each found in
    let size = param_long param in
    let content = ap length c.peek_all.ensures.content in
    let one = c.tick.ensures in
    let some = c.is_value_of.ensures.some in
    let most = c.is_value_of.ensures.turns in
    let counted = c.is_value_of.ensures.least (search rules) in
    let same_value = ap (λ octets. value_turns (c.in-Ok.key, octets)) c.peek_all.ensures.content in
    let next : param.0 + 1 ≡ c.from-least.result + 1 = search rules in
    let step = param_step c.params.least ahead param more so_far.each found (omega (arith, least, same)) value in
    record {
      same = same_as (subst (λ n. Same (ParamsFrom n more) (ParamsFrom c.params.least ahead)) next step) so_far.same;
      each = after.0;
      some = omega (arith, one, so_far.some, some);
      least = omega (arith, one, so_far.least, counted, same_value, param_more ahead param more found);
      turns = omega (arith, one, so_far.turns, after.1, size, content, most);
    }

pub params-smaller : goal.params-smaller
params-smaller c =
    let ahead = rest (window c.params.ahead) in
    let param : Param = (c.in-Ok.key, rest (window c.in-Ok.value)) in
    let more = rest (window c.take_param.new.parser) in
    (after_piece param_split ahead param more c.params.invariant.each c.in-Ok.ensures.param).2

pub returns-clause-least : goal.returns-clause-least
returns-clause-least c = λ _.
    let test = c.params-test.false in
    let long = c.remaining.ensures.rest in
    let none = no_params (rest (window c.params.ahead)) (omega (arith, test, long)) in
    let least = c.params.invariant.least in
    omega (arith, none, least)

pub returns-clause-yes : goal.returns-clause-yes
returns-clause-yes c = λ _.
    let ahead = rest (window c.params.ahead) in
    let test = c.params-test.false in
    let long = c.remaining.ensures.rest in
    are_params 0 c.args.octets.now
    (c.params.invariant.same.yes (pass_end split_param param_octets ParamPasses
    (λ param. param.0 + 1) c.params.least ahead (omega (arith, test, long))))
