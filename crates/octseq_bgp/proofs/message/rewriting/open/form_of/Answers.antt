use Rattle.std.proofs.Common.{map, arith}
use Rattle.std.proofs.lemmas.List.{length-map}
use Rattle.octseq_bgp.specs.Lists.{parameters_left}
use Rattle.octseq_bgp.specs.OneOpen.{says_parameter}
use Rattle.octseq_bgp.proofs.RewrittenOpens.{long_row, many_said}
use Rattle.octseq_bgp.proofs.message.rewriting.open.form_of.Goals as goal

pub overflow_add-len : goal.overflow_add-len
overflow_add-len g c =
    let few = many_said (parameters_left c.args.parameters) in
    omega (arith, few, c.requires.few, c.parameters_len-len.ensures, c.len.ensures)

pub returns-then-needs_long-clause-len : goal.returns-then-needs_long-clause-len
returns-then-needs_long-clause-len g c =
    let row = parameters_left c.args.parameters in
    let long = long_row (map says_parameter row) in
    let many = length-map row says_parameter in
    omega (arith, long, many, c.parameters_len-len.ensures, c.len.ensures)

pub returns-then-needs_long-clause-most : goal.returns-then-needs_long-clause-most
returns-then-needs_long-clause-most g c =
    let few = many_said (parameters_left c.args.parameters) in
    omega (arith, few, c.requires.few, c.parameters_len-len.ensures, c.len.ensures)

pub returns-then-needs_long-clause-fit : goal.returns-then-needs_long-clause-fit
returns-then-needs_long-clause-fit g c =
    let few = many_said (parameters_left c.args.parameters) in
    omega (arith, few, c.requires.few, c.parameters_len-len.ensures, c.len.ensures)
