use Rattle.std.proofs.Common.{◌≡◌, [], ◌∷◌, ◌++◌, sym, ap, ◌∙◌, inl, inr, rules, arith}
use Rattle.std.proofs.lemmas.List.{append-nil}
use Rattle.std.specs.Prelude.{option_to_list, slice_set}
use Rattle.octseq.proofs.WindowSteps.{step_of, step_alone}
use Rattle.octseq.specs.Parser.{window}
use Rattle.octseq.specs.WindowReply.{WindowReply}
use Rattle.octseq.specs.WindowRun.{says}
use Rattle.octseq.proofs.parse.commands.step.Goals as goal

pub returns-in-Some-clause-step : goal.returns-in-Some-clause-step
returns-in-Some-clause-step g c =
    let items : c.push.new.self.items ≡ slice_set c.args.parsers.now.items c.args.command.parser c.carry_out.new.parser
    ++ c.in-Some.parser ∷ [] =
    rw c.unwrap.ensures at c.push.ensures.items in
    step_of (window {R = g.row.R.Denot} {g = g.R.AsOctets}) _ _ c.len-count.result c.args.parsers.now.items _
    (option_to_list c.in-Ok.field-0.made)
    c.index_mut.result.now c.carry_out.new.parser _ (search rules) (omega arith) c.index_mut.ensures.value
    (inl (sym c.in-Ok.ensures.ok)) (rw c.in-Some.is items)

pub returns-in_default-clause-step : goal.returns-in_default-clause-step
returns-in_default-clause-step g c =
    step_of (window {R = g.row.R.Denot} {g = g.R.AsOctets}) _ _ c.len-count.result c.args.parsers.now.items _
    (option_to_list c.in-Ok.field-0.made)
    c.index_mut.result.now c.carry_out.new.parser _ (search rules) (omega arith) c.index_mut.ensures.value
    (inl (sym c.in-Ok.ensures.ok)) (rw c.in_default.is (sym (append-nil _)))

pub returns-in-Err-Short-clause-step : goal.returns-in-Err-Short-clause-step
returns-in-Err-Short-clause-step g c =
    let refused = c.in-Err-Short.ensures in
    step_alone (window {R = g.row.R.Denot} {g = g.R.AsOctets}) _ _ c.len-count.result c.args.parsers.now.items
    c.index_mut.result.now c.carry_out.new.parser _ (search rules) (omega arith) c.index_mut.ensures.value
    (inl (ap (says WindowReply.short) refused.err ∙ sym (refused.short (rw c.in-Err-Short.field-0-is tt))))

pub returns-in-Err-Memory-clause-step : goal.returns-in-Err-Memory-clause-step
returns-in-Err-Memory-clause-step g c =
    let refused = c.in-Err-Memory.ensures in
    step_alone (window {R = g.row.R.Denot} {g = g.R.AsOctets}) _ _ c.len-count.result c.args.parsers.now.items
    c.index_mut.result.now c.carry_out.new.parser _ (search rules) (omega arith) c.index_mut.ensures.value
    (inr (refused.memory (rw c.in-Err-Memory.field-0-is tt), ap (says WindowReply.memory) refused.err))
