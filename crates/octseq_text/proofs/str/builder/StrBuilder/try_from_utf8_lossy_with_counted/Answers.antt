use Rattle.std.proofs.Common.{◌+◌, ◌≤◌, [], length, sym, subst}
use Rattle.octseq_core.specs.Refusal.{append_error}
use Rattle.octseq_utf8.proofs.Bridge.{from_scalar}
use Rattle.octseq_utf8.proofs.Spelling.{spells_nothing}
use Rattle.octseq_utf8.proofs.Splitting.{only_parts}
use Rattle.octseq_text.proofs.LossyReadings.{reads_lossily}
use Rattle.octseq_text.proofs.str.builder.StrBuilder.try_from_utf8_lossy_with_counted.Goals as goal

pub returns-clause-answer : goal.returns-clause-answer
returns-clause-answer g c =
    let read = c.read_with.ensures in
    reads_lossily append_error _ _ c.args.replacement [] _ _ c.read_with.result
    (from_scalar c.args.replacement c.ranges.replacement.0) ([], spells_nothing) read.text read.short read.past
    read.memory

pub returns-clause-turns : goal.returns-clause-turns
returns-clause-turns g c = λ parts s. subst (λ parts. c.read_with.new.turns ≤ c.args.turns.now + length parts)
    (sym (only_parts s)) c.read_with.ensures.turns
