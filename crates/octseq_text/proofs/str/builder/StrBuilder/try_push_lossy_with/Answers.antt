use Rattle.std.proofs.Common.{length, refl, sym, subst}
use Rattle.octseq_core.specs.Limit.{ExceedsLimit}
use Rattle.octseq_core.specs.Refusal.{append_error}
use Rattle.octseq_core.proofs.Limits.{within_not_past}
use Rattle.octseq_utf8.specs.Text.{IsWellFormed}
use Rattle.octseq_utf8.proofs.Bridge.{from_scalar}
use Rattle.octseq_utf8.proofs.LossyTexts.{text_well_formed}
use Rattle.octseq_utf8.proofs.Splitting.{splits}
use Rattle.octseq_utf8.proofs.Texts.{well_formed-append}
use Rattle.octseq_text.proofs.LossyReadings.{reads_lossily}
use Rattle.octseq_text.proofs.str.builder.StrBuilder.try_push_lossy_with.Goals as goal

pub invariant_of-self : goal.invariant_of-self
invariant_of-self g c =
    subst IsWellFormed (sym c.in-Ok.ensures.text)
    (well_formed-append _ _ c.self.invariant
    (text_well_formed c.args.replacement (from_scalar c.args.replacement c.ranges.replacement.0)
    (splits c.args.octets.now)))

pub returns-in-Ok-clause-answer : goal.returns-in-Ok-clause-answer
returns-in-Ok-clause-answer g c =
    rw (← c.self.view_is)
    (reads_lossily append_error _ _ c.args.replacement (g.Octets.AsOctets.content c.self.inside.octets)
    c.args.octets.now _ _
    (from_scalar c.args.replacement c.ranges.replacement.0) c.self.invariant c.in-Ok.ensures.text (λ h. absurd h)
    (λ past. absurd (within_not_past g.Octets.AsOctets.limit _ c.in-Ok.ensures.within
    (subst (λ y. ExceedsLimit g.Octets.AsOctets.limit (length y)) (sym c.in-Ok.ensures.text) past)))
    (λ h. absurd h))

pub returns-in-Err-clause-answer : goal.returns-in-Err-clause-answer
returns-in-Err-clause-answer g c =
    rw (← c.self.view_is)
    (reads_lossily append_error _ _ c.args.replacement (g.Octets.AsOctets.content c.self.inside.octets)
    c.args.octets.now _ _
    (from_scalar c.args.replacement c.ranges.replacement.0) c.self.invariant tt c.in-Err.ensures.short (λ past. refl)
    c.in-Err.ensures.memory)
