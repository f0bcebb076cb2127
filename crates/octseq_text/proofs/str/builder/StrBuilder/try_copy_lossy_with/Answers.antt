use Rattle.std.proofs.Common.{◌++◌, [], length, refl, ap, sym, ◌∙◌, subst}
use Rattle.std.proofs.lemmas.Result.{err_from_is_err_and}
use Rattle.octseq_core.specs.Limit.{ExceedsLimit}
use Rattle.octseq_core.specs.Refusal.{append_error}
use Rattle.octseq_core.proofs.Limits.{within_not_past}
use Rattle.octseq_utf8.specs.Parts.{text_with}
use Rattle.octseq_utf8.specs.Reading.{parts_of}
use Rattle.octseq_utf8.specs.Text.{IsWellFormed}
use Rattle.octseq_utf8.proofs.Bridge.{from_scalar}
use Rattle.octseq_utf8.proofs.LossyTexts.{text_well_formed}
use Rattle.octseq_utf8.proofs.Spelling.{spells_nothing}
use Rattle.octseq_utf8.proofs.Splitting.{splits}
use Rattle.octseq_text.proofs.LossyReadings.{reads_lossily}
use Rattle.octseq_text.proofs.str.builder.StrBuilder.try_copy_lossy_with.Goals as goal

pub returns-in_err-made : goal.returns-in_err-made
returns-in_err-made g c =
    let p = err_from_is_err_and c.from_residual.result c.from_residual.ensures.1 in
    rw (p.1, p.2)
    (record {
      answer = reads_lossily append_error _ _ c.args.replacement [] _ _ _
          (from_scalar c.args.replacement c.ranges.replacement.0) ([], spells_nothing)
          tt (λ h. absurd h) (λ past. refl) (λ h. c.in_err-made.ensures.memory);
    })

pub returns-in_err-append_lossy : goal.returns-in_err-append_lossy
returns-in_err-append_lossy g c =
    let exit = c.from_residual-in_err-append_lossy in
    let p = err_from_is_err_and exit.result exit.ensures.1 in
    let text = text_with c.args.replacement (parts_of c.args.octets.now) in
    rw (p.1, p.2)
    (record {
      answer = reads_lossily append_error _ _ c.args.replacement [] _ _ _
          (from_scalar c.args.replacement c.ranges.replacement.0) ([], spells_nothing)
          tt (λ h. subst (λ y. ExceedsLimit g.Octets.AsOctets.limit (length (y ++ text))) c.in_ok-made.ensures.ok
          (c.in_err-append_lossy.ensures.short h)) (λ past. refl)
          c.in_err-append_lossy.ensures.memory;
    })

pub from_utf8_unchecked-requires : goal.from_utf8_unchecked-requires
from_utf8_unchecked-requires g c =
    let text = text_with c.args.replacement (parts_of c.args.octets.now) in
    subst IsWellFormed (sym (c.in_ok-append_lossy.ensures.text ∙ ap (λ y. y ++ text) c.in_ok-made.ensures.ok))
    (text_well_formed c.args.replacement (from_scalar c.args.replacement c.ranges.replacement.0)
    (splits c.args.octets.now))

pub returns : goal.returns
returns g c =
    let text = text_with c.args.replacement (parts_of c.args.octets.now) in
    let made = c.in_ok-append_lossy.ensures.text ∙ ap (λ y. y ++ text) c.in_ok-made.ensures.ok in
    record {
      answer = reads_lossily append_error _ _ c.args.replacement [] _ _ _
          (from_scalar c.args.replacement c.ranges.replacement.0) ([], spells_nothing)
          (ap g.Octets.AsOctets.content c.from_utf8_unchecked.ensures ∙ made) (λ h. absurd h)
          (λ past. absurd (within_not_past g.Octets.AsOctets.limit _ c.in_ok-append_lossy.ensures.within
          (subst (λ y. ExceedsLimit g.Octets.AsOctets.limit (length y)) (sym made) past)))
          (λ h. absurd h);
    }
