use Rattle.std.proofs.Common.{◌≡◌, ◌↔◌, refl, ap, rules, IsTrue}
use Rattle.octseq_utf8.specs.Text.{chars}
use Rattle.octseq_utf8.proofs.Bridge.{well_formed_from_utf8}
use Rattle.octseq_utf8.proofs.Texts.{same_text}
use Rattle.octseq_text.proofs.str.commands.step.Goals as goal

pub returns-in-Is-clause-step : goal.returns-in-Is-clause-step
returns-in-Is-clause-step g c =
    let same : IsTrue c.eq.result ↔ (c.as_slice.result.now ≡ c.as_bytes.result.now) = search rules in
    rw (c.in-Is.is, ← c.as_bytes.ensures.value, ← c.as_slice.ensures.content) (
      c.eq.result,
      refl,
      (
        λ h. ap chars (same.0 h),
        λ e. same.1 (same_text _ _ c.as_slice.ensures.well_formed (well_formed_from_utf8 _ c.as_bytes.ensures.utf8) e),
      ),
      refl,
    )
