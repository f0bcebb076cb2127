use Rattle.std.proofs.Common.{length, ap, sym, ◌∙◌, subst}
use Rattle.std.proofs.lemmas.Result.{err_from_is_err_and}
use Rattle.octseq_core.specs.Limit.{ExceedsLimit}
use Rattle.octseq_text.proofs.Piecewise.{finish_text, finish_well_formed, finish_too_long}
use Rattle.octseq_core.proofs.Limits.{within_not_past}
use Rattle.octseq_text.proofs.str.pieces.LossyPieces.finish.Goals as goal

pub returns-in_err-append_end-clause-short : goal.returns-in_err-append_end-clause-short
returns-in_err-append_end-clause-short g c =
    let p = err_from_is_err_and c.from_residual.result c.from_residual.ensures.1 in
    rw (p.1, p.2, ← c.self.view_is)
    (λ h octets parts s t. let short = c.in_err-append_end.ensures.short h in
    finish_too_long g.B.AsOctets.limit _ octets parts s t short.0 short.1)

pub from_utf8_unchecked-requires : goal.from_utf8_unchecked-requires
from_utf8_unchecked-requires g c =
    let has_read = c.self.invariant.has_read c.in_default.is in
    finish_well_formed _ has_read.0 _ has_read.1 c.in_ok-append_end.ensures.none c.in_ok-append_end.ensures.some

pub returns-clause-text : goal.returns-clause-text
returns-clause-text g c =
    rw (← c.self.view_is, c.from_utf8_unchecked.ensures)
    (λ octets parts s t. finish_text _ octets _ s c.in_ok-append_end.ensures.none c.in_ok-append_end.ensures.some parts
    t)

pub returns-clause-past : goal.returns-clause-past
returns-clause-past g c = λ octets parts s t p.
    absurd (within_not_past g.B.AsOctets.limit _ c.in_ok-append_end.ensures.within
    (subst (λ y. ExceedsLimit g.B.AsOctets.limit (length y)) (sym (returns-clause-text g c octets parts s t)
    ∙ ap g.B.AsOctets.content c.from_utf8_unchecked.ensures) p))
