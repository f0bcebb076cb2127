use Rattle.std.proofs.Common.{◌+◌, ◌≤◌, ◌++◌, length, arith, sym, subst}
use Rattle.octseq_core.specs.Limit.{ExceedsLimit}
use Rattle.octseq_utf8.proofs.Splitting.{only_parts}
use Rattle.octseq_text.proofs.Completions.{parts_open}
use Rattle.octseq_text.proofs.Piecewise.{feed_has_read, feed_text, feed_too_long, sound_reading}
use Rattle.octseq_text.proofs.Settling.{settles_end}
use Rattle.octseq_core.proofs.Limits.{within_not_past}
use Rattle.octseq_text.proofs.str.pieces.LossyPieces.feed_counted.Goals as goal

pub invariant_of-self : goal.invariant_of-self
invariant_of-self g c =
    let has_read = c.self.invariant.has_read c.in_default.is in
    let read = c.in-Ok.ensures.read in
    sound_reading g.B.AsOctets.limit g.B.AsOctets.asks _ (has_read.0 ++ c.args.piece.now)
    (feed_has_read _ has_read.0 c.args.piece.now _ _ has_read.1 read c.in-Ok.ensures.open_end c.self.inside.refusal
    c.in_default.is) c.in-Ok.ensures.within

pub returns-in-Ok-clause-has_read : goal.returns-in-Ok-clause-has_read
returns-in-Ok-clause-has_read g c =
    let read = c.in-Ok.ensures.read in
    rw (← c.self.view_is)
    (λ octets s. feed_has_read _ octets c.args.piece.now _ _ s read c.in-Ok.ensures.open_end c.self.inside.refusal
    c.in_default.is)

pub returns-in-Ok-clause-past : goal.returns-in-Ok-clause-past
returns-in-Ok-clause-past g c =
    let read = c.in-Ok.ensures.read in
    rw (← c.self.view_is)
    (λ octets end settled s t p. absurd (within_not_past g.B.AsOctets.limit _ c.in-Ok.ensures.within
    (subst (λ y. ExceedsLimit g.B.AsOctets.limit (length y))
    (sym (feed_text _ octets c.args.piece.now _ _ s read c.in-Ok.ensures.open_end end settled t)) p)))

pub returns-in-Err-clause-short : goal.returns-in-Err-clause-short
returns-in-Err-clause-short g c =
    rw (← c.self.view_is)
    (λ h octets end settled s t.
    let long = c.in-Err.ensures.short h in
    feed_too_long _ octets c.args.piece.now s long end settled t)

-- if none was

pub returns-in-Ok-clause-parts : goal.returns-in-Ok-clause-parts
returns-in-Ok-clause-parts g c =
    rw (← c.self.view_is)
    (λ parts s. subst (λ parts. c.read.new.turns ≤ c.args.turns.now + length parts) (sym (only_parts s))
    c.in-Ok.ensures.turns)

pub returns-in-Ok-clause-turns : goal.returns-in-Ok-clause-turns
returns-in-Ok-clause-turns g c =
    let unfinished = settles_end (c.self.invariant.has_read c.in_default.is).1.settles in
    let counted = c.in-Ok.ensures.turns in
    omega (arith, parts_open c.self.inside.end.content c.args.piece.now unfinished)

pub returns-in-Err-clause-parts : goal.returns-in-Err-clause-parts
returns-in-Err-clause-parts g c =
    rw (← c.self.view_is)
    (λ parts s. subst (λ parts. c.read.new.turns ≤ c.args.turns.now + length parts) (sym (only_parts s))
    c.in-Err.ensures.turns)

pub returns-in-Err-clause-turns : goal.returns-in-Err-clause-turns
returns-in-Err-clause-turns g c =
    let unfinished = settles_end (c.self.invariant.has_read c.in_default.is).1.settles in
    let counted = c.in-Err.ensures.turns in
    omega (arith, parts_open c.self.inside.end.content c.args.piece.now unfinished)
