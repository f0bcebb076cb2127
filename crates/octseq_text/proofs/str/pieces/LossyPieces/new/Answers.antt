use Rattle.std.proofs.Common.{refl, ap}
use Rattle.octseq_core.specs.ArrayOctets.{ArrayOctets}
use Rattle.octseq_text.proofs.Piecewise.{has_read_nothing, sound_nothing}
use Rattle.octseq_text.proofs.str.pieces.LossyPieces.new.Goals as goal

pub invariant_of-result : goal.invariant_of-result
invariant_of-result g c =
    sound_nothing g.B.AsOctets.limit g.B.AsOctets.asks _ c.in_ok-text.ensures.ok
    (ap (λ (a : ArrayOctets). a.content) c.new.ensures) refl

pub returns-clause-has_read : goal.returns-clause-has_read
returns-clause-has_read g c = has_read_nothing _ c.in_ok-text.ensures.ok
    (ap (λ (a : ArrayOctets). a.content) c.new.ensures)
    refl
