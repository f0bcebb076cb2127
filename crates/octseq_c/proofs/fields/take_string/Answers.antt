use Rattle.std.proofs.Common.{refl}
use Rattle.octseq_c.proofs.fields.take_string.Goals as goal

pub returns-in_err-inside-clause-malformed : goal.returns-in_err-inside-clause-malformed
returns-in_err-inside-clause-malformed g c = λ _ row end (inside, is, shown).
    c.in_err-inside.ensures.malformed refl inside end is
