-- Answers, as conditions of laws.
use Rattle.std.specs.Prelude.{Bool, true, false, IsTrue, ◌⊎◌, refl}
use Rattle.std.proofs.Common.{inl, inr, sym}
use Rattle.std.proofs.Math.Bool.{true≢false}

-- ---- lemmas: proved below this line, so what the words mean is read above it

-- anything follows if `No` is `Yes`
pub not_so : {A : Type 0} → IsTrue false → A
not_so is = absurd (true≢false (sym is))

pub both_yes : {b : Bool} → IsTrue b → IsTrue true × IsTrue b
both_yes is = (refl, is)

pub both_no : {b : Bool} → IsTrue false → IsTrue false × IsTrue b
both_no is = not_so is

pub either_first : {b : Bool} → IsTrue true → IsTrue true ⊎ IsTrue b
either_first is = inl is

pub either_second : {b : Bool} → IsTrue b → IsTrue false ⊎ IsTrue b
either_second is = inr is
