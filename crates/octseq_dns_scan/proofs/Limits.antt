-- What limits say of lengths, and what results say.
use Rattle.std.proofs.Common.{◌≡◌, ℕ, Option, Some, None, Result, Ok, Err, sym, subst, arith}
use Rattle.std.specs.Prelude.{IfErr}
use Rattle.octseq.specs.Limit.{ExceedsLimit, IsWithin}

-- what isn't within a limit is past it
not_within : (limit : Option ℕ) (n : ℕ) → ¬ IsWithin limit n → ExceedsLimit limit n
not_within (Some limit) n not = omega (arith, not)
not_within None n not = not tt

pub past_at : (limit : Option ℕ) (n m : ℕ) → m ≡ n → ¬ IsWithin limit n → ExceedsLimit limit m
past_at limit n m same not = subst (ExceedsLimit limit) (sym same) (not_within limit n not)

-- what an error says says more
pub err_weaker : {T E : Type 0} (r : Result T E) (P Q : E → Type 0) → ((e : E) → P e → Q e) → IfErr r P → IfErr r Q
err_weaker (Ok x) P Q more is = tt
err_weaker (Err e) P Q more is = more e is
