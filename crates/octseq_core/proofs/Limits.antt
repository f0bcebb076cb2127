-- Laws of limits, also for callers.
use Rattle.std.proofs.Common.{ℕ, ◌≤◌, Option, Some, None, arith}
use Rattle.octseq_core.specs.Limit.{IsWithin, ExceedsLimit}

-- a greater length is past the limit too
pub past_more : (limit : Option ℕ) (m n : ℕ) → m ≤ n → ExceedsLimit limit m → ExceedsLimit limit n
past_more (Some limit) m n less past = omega arith
past_more None m n less past = absurd past

-- a length within the limit isn't past it
pub within_not_past : (limit : Option ℕ) (n : ℕ) → IsWithin limit n → ExceedsLimit limit n → ⊥
within_not_past (Some limit) n within past = omega arith
within_not_past None n within past = past

-- and one that isn't past it is within it
pub within_if_not_past : (limit : Option ℕ) (n : ℕ) → (ExceedsLimit limit n → ⊥) → IsWithin limit n
within_if_not_past (Some limit) n past = omega arith
within_if_not_past None n past = tt
