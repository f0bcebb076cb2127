-- The smaller of two limits.
use Rattle.std.proofs.Common.{ℕ, Option, Some, None, arith}
use Rattle.octseq.specs.Limit.{ExceedsLimit, IsWithin}
use Rattle.octseq_dns.specs.Writes.{least_limit}

-- what is past one of them is past it
pub past_first : (push limit : Option ℕ) (n : ℕ) → ExceedsLimit push n → ExceedsLimit (least_limit push limit) n
past_first None limit n past = absurd past
past_first (Some most) None n past = past
past_first (Some most) (Some limit) n past = omega (arith, past)

pub past_second : (push limit : Option ℕ) (n : ℕ) → ExceedsLimit limit n → ExceedsLimit (least_limit push limit) n
past_second None limit n past = past
past_second (Some most) None n past = absurd past
past_second (Some most) (Some limit) n past = omega (arith, past)

-- what is within both is within it
pub within_both : (push limit : Option ℕ) (n : ℕ) → IsWithin push n → IsWithin limit n
    → IsWithin (least_limit push limit) n
within_both None limit n one two = two
within_both (Some most) None n one two = one
within_both (Some most) (Some limit) n one two = omega (arith, one, two)

-- and the other way round
pub within_second : (push limit : Option ℕ) (n : ℕ) → IsWithin (least_limit push limit) n → IsWithin limit n
within_second None limit n within = within
within_second (Some most) None n within = tt
within_second (Some most) (Some limit) n within = omega (arith, within)
