-- The values of octets, and the octets of an integer.
use Rattle.std.specs.Prelude.{ℕ, zero, suc, ℤ, pos, negsuc, ◌+◌, ◌-◌, ◌*◌, ◌/◌, ◌%◌, ◌^◌, ◌<◌, ◌≤◌}
use Rattle.std.specs.Prelude.{◌-ℤ◌, List, [], ◌∷◌, length, reverse, slice_index, nat_le, if◌then◌else◌}

-- the sum of the first n terms
abbrev pub sum_of_first : ℕ → (ℕ → ℕ) → ℕ
sum_of_first zero term = 0
sum_of_first (suc n) term = sum_of_first n term + term n

-- big-endian: each octet has the weight 256 to the power of the number of octets after it
unfoldable pub be : List ℕ → ℕ
be octets = sum_of_first (length octets) (λ i. slice_index octets i * 256 ^ (length octets - 1 - i))

-- little-endian: each octet has the weight 256 to the power of the number of octets before it
unfoldable pub le : List ℕ → ℕ
le octets = sum_of_first (length octets) (λ i. slice_index octets i * 256 ^ i)

-- the signed value of k octets whose sum is n: minus 256 ^ k if n is at least half of that
unfoldable pub signed : ℕ → ℕ → ℤ
signed k n = if nat_le (256 ^ k) (2 * n) then (pos n -ℤ pos (256 ^ k)) else pos n

-- the k octets of n, big-endian: the octet of weight 256 ^ i is n / 256 ^ i % 256
unfoldable pub octets_be : ℕ → ℕ → List ℕ
octets_be zero n = []
octets_be (suc k) n = n / 256 ^ k % 256 ∷ octets_be k n

-- the k octets of n, little-endian: in reverse
unfoldable pub octets_le : ℕ → ℕ → List ℕ
octets_le k n = reverse (octets_be k n)

-- a signed integer that fits in k octets (negsuc n is -(n + 1))
abbrev pub IsSigned : ℕ → ℤ → Type 0
IsSigned k (pos n) = 2 * n < 256 ^ k
IsSigned k (negsuc n) = 2 * suc n ≤ 256 ^ k

-- the sum of its k octets: plus 256 ^ k if it is negative
unfoldable pub unsigned : ℕ → ℤ → ℕ
unsigned k (pos n) = n
unsigned k (negsuc n) = 256 ^ k - suc n
