-- Messages while they are written.
use Rattle.std.proofs.Common.{◌≡◌, ℕ, ◌≤◌, List, ◌++◌, ap, ◌∙◌, arith, append_assoc, replicate, Option, Some, None}
use Rattle.octseq.specs.Integer.{octets_be}
use Rattle.octseq_bgp.specs.Composed.{header_octets, least}

-- the parts of a message
pub header_parts : (n kind : ℕ) (body : List ℕ)
    → header_octets n kind ++ body ≡ replicate 16 255 ++ (octets_be 2 n ++ (octets_be 1 kind ++ body))
unfolding header_octets
header_parts n kind body =
    append_assoc (replicate 16 255) (octets_be 2 n ++ octets_be 1 kind) body
    ∙ ap (λ o. replicate 16 255 ++ o) (append_assoc (octets_be 2 n) (octets_be 1 kind) body)

pub least_most : (most : ℕ) (limit : Option ℕ) → least most limit ≤ most
least_most most None = omega arith
least_most most (Some limit) = grind arith
