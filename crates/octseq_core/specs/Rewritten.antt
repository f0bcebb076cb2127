-- A content that was overwritten. The law is here because an `impl` cites it, and an `impl` can't cite a proof of its
-- own crate.
use Rattle.std.specs.Prelude.{◌≡◌, ℕ, List, ◌++◌, length, take}
use Rattle.std.proofs.Common.{subst}
use Rattle.std.proofs.Math.Seq.{take-append_seam}

-- ---- lemmas: proved below this line, so what the words mean is read above it

-- n octets are the first n of themselves followed by others
pub taken_whole : (octets after : List ℕ) (n : ℕ) → length octets ≡ n → take n (octets ++ after) ≡ octets
taken_whole octets after n same =
    let Front : ℕ → Type 0 = λ m. take m (octets ++ after) ≡ octets in
    subst Front same (take-append_seam octets after)
