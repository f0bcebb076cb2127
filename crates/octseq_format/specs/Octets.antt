-- Octets as they are.
use Rattle.std.specs.Prelude.{◌≡◌, ℕ, List, length, refl}
use Rattle.std.proofs.Math.Nat.{ℕ_set}
use Rattle.octseq_format.specs.Fixed.{AreFixed}

-- ---- lemmas: proved below this line, so what the words mean is read above it

-- n octets are read as themselves
pub are_octets : (n : ℕ) → AreFixed n (λ octets. octets) (λ octets. octets) (λ (octets : List ℕ). length octets ≡ n)
are_octets n = record {
  many = λ octets fits. fits;
  back = λ octets fits. refl;
  once = λ octets. ℕ_set (length octets) n;
  written = λ octets many _. (many, refl);
}
