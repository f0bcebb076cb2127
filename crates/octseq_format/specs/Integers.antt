-- Integers of one width and sign, and their octets in both orders.
use Rattle.std.specs.Prelude.{◌≡◌, ℕ, suc, ℤ, pos, negsuc, ◌-◌, ◌*◌, ◌<◌, ◌≤◌, ◌^◌, List, refl}
use Rattle.std.proofs.Common.{ap, sym, ◌∙◌, subst, arith}
use Rattle.std.proofs.Math.Decide.{dec_le}
use Rattle.std.proofs.Math.Nat.{lt_of_not-le}
use Rattle.std.specs.Coded.{Coded, coded_ℕ, coded_ℤ, le_prop}
use Rattle.octseq.specs.Integer.{be, le, signed, octets_be, octets_le, IsSigned, unsigned}
use Rattle.octseq.proofs.Written.{length_be, length_le, value_be, value_le, signed_unsigned}
use Rattle.octseq.proofs.WrittenBack.{small_be, small_le, as_be, as_le}
use Rattle.octseq_format.specs.Fixed.{AreFixed}

-- A kind of integers: how many octets they have, how these are read and written, big-endian and little-endian, and
-- which integers fit.
pub record Kind : Type 1 where
  pub Number : Type 0
  pub code : Coded Number
  pub width : ℕ
  pub be : List ℕ → Number
  pub le : List ℕ → Number
  pub octets_be : Number → List ℕ
  pub octets_le : Number → List ℕ
  pub Fits : Number → Type 0
  pub are_be : AreFixed width be octets_be Fits
  pub are_le : AreFixed width le octets_le Fits

-- the octets of unsigned integers, big-endian
pub are_be : (k : ℕ) → AreFixed k be (octets_be k) (λ n. n < 256 ^ k)
are_be k = record {
  many = λ n _. length_be k n;
  back = λ n fits. value_be k n fits;
  once = λ n. le_prop {n = suc n} {m = 256 ^ k};
  written = λ xs many each. (subst (λ m. be xs < 256 ^ m) many (small_be xs each), as_be k xs many each);
}

-- little-endian
pub are_le : (k : ℕ) → AreFixed k le (octets_le k) (λ n. n < 256 ^ k)
are_le k = record {
  many = λ n _. length_le k n;
  back = λ n fits. value_le k n fits;
  once = λ n. le_prop {n = suc n} {m = 256 ^ k};
  written = λ xs many each. (subst (λ m. le xs < 256 ^ m) many (small_le xs each), as_le k xs many each);
}

signed_once : (k : ℕ) (z : ℤ) → IsProp (IsSigned k z)
signed_once k (pos n) = le_prop {n = suc (2 * n)} {m = 256 ^ k}
signed_once k (negsuc n) = le_prop {n = 2 * suc n} {m = 256 ^ k}

-- each number that fits k octets is the unsigned form of a signed integer
summed : (k n : ℕ) → Dec (256 ^ k ≤ 2 * n) → n < 256 ^ k → (z : ℤ) × IsSigned k z × (unsigned k z ≡ n)
unfolding unsigned
summed k n (yes big) fits = (negsuc (256 ^ k - suc n), omega (arith, big, fits), omega (arith, fits))
summed k n (no small) fits = (pos n, lt_of_not-le small, refl)

-- so it is the unsigned form of the signed integer that it is read as
signed_written : (k n : ℕ) → n < 256 ^ k → IsSigned k (signed k n) × (unsigned k (signed k n) ≡ n)
signed_written k n fits =
    let sum = summed k n (dec_le (256 ^ k) (2 * n)) fits in
    let back : sum.0 ≡ signed k n = sym (signed_unsigned k sum.0 sum.1).1 ∙ ap (signed k) sum.2 in
    (subst (IsSigned k) back sum.1, ap (unsigned k) (sym back) ∙ sum.2)

-- the octets of signed integers, from those of unsigned ones
pub are_signed : (k : ℕ) {reading : List ℕ → ℕ} {octets : ℕ → List ℕ} → AreFixed k reading octets (λ n. n < 256 ^ k)
    → AreFixed k (λ xs. signed k (reading xs)) (λ z. octets (unsigned k z)) (IsSigned k)
are_signed k {reading} {octets} are = record {
  many = λ z fits. are.many (unsigned k z) (signed_unsigned k z fits).0;
  back = λ z fits.
      let sum = signed_unsigned k z fits in
      ap (signed k) (are.back (unsigned k z) sum.0) ∙ sum.1;
  once = signed_once k;
  written = λ xs many each.
      let reported = are.written xs many each in
      let sum = signed_written k (reading xs) reported.0 in
      (sum.0, ap octets sum.1 ∙ reported.1);
}

-- unsigned integers of k octets
abbrev pub unsigned_kind : ℕ → Kind
unsigned_kind k = record {
  Number = ℕ;
  code = coded_ℕ;
  width = k;
  be = be;
  le = le;
  octets_be = octets_be k;
  octets_le = octets_le k;
  Fits = λ n. n < 256 ^ k;
  are_be = are_be k;
  are_le = are_le k;
}

-- signed integers of k octets
abbrev pub signed_kind : ℕ → Kind
signed_kind k = record {
  Number = ℤ;
  code = coded_ℤ;
  width = k;
  be = λ octets. signed k (be octets);
  le = λ octets. signed k (le octets);
  octets_be = λ z. octets_be k (unsigned k z);
  octets_le = λ z. octets_le k (unsigned k z);
  Fits = IsSigned k;
  are_be = are_signed k (are_be k);
  are_le = are_signed k (are_le k);
}

-- the same for one octet, which both orders read alike
abbrev pub octet_kind : Kind → Kind
octet_kind kind = record {
  Number = kind.Number;
  code = kind.code;
  width = kind.width;
  be = kind.be;
  le = kind.be;
  octets_be = kind.octets_be;
  octets_le = kind.octets_be;
  Fits = kind.Fits;
  are_be = kind.are_be;
  are_le = kind.are_be;
}
