-- Numbers in groups of 7 bits, the lowest first (LEB128).
use Rattle.std.specs.Prelude.{◌≡◌, ◌⊎◌, ℕ, zero, suc, ◌+◌, ◌*◌, ◌/◌, ◌%◌, ◌<◌, ◌≤◌, ◌^◌, List, [], ◌∷◌, length}
use Rattle.std.specs.Prelude.{nat_lt, if◌then◌else◌, refl}
use Rattle.std.proofs.Common.{take, ap, sym, ◌∙◌, arith, inl, inr, length-take-le}
use Rattle.std.proofs.Math.Nat.{pow-suc}
use Rattle.std.proofs.lemmas.Bool.{ltb-true, ltb-false}
use Rattle.octseq_format.specs.Choice.{by_test}
use Rattle.octseq_format.specs.Varying.{AreEncodingsApart, AreRead}

-- the last octet is below 128, and each before it isn't: its highest bit says that another follows
unfoldable pub IsChained : List ℕ → Type 0
IsChained [] = ⊥
IsChained (x ∷ more) = ((x < 128) × (more ≡ [])) ⊎ ((128 ≤ x) × IsChained more)

-- the number of the other 7 bits of each octet, the lowest first
unfoldable pub leb128 : List ℕ → ℕ
leb128 [] = 0
leb128 (x ∷ more) = x % 128 + 128 * leb128 more

-- the groups of a number, at most k after the first
unfoldable pub groups : ℕ → ℕ → List ℕ
groups zero n = n ∷ []
groups (suc k) n = if nat_lt n 128 then n ∷ [] else (128 + n % 128) ∷ groups k (n / 128)

-- the fewest octets that say a number of 64 bits
abbrev pub leb128_octets : ℕ → List ℕ
leb128_octets n = groups 9 n

-- A whole encoding: at most so many octets, of a number of at most so many bits, and at most 64.
pub record IsLeb128 (most bits : ℕ) (octets : List ℕ) : Type 0 where
  pub chained : IsChained octets
  pub few : length octets ≤ most
  pub bounded : leb128 octets < 2 ^ bits
  pub small : leb128 octets < 2 ^ 64

-- The same of a number and its octets.
pub record LebFits (most bits n : ℕ) : Type 0 where
  pub few : length (leb128_octets n) ≤ most
  pub bounded : n < 2 ^ bits
  pub small : n < 2 ^ 64

abbrev LebEncodes : ℕ → List ℕ → Type 0
LebEncodes n xs = IsChained xs × (leb128 xs ≡ n)

-- ---- lemmas: proved below this line, so what the words mean is read above it

-- ---- laws
some_chained : (xs : List ℕ) → IsChained xs → 0 < length xs
unfolding IsChained
some_chained [] chained = absurd chained
some_chained (x ∷ more) chained = omega arith

none_taken : (j : ℕ) (xs : List ℕ) → j ≤ length xs → take j xs ≡ [] → j ≡ 0
none_taken j xs few none = sym (length-take-le j xs few) ∙ ap length none

-- no chain is the front of another
pub same_chained : (xs : List ℕ) (j k : ℕ) → j ≤ length xs → k ≤ length xs → IsChained (take j xs)
    → IsChained (take k xs) → j ≡ k
unfolding IsChained
same_chained xs zero k few less one other = absurd one
same_chained xs (suc j) zero few less one other = absurd other
same_chained [] (suc j) (suc k) few less one other = absurd one
same_chained (x ∷ xs) (suc j) (suc k) few less (inl a) (inl b) =
    ap suc (none_taken j xs (omega (arith, few)) a.1 ∙ sym (none_taken k xs (omega (arith, less)) b.1))
same_chained (x ∷ xs) (suc j) (suc k) few less (inl a) (inr b) = absurd (omega (arith, a.0, b.0))
same_chained (x ∷ xs) (suc j) (suc k) few less (inr a) (inl b) = absurd (omega (arith, a.0, b.0))
same_chained (x ∷ xs) (suc j) (suc k) few less (inr a) (inr b) =
    ap suc (same_chained xs j k (omega (arith, few)) (omega (arith, less)) a.1 b.1)

pub apart_leb128 : (most bits : ℕ) → AreEncodingsApart (IsLeb128 most bits)
apart_leb128 most bits = record {
  some = λ xs whole. some_chained xs whole.chained;
  same = λ xs j k few less one other. same_chained xs j k few less one.chained other.chained;
}

leb_alone : (n : ℕ) → n < 128 → LebEncodes n (n ∷ [])
unfolding IsChained leb128
leb_alone n few = (inl (few, refl), omega (arith, few))

leb_encodes : (k n : ℕ) → n < 128 ^ suc k → LebEncodes n (groups k n)
unfolding IsChained leb128 groups
leb_encodes zero n few = leb_alone n (omega (arith, few))
leb_encodes (suc k) n few =
    by_test (LebEncodes n) (nat_lt n 128) _ _ (λ small. leb_alone n (ltb-true n 128 small))
    (λ large.
    let power = pow-suc 128 (suc k) in
    let more = leb_encodes k (n / 128) (omega (arith, few, power)) in
    let value = more.1 in
    (inr (omega arith, more.0), omega (arith, value)))

pub read_leb128 : (most bits : ℕ) → AreRead (IsLeb128 most bits) leb128 leb128_octets (LebFits most bits)
read_leb128 most bits = record {
  whole = λ n fits.
      let small = fits.small in
      let made = leb_encodes 9 n (omega (arith, small)) in
      let value = made.1 in
      let bound = fits.bounded in
      record {
        chained = made.0;
        few = fits.few;
        bounded = omega (arith, value, bound);
        small = omega (arith, value, small);
      };
  back = λ n fits. let small = fits.small in (leb_encodes 9 n (omega (arith, small))).1;
}

pub most_leb128 : (most bits n : ℕ) → LebFits most bits n → n < 2 ^ 64
most_leb128 most bits n fits = fits.small
