-- Numbers as the bits of a larger one.
use Rattle.std.specs.Prelude.{◌≡◌, ◌≢◌, ℕ, ◌+◌, ◌*◌, ◌/◌, ◌%◌, ◌<◌, ◌≤◌, ◌^◌, Bool, true, false}
use Rattle.std.specs.Prelude.{List, length, cond, min, refl}
use Rattle.std.proofs.Common.{sym, ap, ◌∙◌, subst, arith}
use Rattle.std.proofs.Math.Decide.{dec_le}
use Rattle.std.proofs.Math.Nat.{lt_of_not-le, mul-le-mul_left, mul-le-mul_right}
use Rattle.std.proofs.lemmas.Nat.{div-mul-add, mod-mul-add, pow-add}
use Rattle.octseq.specs.Window.{Window, past}
use Rattle.octseq_format.specs.Laws.{Relation, NoneAt, IsOne, IsOnward, IsReadBack, IsDelimited, back_of}
use Rattle.octseq_format.specs.Pair.{◌also◌, same_pair}

-- A number is of at most one value.
pub record IsOneNumber {S : Type 0} (number : S → ℕ) (Fits : S → Type 0) : Type 0 where
  pub same : (a b : S) → Fits a → Fits b → number a ≡ number b → a ≡ b

-- The number of a value that fits has at most this many bits.
pub record HasBits {S : Type 0} (bits : ℕ) (number : S → ℕ) (Fits : S → Type 0) : Type 0 where
  pub few : (a : S) → Fits a → number a < 2 ^ bits

-- the number of two values: the lowest `bits` bits are those of the second, the upper ones those of the first
abbrev pub both_bits : {S T : Type 0} → (S → ℕ) → ℕ → (T → ℕ) → S × T → ℕ
both_bits high bits low both = high both.0 * 2 ^ bits + low both.1

-- the number of one bit
abbrev pub bit_number : Bool → ℕ
bit_number bit = cond bit 1 0

-- its number is there
abbrev pub IsBits : {S : Type 0} → Relation ℕ → (S → ℕ) → (S → Type 0) → Relation S
IsBits Is number Fits w a v = Is w (number a) v × Fits a

-- Each fits its bits, and the number of all of them fits.
pub record BitsFit {S : Type 0} (NumberFits : ℕ → Type 0) (number : S → ℕ) (Fits : S → Type 0)
    (said : S) : Type 0 where
  pub each : Fits said
  pub whole : NumberFits (number said)

-- ---- numbers that don't fit

-- a number, or the greatest `usize` if it is greater
abbrev pub capped : ℕ → ℕ
capped n = min n 18446744073709551615

-- ---- lemmas: proved below this line, so what the words mean is read above it

pub one_number : (bits : ℕ) → IsOneNumber (λ n. n) (λ n. n < 2 ^ bits)
one_number bits = record { same = λ a b _ _ same. same }

pub has_number : (bits : ℕ) → HasBits bits (λ n. n) (λ n. n < 2 ^ bits)
has_number bits = record { few = λ a fits. fits }

same_bit : (a b : Bool) → bit_number a ≡ bit_number b → a ≡ b
same_bit true true same = refl
same_bit true false same = absurd (omega (arith, same))
same_bit false true same = absurd (omega (arith, same))
same_bit false false same = refl

few_bit : (a : Bool) → bit_number a < 2 ^ 1
few_bit true = omega arith
few_bit false = omega arith

pub one_bit : IsOneNumber bit_number (λ _. Unit {0})
one_bit = record { same = λ a b _ _ same. same_bit a b same }

pub has_bit : HasBits 1 bit_number (λ _. Unit {0})
has_bit = record { few = λ a _. few_bit a }

-- the upper bits of such a number
pub upper_of : {S T : Type 0} (high : S → ℕ) (low : T → ℕ) {Low : T → Type 0} (bits : ℕ) → HasBits bits low Low
    → (both : S × T) → Low both.1 → both_bits high bits low both / 2 ^ bits ≡ high both.0
upper_of high low bits has both fits = div-mul-add (high both.0) (2 ^ bits) (low both.1) (has.few both.1 fits)

-- and the lowest ones
pub lowest_of : {S T : Type 0} (high : S → ℕ) (low : T → ℕ) {Low : T → Type 0} (bits : ℕ) → HasBits bits low Low
    → (both : S × T) → Low both.1 → both_bits high bits low both % 2 ^ bits ≡ low both.1
lowest_of high low bits has both fits = mod-mul-add (high both.0) (2 ^ bits) (low both.1) (has.few both.1 fits)

module _ {S T : Type 0} {high : S → ℕ} {low : T → ℕ} {High : S → Type 0} {Low : T → Type 0} where
  pub one_both : (bits : ℕ) → HasBits bits low Low → IsOneNumber high High → IsOneNumber low Low
      → IsOneNumber (both_bits high bits low) (High also Low)
  one_both bits has first second = record {
    same = λ a b x y same.
        let upper = sym (upper_of high low bits has a x.second) ∙ ap (λ n. n / 2 ^ bits) same
        ∙ upper_of high low bits has b y.second in
        let lowest = sym (lowest_of high low bits has a x.second) ∙ ap (λ n. n % 2 ^ bits) same
        ∙ lowest_of high low bits has b y.second in
        same_pair (first.same a.0 b.0 x.first y.first upper) (second.same a.1 b.1 x.second y.second lowest);
  }

  pub has_both : (upper bits : ℕ) → HasBits upper high High → HasBits bits low Low
      → HasBits (upper + bits) (both_bits high bits low) (High also Low)
  has_both upper bits first second = record {
    few = λ a fits.
        let big = first.few a.0 fits.first in
        let small = second.few a.1 fits.second in
        let whole : (high a.0 + 1) * 2 ^ bits ≤ 2 ^ upper * 2 ^ bits =
        mul-le-mul_right (2 ^ bits) (omega (arith, big)) in
        let power = pow-add 2 upper bits in
        omega (arith, whole, power, small);
  }

module _ {S : Type 0} {Is : Relation ℕ} (number : S → ℕ) (Fits : S → Type 0) where
  pub one_bits : IsOne Is → IsOneNumber number Fits → IsOne (IsBits Is number Fits)
  one_bits one of_one = record {
    same = λ w a b u v is other.
        let same = one.same w (number a) (number b) u v is.0 other.0 in
        (of_one.same a b is.1 other.1 same.0, same.1);
  }

  -- a number that isn't of such bits is there
  pub other_bits : IsOne Is → (w u : Window) (n : ℕ) → Is w n u → ((a : S) → Fits a → number a ≢ n)
      → NoneAt (IsBits Is number Fits) w
  other_bits one w u n is none a v bits = none a bits.1 (one.same w (number a) n v u bits.0 is).0

  pub onward_bits : {least : ℕ} → IsOnward least Is → IsOnward least (IsBits Is number Fits)
  onward_bits onward = record {
    on = λ w a v ordered is. onward.on w (number a) v ordered is.0;
    less = λ w a v is. onward.less w (number a) v is.0;
  }

  module _ {octets : ℕ → List ℕ} {NumberFits : ℕ → Type 0} where
    pub delimited_bits : IsDelimited Is (λ n. n) octets NumberFits
        → IsDelimited (IsBits Is number Fits) (λ a. a) (λ said. octets (number said)) (BitsFit NumberFits number Fits)
    delimited_bits delimited = record {
      next = λ w said more fits is.
          let taken = delimited.next w (number said) more fits.whole is in
          let end = past (length (octets (number said))) w in
          record { it = said; tells = refl; is = (subst (λ n. Is w n end) taken.tells taken.is, fits.each) };
    }

    pub bits_read_back : IsDelimited Is (λ n. n) octets NumberFits
        → IsReadBack (IsBits Is number Fits) (λ a. a) (λ said. octets (number said)) (BitsFit NumberFits number Fits)
    bits_read_back delimited = back_of (delimited_bits delimited)

pub capped_both : (m n size : ℕ) → 0 < size → capped (capped (capped m * size) + capped n) ≡ capped (m * size + n)
capped_both m n size some = by (dec_le m 18446744073709551615) where
  by : Dec (m ≤ 18446744073709551615) → capped (capped (capped m * size) + capped n) ≡ capped (m * size + n)
  by (yes few) = let same : capped m ≡ m = omega (arith, few) in
      ap (λ k. capped (capped (k * size) + capped n)) same ∙ omega arith
  by (no many) =
      let big = lt_of_not-le many in
      let here : m * 1 ≤ m * size = mul-le-mul_left m (omega (arith, some)) in
      let there : capped m * 1 ≤ capped m * size = mul-le-mul_left (capped m) (omega (arith, some)) in
      omega (arith, big, here, there)

pub capped_high : (m n size : ℕ) → 0 < m → 18446744073709551616 ≤ size → 18446744073709551615 ≡ capped (m * size + n)
capped_high m n size some big =
    let more : 1 * size ≤ m * size = mul-le-mul_right size (omega (arith, some)) in
    omega (arith, more, big)
