-- Lengths in the definite form of DER (X.690, 10.1).
use Rattle.std.specs.Prelude.{◌≡◌, ℕ, zero, suc, Bool, true, false, ◌+◌, ◌-◌, ◌<◌, ◌≤◌, ◌^◌, List, [], ◌∷◌, ◌++◌, drop}
use Rattle.std.specs.Prelude.{length, replicate, slice_index, nat_lt, if◌then◌else◌, refl}
use Rattle.std.proofs.Common.{ap, sym, ◌∙◌, subst, arith, length-append}
use Rattle.std.proofs.Math.Decide.{dec_le}
use Rattle.std.proofs.Math.Nat.{lt_of_not-le, pow-le-pow_right}
use Rattle.std.proofs.lemmas.Bool.{ltb-true, ltb-false, lt-ltb, le-ltb}
use Rattle.std.proofs.lemmas.List.{length-replicate}
use Rattle.std.specs.Coded.{le_prop}
use Rattle.octseq.specs.Integer.{be, octets_be}
use Rattle.octseq.proofs.Written.{be_nil, be_cons, length_be, value_be}
use Rattle.octseq.proofs.WrittenBack.{small_be, as_be}
use Rattle.octseq_format.specs.Canonical.{AreOctets}
use Rattle.octseq_format.specs.Choice.{by_test, first_of_two, second_of_two}
use Rattle.octseq_format.specs.Varying.{IsAsLong, AreEncodingsApart, AreRead, AreWritten, apart_long}

-- how many octets the first one says there are: it is alone below 128, and otherwise 128 and how many follow
unfoldable pub der_long : ℕ → ℕ
der_long first = if nat_lt first 128 then 1 else first - 127

-- the length that octets say: a first one below 128 is the length, otherwise those after it are, big-endian
unfoldable pub der_length : List ℕ → ℕ
der_length octets = if nat_lt (slice_index octets 0) 128 then slice_index octets 0 else be (drop 1 octets)

-- octets without the zeros at the front
unfoldable pub significant : List ℕ → List ℕ
significant [] = []
significant (x ∷ more) = if nat_lt 0 x then x ∷ more else significant more

-- the fewest octets that say a length of 64 bits
unfoldable pub der_octets : ℕ → List ℕ
der_octets n =
    if nat_lt n 128 then n ∷ [] else
    ((128 + length (significant (octets_be 8 n))) ∷ significant (octets_be 8 n))

-- A whole encoding: at most 8 octets follow the first one, the first of them isn't zero, and one that is below 128 is
-- not among them.
pub record IsDer (octets : List ℕ) : Type 0 where
  pub long : IsAsLong der_long octets
  pub few : length octets ≤ 9
  pub head : 128 ≤ slice_index octets 0 → 0 < slice_index octets 1
  pub large : 128 ≤ slice_index octets 0 → 128 ≤ der_length octets

-- a length of 64 bits
abbrev pub DerFits : ℕ → Type 0
DerFits n = n < 2 ^ 64

abbrev DerEncodes : ℕ → List ℕ → Type 0
DerEncodes n xs = IsDer xs × (der_length xs ≡ n)

-- ---- lemmas: proved below this line, so what the words mean is read above it

-- ---- laws

-- a first octet below 128 is alone
pub der_alone : (first : ℕ) → first < 128 → der_long first ≡ 1
unfolding der_long
der_alone first few = first_of_two _ _ (lt-ltb first 128 few)

-- any other says how many follow
pub der_following : (first : ℕ) → 128 ≤ first → der_long first ≡ first - 127
unfolding der_long
der_following first large = second_of_two _ _ (le-ltb first 128 large)

-- a first octet below 128 is the length
pub der_itself : (xs : List ℕ) → slice_index xs 0 < 128 → der_length xs ≡ slice_index xs 0
unfolding der_length
der_itself xs few = first_of_two _ _ (lt-ltb (slice_index xs 0) 128 few)

-- any other is followed by the length
pub der_followed : (xs : List ℕ) → 128 ≤ slice_index xs 0 → der_length xs ≡ be (drop 1 xs)
unfolding der_length
der_followed xs large = second_of_two _ _ (le-ltb (slice_index xs 0) 128 large)

pub some_der : (first : ℕ) → 0 < der_long first
unfolding der_long
some_der first =
    by_test (λ n. 0 < n) (nat_lt first 128) 1 _ (λ _. omega arith)
    (λ large. let enough : 128 ≤ first = ltb-false first 128 large in omega (arith, enough))

pub apart_der : AreEncodingsApart IsDer
apart_der = record {
  some = λ xs whole. (apart_long der_long some_der).some xs whole.long;
  same = λ xs j k few less one other. (apart_long der_long some_der).same xs j k few less one.long other.long;
}

pub some_of_value : (xs : List ℕ) → 0 < be xs → 0 < length xs
some_of_value [] some = absurd (omega (arith, some, be_nil))
some_of_value (x ∷ xs) some = omega arith

-- ---- without the zeros at the front
be_significant : (xs : List ℕ) → be (significant xs) ≡ be xs
unfolding significant
be_significant [] = refl
be_significant (x ∷ more) =
    by_test (λ ys. be ys ≡ be (x ∷ more)) (nat_lt 0 x) _ _ (λ _. refl)
    (λ none.
    let zero_is : x ≤ 0 = ltb-false 0 x none in
    let rest = be_significant more in
    let cons = be_cons x more in
    let same : x ≡ 0 = omega (arith, zero_is) in
    let cons_zero = ap (λ x. be (x ∷ more)) same ∙ be_cons 0 more in
    omega (arith, rest, cons_zero))

length_significant : (xs : List ℕ) → length (significant xs) ≤ length xs
unfolding significant
length_significant [] = omega arith
length_significant (x ∷ more) =
    by_test (λ ys. length ys ≤ suc (length more)) (nat_lt 0 x) (x ∷ more) (significant more) (λ _. omega arith)
    (λ _. let rest = length_significant more in omega (arith, rest))

head_significant : (xs : List ℕ) → 0 < be xs → 0 < slice_index (significant xs) 0
unfolding significant
head_significant [] some = absurd (omega (arith, some, be_nil))
head_significant (x ∷ more) some =
    by_test (λ ys. 0 < slice_index ys 0) (nat_lt 0 x) _ _ (λ here. ltb-true 0 x here)
    (λ none.
    let zero_is : x ≤ 0 = ltb-false 0 x none in
    let same : x ≡ 0 = omega (arith, zero_is) in
    let cons_zero = ap (λ x. be (x ∷ more)) same ∙ be_cons 0 more in
    head_significant more (omega (arith, some, cons_zero)))

after_zeros : (m : ℕ) (ys : List ℕ) → 0 < slice_index ys 0 → significant (replicate m 0 ++ ys) ≡ ys
unfolding significant
after_zeros zero [] some = absurd (omega (arith, some))
after_zeros zero (y ∷ ys) some = first_of_two _ _ (lt-ltb 0 y some)
after_zeros (suc m) ys some = after_zeros m ys some

be_after_zeros : (m : ℕ) (ys : List ℕ) → be (replicate m 0 ++ ys) ≡ be ys
be_after_zeros zero ys = refl
be_after_zeros (suc m) ys = let more = be_after_zeros m ys in be_cons 0 (replicate m 0 ++ ys) ∙ omega (arith, more)

each_after_zeros : (m : ℕ) (ys : List ℕ) → AreOctets ys → AreOctets (replicate m 0 ++ ys)
each_after_zeros zero ys each = each
each_after_zeros (suc m) ys each = (omega arith, each_after_zeros m ys each)

-- octets that begin with another than zero are what is significant of 8 octets of their value
pub back_significant : (ys : List ℕ) → AreOctets ys → length ys ≤ 8 → 0 < slice_index ys 0
    → significant (octets_be 8 (be ys)) ≡ ys
back_significant ys each few some =
    let m = 8 - length ys in
    let all = replicate m 0 ++ ys in
    let zeros = length-replicate {A = ℕ} m 0 in
    let many : length all ≡ 8 = length-append (replicate m 0) ys ∙ omega (arith, zeros, few) in
    ap (λ n. significant (octets_be 8 n)) (sym (be_after_zeros m ys))
    ∙ ap significant (as_be 8 all many (each_after_zeros m ys each)) ∙ after_zeros m ys some

-- ---- read and written
pub der_octets_short : (n : ℕ) → n < 128 → der_octets n ≡ n ∷ []
unfolding der_octets
der_octets_short n few = first_of_two _ _ (lt-ltb n 128 few)

pub der_octets_long : (n : ℕ) → 128 ≤ n
    → der_octets n ≡ (128 + length (significant (octets_be 8 n))) ∷ significant (octets_be 8 n)
unfolding der_octets
der_octets_long n large = second_of_two _ _ (le-ltb n 128 large)

short_form : (n : ℕ) → n < 128 → DerEncodes n (n ∷ [])
short_form n few = (
  record {
    long = sym (der_alone n few);
    few = omega arith;
    head = λ large. absurd (omega (arith, few, large));
    large = λ large. absurd (omega (arith, few, large));
  },
  der_itself (n ∷ []) few,
)

long_form : (n : ℕ) (ys : List ℕ) → 128 ≤ n → be ys ≡ n → length ys ≤ 8 → 0 < slice_index ys 0
    → DerEncodes n ((128 + length ys) ∷ ys)
long_form n ys large value few head =
    let says : der_length ((128 + length ys) ∷ ys) ≡ n = der_followed ((128 + length ys) ∷ ys) (omega arith) ∙ value in
    let long = der_following (128 + length ys) (omega arith) in (
      record {
        long = omega (arith, long);
        few = omega (arith, few);
        head = λ _. head;
        large = λ _. omega (arith, says, large);
      },
      says,
    )

der_encodes : (n : ℕ) → DerFits n → DerEncodes n (der_octets n)
unfolding der_octets
der_encodes n fits =
    by_test (DerEncodes n) (nat_lt n 128) _ _ (λ few. short_form n (ltb-true n 128 few))
    (λ more.
    let large : 128 ≤ n = ltb-false n 128 more in
    let value : be (octets_be 8 n) ≡ n = value_be 8 n (omega (arith, fits)) in
    let all = length_significant (octets_be 8 n) in
    let eight = length_be 8 n in
    long_form n (significant (octets_be 8 n)) large (be_significant (octets_be 8 n) ∙ value)
    (omega (arith, all, eight)) (head_significant (octets_be 8 n) (omega (arith, value, large))))

pub read_der : AreRead IsDer der_length der_octets DerFits
read_der = record { whole = λ n fits. (der_encodes n fits).0; back = λ n fits. (der_encodes n fits).1 }

written : (xs : List ℕ) → AreOctets xs → IsDer xs → DerFits (der_length xs) × (der_octets (der_length xs) ≡ xs)
written [] each whole = let some = some_der 0 in let long = whole.long in absurd (omega (arith, some, long))
written (x ∷ ys) each whole = by (dec_le 128 x) where
  none : (ys : List ℕ) → length ys ≡ 0 → ys ≡ []
  none [] many = refl
  none (y ∷ ys) many = absurd (omega (arith, many))

  by : Dec (128 ≤ x) → DerFits (der_length (x ∷ ys)) × (der_octets (der_length (x ∷ ys)) ≡ x ∷ ys)
  by (yes large) =
      let value = der_followed (x ∷ ys) large in
      let follow = der_following x large in
      let long = whole.long in
      let few = whole.few in
      let enough = whole.large large in
      let many : 128 + length ys ≡ x = omega (arith, long, follow, large) in
      let small = small_be ys each.1 in
      let within : length ys ≤ 8 = omega (arith, few) in
      let most : 256 ^ length ys ≤ 256 ^ 8 = pow-le-pow_right (omega arith) within in
      let back = back_significant ys each.1 within (whole.head large) in (
        omega (arith, value, small, most),
        ap der_octets value ∙ der_octets_long (be ys) (omega (arith, value, enough))
            ∙ ap (λ ys. (128 + length ys) ∷ ys) back ∙ ap (λ x. x ∷ ys) many,
      )
  by (no small) =
      let few : x < 128 = lt_of_not-le small in
      let value = der_itself (x ∷ ys) few in
      let long = whole.long ∙ der_alone x few in
      let empty = none ys (omega (arith, long)) in
      (omega (arith, value, few), ap der_octets value ∙ der_octets_short x few ∙ ap (λ ys. x ∷ ys) (sym empty))

pub written_der : AreWritten IsDer der_length der_octets DerFits
written_der = record { once = λ n. le_prop {n = suc n} {m = 2 ^ 64}; written = written }
