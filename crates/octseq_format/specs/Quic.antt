-- QUIC's integers of varying length.
use Rattle.std.specs.Prelude.{◌≡◌, ℕ, Bool, true, false, ◌+◌, ◌-◌, ◌*◌, ◌/◌, ◌%◌, ◌<◌, ◌≤◌, ◌^◌, List, length}
use Rattle.std.specs.Prelude.{slice_index, nat_lt, if◌then◌else◌, refl}
use Rattle.std.proofs.Common.{ap, sym, ◌∙◌, arith}
use Rattle.std.proofs.Math.Nat.{one-le-pow}
use Rattle.std.proofs.lemmas.Bool.{ltb-true, lt-ltb, le-ltb}
use Rattle.octseq.specs.Integer.{be, octets_be}
use Rattle.octseq.proofs.Written.{length_be, value_be}
use Rattle.octseq_format.specs.Choice.{by_test, first_of_two, second_of_two}
use Rattle.octseq_format.specs.Varying.{IsAsLong, AreEncodingsApart, AreRead, apart_long}

-- how many octets the first one says there are: 2 to the power of its first two bits
unfoldable pub quic_long : ℕ → ℕ
quic_long first = 2 ^ (first / 64)

-- the number that octets say: the bits after the first two, big-endian
unfoldable pub quic_number : List ℕ → ℕ
quic_number octets = be octets % 2 ^ (8 * length octets - 2)

-- a number in 2 ^ power octets, after two bits that say the power
unfoldable pub quic_in : ℕ → ℕ → List ℕ
quic_in power n = octets_be (2 ^ power) (power * 2 ^ (8 * 2 ^ power - 2) + n)

-- the fewest octets that say a number
unfoldable pub quic_octets : ℕ → List ℕ
quic_octets n =
    if nat_lt n (2 ^ 6) then quic_in 0 n else (if nat_lt n (2 ^ 14) then quic_in 1 n else
    (if nat_lt n (2 ^ 30) then quic_in 2 n else quic_in 3 n))

-- a number of 62 bits
abbrev pub QuicFits : ℕ → Type 0
QuicFits n = n < 2 ^ 62

abbrev QuicEncodes : ℕ → List ℕ → Type 0
QuicEncodes n xs = IsAsLong quic_long xs × (quic_number xs ≡ n)

-- ---- lemmas: proved below this line, so what the words mean is read above it

-- ---- laws
pub some_quic : (first : ℕ) → 0 < quic_long first
unfolding quic_long
some_quic first = one-le-pow (first / 64) 2 (omega arith)

pub apart_quic : AreEncodingsApart (IsAsLong quic_long)
apart_quic = apart_long quic_long some_quic

-- k octets of a number with the two bits that say k
quic_encodes_in : (power k m n : ℕ) → slice_index (octets_be k m) 0 / 64 ≡ power → k ≡ 2 ^ power → m < 256 ^ k
    → m % 2 ^ (8 * k - 2) ≡ n → QuicEncodes n (octets_be k m)
unfolding quic_long quic_number
quic_encodes_in power k m n first long few value =
    let many = length_be k m in (
      many ∙ long ∙ ap (λ p. 2 ^ p) (sym first),
      ap (λ j. be (octets_be k m) % 2 ^ (8 * j - 2)) many ∙ ap (λ x. x % 2 ^ (8 * k - 2)) (value_be k m few) ∙ value,
    )

quic_encodes_0 : (n : ℕ) → n < 2 ^ 6 → QuicEncodes n (quic_in 0 n)
unfolding quic_in octets_be
quic_encodes_0 n few = quic_encodes_in 0 1 (0 * 2 ^ 6 + n) n (omega (arith, few)) refl (omega (arith, few))
    (omega (arith, few))

quic_encodes_1 : (n : ℕ) → n < 2 ^ 14 → QuicEncodes n (quic_in 1 n)
unfolding quic_in octets_be
quic_encodes_1 n few = quic_encodes_in 1 2 (1 * 2 ^ 14 + n) n (omega (arith, few)) refl (omega (arith, few))
    (omega (arith, few))

quic_encodes_2 : (n : ℕ) → n < 2 ^ 30 → QuicEncodes n (quic_in 2 n)
unfolding quic_in octets_be
quic_encodes_2 n few = quic_encodes_in 2 4 (2 * 2 ^ 30 + n) n (omega (arith, few)) refl (omega (arith, few))
    (omega (arith, few))

quic_encodes_3 : (n : ℕ) → n < 2 ^ 62 → QuicEncodes n (quic_in 3 n)
unfolding quic_in octets_be
quic_encodes_3 n few = quic_encodes_in 3 8 (3 * 2 ^ 62 + n) n (omega (arith, few)) refl (omega (arith, few))
    (omega (arith, few))

quic_encodes : (n : ℕ) → QuicFits n → QuicEncodes n (quic_octets n)
unfolding quic_octets
quic_encodes n fits =
    by_test (QuicEncodes n) (nat_lt n (2 ^ 6)) _ _ (λ few. quic_encodes_0 n (ltb-true n (2 ^ 6) few))
    (λ _. by_test (QuicEncodes n) (nat_lt n (2 ^ 14)) _ _ (λ few. quic_encodes_1 n (ltb-true n (2 ^ 14) few))
    (λ _. by_test (QuicEncodes n) (nat_lt n (2 ^ 30)) _ _ (λ few. quic_encodes_2 n (ltb-true n (2 ^ 30) few))
    (λ _. quic_encodes_3 n fits)))

pub read_quic : AreRead (IsAsLong quic_long) quic_number quic_octets QuicFits
read_quic = record { whole = λ n fits. (quic_encodes n fits).0; back = λ n fits. (quic_encodes n fits).1 }

pub small_quic : (n : ℕ) → QuicFits n → n < 2 ^ 64
small_quic n fits = omega (arith, fits)

-- ---- the octets of a number, by its size
pub quic_octets_1 : (n : ℕ) → n < 2 ^ 6 → quic_octets n ≡ octets_be 1 (0 + n)
unfolding quic_octets quic_in
quic_octets_1 n few = first_of_two _ _ (lt-ltb n (2 ^ 6) few)

pub quic_octets_2 : (n : ℕ) → 2 ^ 6 ≤ n → n < 2 ^ 14 → quic_octets n ≡ octets_be 2 (2 ^ 14 + n)
unfolding quic_octets quic_in
quic_octets_2 n large few = second_of_two _ _ (le-ltb n (2 ^ 6) large) ∙ first_of_two _ _ (lt-ltb n (2 ^ 14) few)

pub quic_octets_4 : (n : ℕ) → 2 ^ 14 ≤ n → n < 2 ^ 30 → quic_octets n ≡ octets_be 4 (2 ^ 31 + n)
unfolding quic_octets quic_in
quic_octets_4 n large few =
    second_of_two _ _ (le-ltb n (2 ^ 6) (omega (arith, large))) ∙ second_of_two _ _ (le-ltb n (2 ^ 14) large)
    ∙ first_of_two _ _ (lt-ltb n (2 ^ 30) few)

pub quic_octets_8 : (n : ℕ) → 2 ^ 30 ≤ n → quic_octets n ≡ octets_be 8 (3 * 2 ^ 62 + n)
unfolding quic_octets quic_in
quic_octets_8 n large =
    second_of_two _ _ (le-ltb n (2 ^ 6) (omega (arith, large)))
    ∙ second_of_two _ _ (le-ltb n (2 ^ 14) (omega (arith, large))) ∙ second_of_two _ _ (le-ltb n (2 ^ 30) large)
