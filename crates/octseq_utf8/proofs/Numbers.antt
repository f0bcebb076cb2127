-- Each character has one encoding, and each encoding is a character's.
use Rattle.std.proofs.Common.{◌≡◌, ℕ, ◌+◌, ◌-◌, ◌*◌, ◌/◌, ◌%◌, ◌<◌, ◌≤◌, List, [], ◌∷◌, length, arith, ap, sym, ◌∙◌}
use Rattle.std.proofs.lemmas.Bool.Decides.{nat_tests}
use Rattle.octseq_utf8.specs.Encoding.{IsEncoding, row_00_7F, row_C2_DF, row_E0, row_E1_EC, row_ED, row_EE_EF}
use Rattle.octseq_utf8.specs.Encoding.{row_F0, row_F1_F3, row_F4, IsCharacter, number_of, encoding_of}
use Rattle.octseq_utf8.specs.Reading.{width_of, least_second, greatest_second}
use Rattle.octseq_utf8.proofs.Fits.{from_fits}

-- the encoding by the range of the character

-- a number below 80 is encoded in one octet, itself
pub encoding_of_1 : (c : ℕ) → c < 0x80 → encoding_of c ≡ c ∷ []
unfolding encoding_of
encoding_of_1 c high = grind (arith, nat_tests)

-- a number from 80 to 7FF is encoded in two octets, its low six bits in the second
pub encoding_of_2 : (c : ℕ) → 0x80 ≤ c → c < 0x800 → encoding_of c ≡ (192 + c / 64) ∷ (128 + c % 64) ∷ []
unfolding encoding_of
encoding_of_2 c low high = grind (arith, nat_tests)

-- a number from 800 to FFFF is encoded in three octets, its low bits in the last two, six in each
pub encoding_of_3 : (c : ℕ) → 0x800 ≤ c → c < 0x1_0000
    → encoding_of c ≡ (224 + c / 4096) ∷ (128 + c / 64 % 64) ∷ (128 + c % 64) ∷ []
unfolding encoding_of
encoding_of_3 c low high = grind (arith, nat_tests)

-- a number from 10000 on is encoded in four octets, its low bits in the last three, six in each
pub encoding_of_4 : (c : ℕ) → 0x1_0000 ≤ c
    → encoding_of c ≡ (240 + c / 262144) ∷ (128 + c / 4096 % 64) ∷ (128 + c / 64 % 64) ∷ (128 + c % 64) ∷ []
unfolding encoding_of
encoding_of_4 c low = grind (arith, nat_tests)

-- the encoding of a number has at least one octet
pub encoding_some : (c : ℕ) → 1 ≤ length (encoding_of c)
unfolding encoding_of
encoding_some c = grind (arith, nat_tests)

-- an encoding is the encoding of its number, which is a character
encodes_number : {e : List ℕ} → IsEncoding e → (encoding_of (number_of e) ≡ e) × IsCharacter (number_of e)
unfolding number_of encoding_of
encodes_number (row_00_7F {a} p) = grind (arith, nat_tests)
encodes_number (row_C2_DF {a} {b} p q) = grind (arith, nat_tests)
encodes_number (row_E0 {a} {b} {c} p q r) = grind (arith, nat_tests)
encodes_number (row_E1_EC {a} {b} {c} p q r) = grind (arith, nat_tests)
encodes_number (row_ED {a} {b} {c} p q r) = grind (arith, nat_tests)
encodes_number (row_EE_EF {a} {b} {c} p q r) = grind (arith, nat_tests)
encodes_number (row_F0 {a} {b} {c} {d} p q r s) = grind (arith, nat_tests)
encodes_number (row_F1_F3 {a} {b} {c} {d} p q r s) = grind (arith, nat_tests)
encodes_number (row_F4 {a} {b} {c} {d} p q r s) = grind (arith, nat_tests)

-- an encoding is the encoding of its number
pub encoding_of-number_of : {e : List ℕ} → IsEncoding e → encoding_of (number_of e) ≡ e
encoding_of-number_of p = (encodes_number p).0

-- the number of an encoding is a character
pub number_is_character : {e : List ℕ} → IsEncoding e → IsCharacter (number_of e)
number_is_character p = (encodes_number p).1

-- two encodings of the same number are equal
pub one_encoding : {e f : List ℕ} → IsEncoding e → IsEncoding f → number_of e ≡ number_of f → e ≡ f
one_encoding p q h = sym (encoding_of-number_of p) ∙ ap encoding_of h ∙ encoding_of-number_of q

-- the number from the octets

-- the number of one octet is that octet
pub number_of_1 : (a : ℕ) → number_of (a ∷ []) ≡ a
unfolding number_of
number_of_1 a = grind arith

-- the number of two octets is made of what the first has above C0 and the second above 80
pub number_of_2 : (a b n : ℕ) → (a - 192) * 64 + (b - 128) ≡ n → number_of (a ∷ b ∷ []) ≡ n
unfolding number_of
number_of_2 a b n h = h

-- the number of three octets is made of what the first has above E0 and each other above 80
pub number_of_3 : (a b c n : ℕ) → (a - 224) * 4096 + (b - 128) * 64 + (c - 128) ≡ n → number_of (a ∷ b ∷ c ∷ []) ≡ n
unfolding number_of
number_of_3 a b c n h = h

-- the number of four octets is made of what the first has above F0 and each other above 80
pub number_of_4 : (a b c d n : ℕ) → (a - 240) * 262144 + (b - 128) * 4096 + (c - 128) * 64 + (d - 128) ≡ n
    → number_of (a ∷ b ∷ c ∷ d ∷ []) ≡ n
unfolding number_of
number_of_4 a b c d n h = h

-- the encoding of a character is an encoding, and has its number
pub encoding_is_of : (c : ℕ) → IsCharacter c → IsEncoding (encoding_of c) × (number_of (encoding_of c) ≡ c)
unfolding encoding_of number_of width_of least_second greatest_second
encoding_is_of c h =
    (from_fits (encoding_of c) (grind (arith, nat_tests)) (grind (arith, nat_tests)), grind (arith, nat_tests))
