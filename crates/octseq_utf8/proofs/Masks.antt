-- Four octets in a word, the first one lowest. A mask of the word is a mask of each octet, and the masked octet gives
-- its range; so what the code tests of the word puts each octet in the range that a row of the table requires. Only
-- this direction is needed: what no mask accepts is read octet by octet.
use Rattle.std.proofs.Common.{◌≡◌, ◌≢◌, ℕ, zero, suc, ◌+◌, ◌*◌, ◌/◌, ◌%◌, ◌^◌, ◌-◌, ◌<◌, ◌≤◌, List, [], ◌∷◌, ◌++◌, ap}
use Rattle.std.proofs.Common.{◌∙◌, arith, bit_and, bit_or, take, drop, length, get_or, Fits, w8}
use Rattle.std.specs.Int.{IsInRange, w32, to_le_bytes, from_le_bytes}
use lib.Lanes.{Each1}
use Rattle.std.proofs.lemmas.Bool.Decides.{nat_tests}
use Rattle.std.proofs.lemmas.List.{take-take}
use Rattle.std.proofs.lemmas.Simd.{chunk-fits, length-chunk}
use Rattle.std.proofs.lemmas.Nat.{and_block, and_mask, or_shifted, le_bytes_4}
use Rattle.std.proofs.lemmas.Nat.Bits.{and_high}
use Rattle.std.specs.Int.Bits.{and_zero_r}
use Rattle.octseq_utf8.specs.Encoding.{IsEncoding, row_C2_DF}
use Rattle.octseq_utf8.specs.Reading.{width_of, least_second, greatest_second}
use Rattle.octseq_utf8.proofs.Fits.{from_fits}

-- the octets of a word
abbrev AreOctets : ℕ → ℕ → ℕ → ℕ → ℕ → Type 0
AreOctets w a b c d = (a ≡ w % 256) × (b ≡ w / 256 % 256) × (c ≡ w / 65536 % 256) × (d ≡ w / 16777216 % 256)

-- a mask of a number is a mask of its lowest octet and a mask of the rest
and_2 : (w m : ℕ) → bit_and w m ≡ bit_and (w / 256) (m / 256) * 256 + bit_and (w % 256) (m % 256)
and_2 w m =
    let v : w ≡ w / 256 * 256 + w % 256 = omega arith in
    let n : m ≡ m / 256 * 256 + m % 256 = omega arith in
    ap (λ k. bit_and k m) v ∙ ap (λ k. bit_and (w / 256 * 256 + w % 256) k) n
    ∙ and_block 8 (w / 256) (m / 256) (w % 256) (m % 256) (omega arith) (omega arith)

-- a mask of a word is a mask of each octet
and_4 : (w a b c d : ℕ) → AreOctets w a b c d → (m : ℕ) → m < 2 ^ 32
    → bit_and w m ≡ bit_and a (m % 256) + bit_and b (m / 256 % 256) * 256 + bit_and c (m / 65536 % 256) * 65536
    + bit_and d (m / 16777216 % 256) * 16777216
and_4 w a b c d o m few =
    let w2 : w / 256 / 256 ≡ w / 65536 = omega arith in
    let m2 : m / 256 / 256 ≡ m / 65536 = omega arith in
    let w3 : w / 65536 / 256 ≡ w / 16777216 = omega arith in
    let m3 : m / 65536 / 256 ≡ m / 16777216 = omega arith in
    let none : m / 16777216 / 256 ≡ 0 = omega arith in
    grind (
      arith,
      and_2 w m,
      and_2 (w / 256) (m / 256),
      and_2 (w / 65536) (m / 65536),
      and_2 (w / 16777216) (m / 16777216),
      and_zero_r (w / 16777216 / 256),
    )

-- what the masks keep of an octet
abbrev Masks : ℕ → Type 0
Masks b = (bit_and b 0 ≡ 0) × (bit_and b 0xFF ≡ b) × (bit_and b 0xC0 ≡ b / 64 * 64) × (bit_and b 0xE0 ≡ b / 32 * 32)
    × (bit_and b 0xF0 ≡ b / 16 * 16) × (bit_and b 0xF8 ≡ b / 8 * 8) × (bit_and b 0x20 ≡ b / 32 % 2 * 32)
    × (bit_and b 0x1E ≡ b / 2 % 16 * 2) × (bit_and b 0x0F ≡ b % 16)

masks : (b : ℕ) → b < 256 → Masks b
masks b h = (
  and_zero_r b,
  and_mask b 8 ∙ omega arith,
  and_high b 2 6 ∙ omega arith,
  and_high b 3 5 ∙ omega arith,
  and_high b 4 4 ∙ omega arith,
  and_high b 5 3 ∙ omega arith,
  and_high b 1 5,
  and_high b 4 1,
  and_mask b 4,
)

masks_4 : (w a b c d : ℕ) → AreOctets w a b c d → Masks a × Masks b × Masks c × Masks d
masks_4 w a b c d o = (masks a (omega arith), masks b (omega arith), masks c (omega arith), masks d (omega arith))

-- two octets: C2..DF and 80..BF, as one range of the masked word
pub two : (w a b c d : ℕ) → AreOctets w a b c d → 0x80C2 ≤ bit_and w 0xC0FF → bit_and w 0xC0FF ≤ 0x80DF
    → IsEncoding (a ∷ b ∷ [])
two w a b c d o low high =
    let all = and_4 w a b c d o 0xC0FF (omega arith) in
    let each = masks_4 w a b c d o in
    row_C2_DF (omega arith) (omega arith)

-- of the first octets of two encodings, the bits between the lowest and the top three carry where they aren't 0
carries : (w a b c d : ℕ) → AreOctets w a b c d → bit_and (bit_and w 0x1E001E + 0x1E001E) 0x200020 ≡ 0x200020
    → (2 ≤ a % 32) × (2 ≤ c % 32)
carries w a b c d o h =
    let all = and_4 w a b c d o 0x1E001E (omega arith) in
    let p = a / 2 % 16 * 2 + 0x1E in
    let q = c / 2 % 16 * 2 + 0x1E in
    let each = masks_4 w a b c d o in
    let none = and_zero_r 0 in
    let sum : bit_and w 0x1E001E + 0x1E001E ≡ q * 65536 + p = omega arith in
    let carried = and_4 (bit_and w 0x1E001E + 0x1E001E) p 0 q 0 (omega arith, omega arith, omega arith, omega arith)
    0x200020 (omega arith) in
    let of_p = masks p (omega arith) in
    let of_q = masks q (omega arith) in
    omega arith

-- twice two octets: the masked word has the top bits of each, and the bits of the first ones carry
pub two_twos : (w a b c d : ℕ) → AreOctets w a b c d → bit_and w 0xC0E0C0E0 ≡ 0x80C080C0
    → bit_and (bit_and w 0x1E001E + 0x1E001E) 0x200020 ≡ 0x200020 → IsEncoding (a ∷ b ∷ []) × IsEncoding (c ∷ d ∷ [])
two_twos w a b c d o h k =
    let all = and_4 w a b c d o 0xC0E0C0E0 (omega arith) in
    let each = masks_4 w a b c d o in
    let wide = carries w a b c d o k in
    (row_C2_DF (omega arith) (omega arith), row_C2_DF (omega arith) (omega arith))

-- three octets: the masked word is as in the row, and the bits that matter for E0 and ED are neither all 0 nor those of
-- a surrogate
pub three : (w a b c d : ℕ) → AreOctets w a b c d → bit_and w 0xC0C0F0 ≡ 0x8080E0 → bit_and w 0x200F ≢ 0
    → bit_and w 0x200F ≢ 0x200D → IsEncoding (a ∷ b ∷ c ∷ [])
unfolding width_of least_second greatest_second
three w a b c d o h k l =
    let all = and_4 w a b c d o 0xC0C0F0 (omega arith) in
    let low = and_4 w a b c d o 0x200F (omega arith) in
    let each = masks_4 w a b c d o in
    let ranges : IsInRange 0xE0 0xEF a × IsInRange 0x80 0xBF b × IsInRange 0x80 0xBF c = omega arith in
    let e0 : a ≡ 0xE0 → 0xA0 ≤ b = λ q. omega arith in
    let ed : a ≡ 0xED → b ≤ 0x9F = λ q. omega arith in
    from_fits (a ∷ b ∷ c ∷ []) (grind (arith, nat_tests)) (grind (arith, nat_tests))

-- the low bits of the first octet followed by those of the second
high_is : (w : ℕ) → bit_or (bit_and w 7 * 256 % 4294967296) (bit_and (w / 256) 63) ≡ (w % 8) * 256 + w / 256 % 64
high_is w = rw (and_mask w 3, and_mask (w / 256) 6)
    (ap (λ k. bit_or k (w / 256 % 64)) (let e : w % 8 * 256 % 4294967296 ≡ w % 8 * 256 = omega arith in e)
    ∙ or_shifted (w % 8) 8 (w / 256 % 64) (omega arith))

-- four octets: the masked word is as in the row, and the bits of the first two octets are a number from 0x10 to 0x40F,
-- that is, of a character from U+10000 to U+10FFFF
pub four : (w a b c d : ℕ) → AreOctets w a b c d → bit_and w 0xC0C0C0F8 ≡ 0x808080F0
    → (bit_or (bit_and w 7 * 256 % 4294967296) (bit_and (w / 256) 63) + 4294967280) % 4294967296 < 1024
    → IsEncoding (a ∷ b ∷ c ∷ d ∷ [])
unfolding width_of least_second greatest_second
four w a b c d o h k =
    let all = and_4 w a b c d o 0xC0C0C0F8 (omega arith) in
    let each = masks_4 w a b c d o in
    let high = high_is w in
    let ranges : IsInRange 0xF0 0xF4 a × IsInRange 0x80 0xBF b × IsInRange 0x80 0xBF c × IsInRange 0x80 0xBF d =
    omega arith in
    let f0 : a ≡ 0xF0 → 0x90 ≤ b = λ q. omega arith in
    let f4 : a ≡ 0xF4 → b ≤ 0x8F = λ q. omega arith in
    from_fits (a ∷ b ∷ c ∷ d ∷ []) (grind (arith, nat_tests)) (grind (arith, nat_tests))

-- the octets of a loaded word
pub loaded : (x four : List ℕ) (i n : ℕ) → i + 4 ≤ length x → ((k : ℕ) → Fits w8 (get_or x k 0))
    → four ≡ take 4 (take (i + 4 - i) (drop i x)) → n ≡ from_le_bytes w32 four → to_le_bytes w32 n ≡ take 4 (drop i x)
loaded x four i n room fits e h =
    let same : four ≡ take 4 (drop i x) = e ∙ take-take 4 (i + 4 - i) (drop i x) (omega arith) in
    le_bytes_4 (take 4 (drop i x)) n (length-chunk i 4 x room)
    (below_of (take 4 (drop i x)) (chunk-fits w8 i 4 x fits)) (h ∙ ap (from_le_bytes w32) same)
  where
    below_of : (ys : List ℕ) → Each1 (Fits w8) ys → (k : ℕ) → get_or ys k 0 < 256
    below_of [] f k = omega arith
    below_of (y ∷ ys) f zero = let g = f.0.fits in omega arith
    below_of (y ∷ ys) f (suc k) = below_of ys f.1 k

-- a word shifted by one to three octets ends with that many zeros
pub shifted : (w m : ℕ) → w < 2 ^ 32 → 1 ≤ m → m ≤ 3
    → to_le_bytes w32 (w / 2 ^ (8 * m)) ≡ take 4 (drop m (to_le_bytes w32 w) ++ 0 ∷ 0 ∷ 0 ∷ [])
shifted w zero fits some few = absurd (omega arith)
shifted w (suc zero) fits some few = grind arith
shifted w (suc (suc zero)) fits some few = grind arith
shifted w (suc (suc (suc zero))) fits some few = grind arith
shifted w (suc (suc (suc (suc m)))) fits some few = absurd (omega arith)
