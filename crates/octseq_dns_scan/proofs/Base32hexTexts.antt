-- A text in base 32 is the text of at most one list of octets.
use Rattle.std.proofs.Common.{◌≡◌, ℕ, ◌+◌, ◌*◌, ◌/◌, ◌%◌, ◌<◌, ◌≤◌, List, [], ◌∷◌, ◌++◌, length, map, get_or}
use Rattle.std.proofs.Common.{take, drop, refl, ap, arith}
use Rattle.std.proofs.lemmas.Bool.Decides.{nat_tests}
use Rattle.std.specs.Char.{digit_char}
use Rattle.octseq.proofs.WrittenBack.{AreOctets}
use Rattle.octseq_dns_scan.specs.Base32hex.{quintets, base32hex_text}

pub digit_32 : (u v : ℕ) → u < 32 → v < 32 → digit_char u ≡ digit_char v → u ≡ v
digit_32 u v small_u small_v is = grind (arith, nat_tests)

-- the digit at a place of two texts
abbrev at : ℕ → List ℕ → ℕ
at place text = get_or text place 0

first_32 : (a x b y : ℕ) → a < 256 → x < 256 → b < 256 → y < 256 → digit_char (a / 8) ≡ digit_char (x / 8)
    → digit_char (a % 8 * 4 + b / 64) ≡ digit_char (x % 8 * 4 + y / 64) → (a ≡ x) × (b / 64 ≡ y / 64)
first_32 a x b y small_a small_x small_b small_y one two =
    let high = digit_32 (a / 8) (x / 8) (omega arith) (omega arith) one in
    let low = digit_32 (a % 8 * 4 + b / 64) (x % 8 * 4 + y / 64) (omega arith) (omega arith) two in
    (omega arith, omega arith)

second_32 : (b y c z : ℕ) → b < 256 → y < 256 → c < 256 → z < 256 → b / 64 ≡ y / 64
    → digit_char (b / 2 % 32) ≡ digit_char (y / 2 % 32)
    → digit_char (b % 2 * 16 + c / 16) ≡ digit_char (y % 2 * 16 + z / 16) → (b ≡ y) × (c / 16 ≡ z / 16)
second_32 b y c z small_b small_y small_c small_z high three four =
    let middle = digit_32 (b / 2 % 32) (y / 2 % 32) (omega arith) (omega arith) three in
    let low = digit_32 (b % 2 * 16 + c / 16) (y % 2 * 16 + z / 16) (omega arith) (omega arith) four in
    (omega arith, omega arith)

third_32 : (c z d v : ℕ) → c < 256 → z < 256 → d < 256 → v < 256 → c / 16 ≡ z / 16
    → digit_char (c % 16 * 2 + d / 128) ≡ digit_char (z % 16 * 2 + v / 128) → (c ≡ z) × (d / 128 ≡ v / 128)
third_32 c z d v small_c small_z small_d small_v high five =
    let low = digit_32 (c % 16 * 2 + d / 128) (z % 16 * 2 + v / 128) (omega arith) (omega arith) five in
    (omega arith, omega arith)

fourth_32 : (d v e w : ℕ) → d < 256 → v < 256 → e < 256 → w < 256 → d / 128 ≡ v / 128
    → digit_char (d / 4 % 32) ≡ digit_char (v / 4 % 32)
    → digit_char (d % 4 * 8 + e / 32) ≡ digit_char (v % 4 * 8 + w / 32) → (d ≡ v) × (e / 32 ≡ w / 32)
fourth_32 d v e w small_d small_v small_e small_w high six seven =
    let middle = digit_32 (d / 4 % 32) (v / 4 % 32) (omega arith) (omega arith) six in
    let low = digit_32 (d % 4 * 8 + e / 32) (v % 4 * 8 + w / 32) (omega arith) (omega arith) seven in
    (omega arith, omega arith)

fifth_32 : (e w : ℕ) → e < 256 → w < 256 → e / 32 ≡ w / 32 → digit_char (e % 32) ≡ digit_char (w % 32) → e ≡ w
fifth_32 e w small_e small_w high eight =
    let low = digit_32 (e % 32) (w % 32) (omega arith) (omega arith) eight in omega arith

pub base32hex_same : (octets other : List ℕ) → AreOctets octets → AreOctets other
    → base32hex_text octets ≡ base32hex_text other → octets ≡ other
base32hex_same [] [] are also is = refl
base32hex_same (a ∷ []) (x ∷ []) are also is =
    let one = first_32 a x 0 0 are.0 also.0 (omega arith) (omega arith) (ap (at 0) is) (ap (at 1) is) in
    ap (λ n. n ∷ []) one.0
base32hex_same (a ∷ b ∷ []) (x ∷ y ∷ []) are also is =
    let one = first_32 a x b y are.0 also.0 are.1.0 also.1.0 (ap (at 0) is) (ap (at 1) is) in
    let two = second_32 b y 0 0 are.1.0 also.1.0 (omega arith) (omega arith) one.1 (ap (at 2) is) (ap (at 3) is) in
    cc (one.0, two.0)
base32hex_same (a ∷ b ∷ c ∷ []) (x ∷ y ∷ z ∷ []) are also is =
    let one = first_32 a x b y are.0 also.0 are.1.0 also.1.0 (ap (at 0) is) (ap (at 1) is) in
    let two = second_32 b y c z are.1.0 also.1.0 are.1.1.0 also.1.1.0 one.1 (ap (at 2) is) (ap (at 3) is) in
    let three = third_32 c z 0 0 are.1.1.0 also.1.1.0 (omega arith) (omega arith) two.1 (ap (at 4) is) in
    cc (one.0, two.0, three.0)
base32hex_same (a ∷ b ∷ c ∷ d ∷ []) (x ∷ y ∷ z ∷ v ∷ []) are also is =
    let one = first_32 a x b y are.0 also.0 are.1.0 also.1.0 (ap (at 0) is) (ap (at 1) is) in
    let two = second_32 b y c z are.1.0 also.1.0 are.1.1.0 also.1.1.0 one.1 (ap (at 2) is) (ap (at 3) is) in
    let three = third_32 c z d v are.1.1.0 also.1.1.0 are.1.1.1.0 also.1.1.1.0 two.1 (ap (at 4) is) in
    let four = fourth_32 d v 0 0 are.1.1.1.0 also.1.1.1.0 (omega arith) (omega arith) three.1 (ap (at 5) is)
    (ap (at 6) is) in
    cc (one.0, two.0, three.0, four.0)
base32hex_same (a ∷ b ∷ c ∷ d ∷ e ∷ more) (x ∷ y ∷ z ∷ v ∷ w ∷ rest) are also is =
    let one = first_32 a x b y are.0 also.0 are.1.0 also.1.0 (ap (at 0) is) (ap (at 1) is) in
    let two = second_32 b y c z are.1.0 also.1.0 are.1.1.0 also.1.1.0 one.1 (ap (at 2) is) (ap (at 3) is) in
    let three = third_32 c z d v are.1.1.0 also.1.1.0 are.1.1.1.0 also.1.1.1.0 two.1 (ap (at 4) is) in
    let four = fourth_32 d v e w are.1.1.1.0 also.1.1.1.0 are.1.1.1.1.0 also.1.1.1.1.0 three.1 (ap (at 5) is)
    (ap (at 6) is) in
    let five = fifth_32 e w are.1.1.1.1.0 also.1.1.1.1.0 four.1 (ap (at 7) is) in
    let six = base32hex_same more rest are.1.1.1.1.1 also.1.1.1.1.1 (ap (drop 8) is) in
    cc (one.0, two.0, three.0, four.0, five, six)
base32hex_same [] (x ∷ []) are also is = absurd (cc)
base32hex_same [] (x ∷ y ∷ []) are also is = absurd (cc)
base32hex_same [] (x ∷ y ∷ z ∷ []) are also is = absurd (cc)
base32hex_same [] (x ∷ y ∷ z ∷ v ∷ []) are also is = absurd (cc)
base32hex_same [] (x ∷ y ∷ z ∷ v ∷ w ∷ rest) are also is = absurd (cc)
base32hex_same (a ∷ []) [] are also is = absurd (cc)
base32hex_same (a ∷ []) (x ∷ y ∷ []) are also is = absurd (cc)
base32hex_same (a ∷ []) (x ∷ y ∷ z ∷ []) are also is = absurd (cc)
base32hex_same (a ∷ []) (x ∷ y ∷ z ∷ v ∷ []) are also is = absurd (cc)
base32hex_same (a ∷ []) (x ∷ y ∷ z ∷ v ∷ w ∷ rest) are also is = absurd (cc)
base32hex_same (a ∷ b ∷ []) [] are also is = absurd (cc)
base32hex_same (a ∷ b ∷ []) (x ∷ []) are also is = absurd (cc)
base32hex_same (a ∷ b ∷ []) (x ∷ y ∷ z ∷ []) are also is = absurd (cc)
base32hex_same (a ∷ b ∷ []) (x ∷ y ∷ z ∷ v ∷ []) are also is = absurd (cc)
base32hex_same (a ∷ b ∷ []) (x ∷ y ∷ z ∷ v ∷ w ∷ rest) are also is = absurd (cc)
base32hex_same (a ∷ b ∷ c ∷ []) [] are also is = absurd (cc)
base32hex_same (a ∷ b ∷ c ∷ []) (x ∷ []) are also is = absurd (cc)
base32hex_same (a ∷ b ∷ c ∷ []) (x ∷ y ∷ []) are also is = absurd (cc)
base32hex_same (a ∷ b ∷ c ∷ []) (x ∷ y ∷ z ∷ v ∷ []) are also is = absurd (cc)
base32hex_same (a ∷ b ∷ c ∷ []) (x ∷ y ∷ z ∷ v ∷ w ∷ rest) are also is = absurd (cc)
base32hex_same (a ∷ b ∷ c ∷ d ∷ []) [] are also is = absurd (cc)
base32hex_same (a ∷ b ∷ c ∷ d ∷ []) (x ∷ []) are also is = absurd (cc)
base32hex_same (a ∷ b ∷ c ∷ d ∷ []) (x ∷ y ∷ []) are also is = absurd (cc)
base32hex_same (a ∷ b ∷ c ∷ d ∷ []) (x ∷ y ∷ z ∷ []) are also is = absurd (cc)
base32hex_same (a ∷ b ∷ c ∷ d ∷ []) (x ∷ y ∷ z ∷ v ∷ w ∷ rest) are also is = absurd (cc)
base32hex_same (a ∷ b ∷ c ∷ d ∷ e ∷ more) [] are also is = absurd (cc)
base32hex_same (a ∷ b ∷ c ∷ d ∷ e ∷ more) (x ∷ []) are also is = absurd (cc)
base32hex_same (a ∷ b ∷ c ∷ d ∷ e ∷ more) (x ∷ y ∷ []) are also is = absurd (cc)
base32hex_same (a ∷ b ∷ c ∷ d ∷ e ∷ more) (x ∷ y ∷ z ∷ []) are also is = absurd (cc)
base32hex_same (a ∷ b ∷ c ∷ d ∷ e ∷ more) (x ∷ y ∷ z ∷ v ∷ []) are also is = absurd (cc)

-- a group of five octets, and what follows it
pub base32hex_group : (octets : List ℕ) → 5 ≤ length octets
    → base32hex_text octets ≡ map digit_char (quintets (take 5 octets)) ++ base32hex_text (drop 5 octets)
base32hex_group [] is = absurd (omega (arith, is))
base32hex_group (a ∷ []) is = absurd (omega (arith, is))
base32hex_group (a ∷ b ∷ []) is = absurd (omega (arith, is))
base32hex_group (a ∷ b ∷ c ∷ []) is = absurd (omega (arith, is))
base32hex_group (a ∷ b ∷ c ∷ d ∷ []) is = absurd (omega (arith, is))
base32hex_group (a ∷ b ∷ c ∷ d ∷ e ∷ more) is = refl
