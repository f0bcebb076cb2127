-- A text in base 64 is the text of at most one list of octets.
use Rattle.std.proofs.Common.{◌≡◌, ◌≢◌, ℕ, ◌+◌, ◌*◌, ◌/◌, ◌%◌, ◌<◌, ◌≤◌, List, [], ◌∷◌, ◌++◌, length, map, get_or}
use Rattle.std.proofs.Common.{take, drop, refl, sym, ap, arith}
use Rattle.std.proofs.lemmas.Bool.Decides.{nat_tests}
use Rattle.octseq.proofs.WrittenBack.{AreOctets}
use Rattle.octseq_dns_scan.specs.Base64.{sextets, base64_digit, base64_text}

pub digit_64 : (u v : ℕ) → u < 64 → v < 64 → base64_digit u ≡ base64_digit v → u ≡ v
digit_64 u v small_u small_v is = grind (arith, nat_tests)

pub no_mark : (u : ℕ) → u < 64 → base64_digit u ≢ 61
no_mark u small is = grind (arith, nat_tests)

-- the digit at a place of two texts
abbrev at : ℕ → List ℕ → ℕ
at place text = get_or text place 0

first_64 : (a x b y : ℕ) → a < 256 → x < 256 → b < 256 → y < 256
    → base64_digit (a / 4) ≡ base64_digit (x / 4)
    → base64_digit (a % 4 * 16 + b / 16) ≡ base64_digit (x % 4 * 16 + y / 16) → (a ≡ x) × (b / 16 ≡ y / 16)
first_64 a x b y small_a small_x small_b small_y one two =
    let high = digit_64 (a / 4) (x / 4) (omega arith) (omega arith) one in
    let low = digit_64 (a % 4 * 16 + b / 16) (x % 4 * 16 + y / 16) (omega arith) (omega arith) two in
    (omega arith, omega arith)

second_64 : (b y c z : ℕ) → b < 256 → y < 256 → c < 256 → z < 256 → b / 16 ≡ y / 16
    → base64_digit (b % 16 * 4 + c / 64) ≡ base64_digit (y % 16 * 4 + z / 64) → (b ≡ y) × (c / 64 ≡ z / 64)
second_64 b y c z small_b small_y small_c small_z high three =
    let low = digit_64 (b % 16 * 4 + c / 64) (y % 16 * 4 + z / 64) (omega arith) (omega arith) three in
    (omega arith, omega arith)

third_64 : (c z : ℕ) → c < 256 → z < 256 → c / 64 ≡ z / 64 → base64_digit (c % 64) ≡ base64_digit (z % 64) → c ≡ z
third_64 c z small_c small_z high four =
    let low = digit_64 (c % 64) (z % 64) (omega arith) (omega arith) four in omega arith

pub base64_same : (octets other : List ℕ) → AreOctets octets → AreOctets other
    → base64_text octets ≡ base64_text other → octets ≡ other
base64_same [] [] are also is = refl
base64_same [] (x ∷ []) are also is = absurd (cc)
base64_same [] (x ∷ y ∷ []) are also is = absurd (cc)
base64_same [] (x ∷ y ∷ z ∷ rest) are also is = absurd (cc)
base64_same (a ∷ []) [] are also is = absurd (cc)
base64_same (a ∷ []) (x ∷ []) are also is =
    let same = first_64 a x 0 0 are.0 also.0 (omega arith) (omega arith) (ap (at 0) is) (ap (at 1) is) in
    ap (λ n. n ∷ []) same.0
base64_same (a ∷ []) (x ∷ y ∷ []) are also is =
    absurd (no_mark (y % 16 * 4 + 0) (omega arith) (sym (ap (at 2) is)))
base64_same (a ∷ []) (x ∷ y ∷ z ∷ rest) are also is =
    absurd (no_mark (y % 16 * 4 + z / 64) (omega (arith, also.1.1.0)) (sym (ap (at 2) is)))
base64_same (a ∷ b ∷ []) [] are also is = absurd (cc)
base64_same (a ∷ b ∷ []) (x ∷ []) are also is =
    absurd (no_mark (b % 16 * 4 + 0) (omega arith) (ap (at 2) is))
base64_same (a ∷ b ∷ []) (x ∷ y ∷ []) are also is =
    let one = first_64 a x b y are.0 also.0 are.1.0 also.1.0 (ap (at 0) is) (ap (at 1) is) in
    let two = second_64 b y 0 0 are.1.0 also.1.0 (omega arith) (omega arith) one.1 (ap (at 2) is) in
    cc (one.0, two.0)
base64_same (a ∷ b ∷ []) (x ∷ y ∷ z ∷ rest) are also is =
    absurd (no_mark (z % 64) (omega arith) (sym (ap (at 3) is)))
base64_same (a ∷ b ∷ c ∷ more) [] are also is = absurd (cc)
base64_same (a ∷ b ∷ c ∷ more) (x ∷ []) are also is =
    absurd (no_mark (b % 16 * 4 + c / 64) (omega (arith, are.1.1.0)) (ap (at 2) is))
base64_same (a ∷ b ∷ c ∷ more) (x ∷ y ∷ []) are also is = absurd (no_mark (c % 64) (omega arith) (ap (at 3) is))
base64_same (a ∷ b ∷ c ∷ more) (x ∷ y ∷ z ∷ rest) are also is =
    let one = first_64 a x b y are.0 also.0 are.1.0 also.1.0 (ap (at 0) is) (ap (at 1) is) in
    let two = second_64 b y c z are.1.0 also.1.0 are.1.1.0 also.1.1.0 one.1 (ap (at 2) is) in
    let three = third_64 c z are.1.1.0 also.1.1.0 two.1 (ap (at 3) is) in
    let four = base64_same more rest are.1.1.1 also.1.1.1 (ap (drop 4) is) in
    cc (one.0, two.0, three, four)

-- a group of three octets, and what follows it
pub base64_group : (octets : List ℕ) → 3 ≤ length octets
    → base64_text octets ≡ map base64_digit (sextets (take 3 octets)) ++ base64_text (drop 3 octets)
base64_group [] is = absurd (omega (arith, is))
base64_group (a ∷ []) is = absurd (omega (arith, is))
base64_group (a ∷ b ∷ []) is = absurd (omega (arith, is))
base64_group (a ∷ b ∷ c ∷ more) is = refl
