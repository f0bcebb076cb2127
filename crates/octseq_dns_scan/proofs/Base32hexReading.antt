-- Base 32 text, digit by digit: what follows what was read, and what can't.
use Rattle.std.proofs.Common.{◌≡◌, ◌≢◌, ℕ, ◌+◌, ◌*◌, ◌/◌, ◌%◌, ◌<◌, ◌⊎◌, inl, inr, List, [], ◌∷◌, ◌++◌, length, map}
use Rattle.std.proofs.Common.{take, drop, get_or, refl, sym, ap, ◌∙◌, subst, append_assoc, length-append, arith, lit<}
use Rattle.std.proofs.lemmas.List.{append-nil, map-append}
use Rattle.std.specs.Char.{digit_char, to_ascii_lowercase}
use Rattle.octseq.proofs.WrittenBack.{AreOctets}
use Rattle.octseq_dns_scan.specs.Base32hex.{quintets, base32hex_text, IsBase32hexText}
use Rattle.octseq_dns_scan.specs.Base32hexPlace.{AreGroupsOfFive, EndsAtBits, bits_end}
use Rattle.octseq_dns_scan.specs.TextReader.{NoText}
use Rattle.octseq_dns_scan.specs.declared.base32hex.Place.{Place}
use Rattle.octseq_dns_scan.specs.declared.base32hex.Place.TheVariants.{Whole, One, Two, Three, Four, Five, Six, Seven}
use Rattle.octseq_dns_scan.proofs.Base32hexTexts.{digit_32}

-- the digit at a place of a text
abbrev at : ℕ → List ℕ → ℕ
at place text = get_or text place 0

-- ---- whole groups, and what follows them

groups_then : (front rest : List ℕ) → AreGroupsOfFive front
    → base32hex_text (front ++ rest) ≡ base32hex_text front ++ base32hex_text rest
groups_then [] rest are = refl
groups_then (a ∷ []) rest are = absurd (omega (arith, are))
groups_then (a ∷ b ∷ []) rest are = absurd (omega (arith, are))
groups_then (a ∷ b ∷ c ∷ []) rest are = absurd (omega (arith, are))
groups_then (a ∷ b ∷ c ∷ d ∷ []) rest are = absurd (omega (arith, are))
groups_then (a ∷ b ∷ c ∷ d ∷ e ∷ front) rest are =
    let whole : AreGroupsOfFive front = omega (arith, are) in
    ap (λ t. map digit_char (quintets (a ∷ b ∷ c ∷ d ∷ e ∷ [])) ++ t) (groups_then front rest whole)

-- a text that begins with that of whole groups goes on with a text
groups_before : (front rest all : List ℕ) → AreGroupsOfFive front → base32hex_text all ≡ base32hex_text front ++ rest
    → (later : List ℕ) × (base32hex_text later ≡ rest)
groups_before [] rest all are is = (all, is)
groups_before (a ∷ []) rest all are is = absurd (omega (arith, are))
groups_before (a ∷ b ∷ []) rest all are is = absurd (omega (arith, are))
groups_before (a ∷ b ∷ c ∷ []) rest all are is = absurd (omega (arith, are))
groups_before (a ∷ b ∷ c ∷ d ∷ []) rest all are is = absurd (omega (arith, are))
groups_before (a ∷ b ∷ c ∷ d ∷ e ∷ front) rest [] are is = absurd (omega (arith, ap length is))
groups_before (a ∷ b ∷ c ∷ d ∷ e ∷ front) rest (x ∷ []) are is = absurd (omega (arith, ap length is))
groups_before (a ∷ b ∷ c ∷ d ∷ e ∷ front) rest (x ∷ y ∷ []) are is = absurd (omega (arith, ap length is))
groups_before (a ∷ b ∷ c ∷ d ∷ e ∷ front) rest (x ∷ y ∷ z ∷ []) are is = absurd (omega (arith, ap length is))
groups_before (a ∷ b ∷ c ∷ d ∷ e ∷ front) rest (x ∷ y ∷ z ∷ v ∷ []) are is = absurd (omega (arith, ap length is))
groups_before (a ∷ b ∷ c ∷ d ∷ e ∷ front) rest (x ∷ y ∷ z ∷ v ∷ w ∷ all) are is =
    groups_before front rest all (omega (arith, are)) (ap (drop 8) is)

-- ---- an octet that is read

abbrev Read : Place → ℕ → List ℕ → List ℕ → Type 0
Read place bits text octets = AreOctets octets × EndsAtBits place bits text octets

octets_then : (octets : List ℕ) (a : ℕ) → AreOctets octets → a < 256 → AreOctets (octets ++ a ∷ [])
octets_then [] a are small = (small, tt)
octets_then (x ∷ octets) a are small = (are.0, octets_then octets a are.1 small)

grown : (groups part new text : List ℕ) (v : ℕ) → text ≡ groups ++ part → part ++ digit_char v ∷ [] ≡ new
    → text ++ digit_char v ∷ [] ≡ groups ++ new
grown groups part new text v front same =
    ap (λ t. t ++ digit_char v ∷ []) front ∙ append_assoc groups part (digit_char v ∷ [])
    ∙ ap (λ p. groups ++ p) same

pub read_whole : (bits v : ℕ) (text octets : List ℕ) → v < 32 → Read Whole bits text octets
    → Read One v (text ++ digit_char v ∷ []) (octets ++ [])
read_whole bits v text octets small (each, (whole, front)) =
    let e1 : v ≡ v * 8 / 8 = omega (arith, small) in
    subst (λ o. Read One v (text ++ digit_char v ∷ []) o) (sym (append-nil octets)) (
      each,
      (
        whole,
        grown _ _ _ text v (front ∙ sym (append-nil _))
            (λ i. digit_char (e1 i) ∷ []),
      ),
    )

pub read_one : (bits v : ℕ) (text octets : List ℕ) → bits < 32 → v < 32 → Read One bits text octets
    → Read Two (v % 4) (text ++ digit_char v ∷ []) (octets ++ (bits * 8 + v / 4) ∷ [])
read_one bits v text octets few small (each, (whole, front)) =
    let a = bits * 8 + v / 4 in
    let e1 : bits * 8 / 8 ≡ a / 8 = omega (arith, small, few) in
    let e2 : v ≡ a % 8 * 4 + v % 4 * 64 / 64 = omega (arith, small, few) in (
      octets_then octets a each (omega (arith, few, small)),
      (
        octets,
        a,
        whole,
        refl,
        grown _ _ _ text v front
            (λ i. digit_char (e1 i) ∷ digit_char (e2 i) ∷ []),
      ),
    )

pub read_two : (bits v : ℕ) (text octets : List ℕ) → bits < 4 → v < 32 → Read Two bits text octets
    → Read Three (bits * 32 + v) (text ++ digit_char v ∷ []) (octets ++ [])
read_two bits v text octets few small (each, (groups, a, whole, same, front)) =
    let e2 : a % 8 * 4 + bits * 64 / 64 ≡ a % 8 * 4 + (bits * 32 + v) * 2 / 64 = omega (arith, small, few) in
    let e3 : v ≡ (bits * 32 + v) * 2 / 2 % 32 = omega (arith, small, few) in
    subst (λ o. Read Three (bits * 32 + v) (text ++ digit_char v ∷ []) o) (sym (append-nil octets)) (
      each,
      (
        groups,
        a,
        whole,
        same,
        grown _ _ _ text v front
            (λ i. digit_char (a / 8) ∷ digit_char (e2 i) ∷ digit_char (e3 i) ∷ []),
      ),
    )

pub read_three : (bits v : ℕ) (text octets : List ℕ) → bits < 128 → v < 32 → Read Three bits text octets
    → Read Four (v % 16) (text ++ digit_char v ∷ []) (octets ++ (bits * 2 + v / 16) ∷ [])
read_three bits v text octets few small (each, (groups, a, whole, same, front)) =
    let b = bits * 2 + v / 16 in
    let e2 : a % 8 * 4 + bits * 2 / 64 ≡ a % 8 * 4 + b / 64 = omega (arith, small, few) in
    let e3 : bits * 2 / 2 % 32 ≡ b / 2 % 32 = omega (arith, small, few) in
    let e4 : v ≡ b % 2 * 16 + v % 16 * 16 / 16 = omega (arith, small, few) in (
      octets_then octets b each (omega (arith, few, small)),
      (
        groups,
        a,
        b,
        whole,
        ap (λ o. o ++ b ∷ []) same
            ∙ append_assoc groups (a ∷ []) (b ∷ []),
        grown _ _ _ text v front (λ i. digit_char (a / 8) ∷ digit_char (e2 i)
            ∷ digit_char (e3 i) ∷ digit_char (e4 i) ∷ []),
      ),
    )

pub read_four : (bits v : ℕ) (text octets : List ℕ) → bits < 16 → v < 32 → Read Four bits text octets
    → Read Five (v % 2) (text ++ digit_char v ∷ []) (octets ++ (bits * 16 + v / 2) ∷ [])
read_four bits v text octets few small (each, (groups, a, b, whole, same, front)) =
    let c = bits * 16 + v / 2 in
    let e4 : b % 2 * 16 + bits * 16 / 16 ≡ b % 2 * 16 + c / 16 = omega (arith, small, few) in
    let e5 : v ≡ c % 16 * 2 + v % 2 * 128 / 128 = omega (arith, small, few) in (
      octets_then octets c each (omega (arith, few, small)),
      (
        groups,
        a,
        b,
        c,
        whole,
        ap (λ o. o ++ c ∷ []) same
            ∙ append_assoc groups (a ∷ b ∷ []) (c ∷ []),
        grown _ _ _ text v front (λ i. digit_char (a / 8)
            ∷ digit_char (a % 8 * 4 + b / 64) ∷ digit_char (b / 2 % 32) ∷ digit_char (e4 i) ∷ digit_char (e5 i) ∷ []),
      ),
    )

pub read_five : (bits v : ℕ) (text octets : List ℕ) → bits < 2 → v < 32 → Read Five bits text octets
    → Read Six (bits * 32 + v) (text ++ digit_char v ∷ []) (octets ++ [])
read_five bits v text octets few small (each, (groups, a, b, c, whole, same, front)) =
    let e5 : c % 16 * 2 + bits * 128 / 128 ≡ c % 16 * 2 + (bits * 32 + v) * 4 / 128 = omega (arith, small, few) in
    let e6 : v ≡ (bits * 32 + v) * 4 / 4 % 32 = omega (arith, small, few) in
    subst (λ o. Read Six (bits * 32 + v) (text ++ digit_char v ∷ []) o) (sym (append-nil octets)) (
      each,
      (
        groups,
        a,
        b,
        c,
        whole,
        same,
        grown _ _ _ text v front
            (λ i. digit_char (a / 8) ∷ digit_char (a % 8 * 4 + b / 64) ∷ digit_char (b / 2 % 32)
            ∷ digit_char (b % 2 * 16 + c / 16) ∷ digit_char (e5 i) ∷ digit_char (e6 i) ∷ []),
      ),
    )

pub read_six : (bits v : ℕ) (text octets : List ℕ) → bits < 64 → v < 32 → Read Six bits text octets
    → Read Seven (v % 8) (text ++ digit_char v ∷ []) (octets ++ (bits * 4 + v / 8) ∷ [])
read_six bits v text octets few small (each, (groups, a, b, c, whole, same, front)) =
    let d = bits * 4 + v / 8 in
    let e5 : c % 16 * 2 + bits * 4 / 128 ≡ c % 16 * 2 + d / 128 = omega (arith, small, few) in
    let e6 : bits * 4 / 4 % 32 ≡ d / 4 % 32 = omega (arith, small, few) in
    let e7 : v ≡ d % 4 * 8 + v % 8 * 32 / 32 = omega (arith, small, few) in (
      octets_then octets d each (omega (arith, few, small)),
      (
        groups,
        a,
        b,
        c,
        d,
        whole,
        ap (λ o. o ++ d ∷ []) same
            ∙ append_assoc groups (a ∷ b ∷ c ∷ []) (d ∷ []),
        grown _ _ _ text v front (λ i. digit_char (a / 8)
            ∷ digit_char (a % 8 * 4 + b / 64) ∷ digit_char (b / 2 % 32) ∷ digit_char (b % 2 * 16 + c / 16)
            ∷ digit_char (e5 i) ∷ digit_char (e6 i) ∷ digit_char (e7 i) ∷ []),
      ),
    )

pub read_seven : (bits v : ℕ) (text octets : List ℕ) → bits < 8 → v < 32 → Read Seven bits text octets
    → Read Whole (0) (text ++ digit_char v ∷ []) (octets ++ (bits * 32 + v) ∷ [])
read_seven bits v text octets few small (each, (groups, a, b, c, d, whole, same, front)) =
    let e = bits * 32 + v in
    let e7 : d % 4 * 8 + bits * 32 / 32 ≡ d % 4 * 8 + e / 32 = omega (arith, small, few) in
    let e8 : v ≡ e % 32 = omega (arith, small, few) in
    let text_of = grown (base32hex_text groups) (map digit_char (take 7 (quintets (a ∷ b ∷ c ∷ d ∷ bits * 32
    ∷ [])))) (digit_char (a / 8) ∷ digit_char (a % 8 * 4 + b / 64) ∷ digit_char (b / 2 % 32)
    ∷ digit_char (b % 2 * 16 + c / 16) ∷ digit_char (c % 16 * 2 + d / 128) ∷ digit_char (d / 4 % 32)
    ∷ digit_char (d % 4 * 8 + e / 32) ∷ digit_char (e % 32) ∷ []) text v front
    (λ i. digit_char (a / 8) ∷ digit_char (a % 8 * 4 + b / 64) ∷ digit_char (b / 2 % 32)
    ∷ digit_char (b % 2 * 16 + c / 16) ∷ digit_char (c % 16 * 2 + d / 128) ∷ digit_char (d / 4 % 32)
    ∷ digit_char (e7 i) ∷ digit_char (e8 i) ∷ []) in
    let all : octets ++ e ∷ [] ≡ groups ++ (a ∷ b ∷ c ∷ d ∷ e ∷ []) =
    ap (λ o. o ++ e ∷ []) same ∙ append_assoc groups (a ∷ b ∷ c ∷ d ∷ []) (e ∷ []) in (
      octets_then octets e each (omega (arith, few, small)),
      (
        omega (arith, ap length all, length-append groups (a ∷ b ∷ c ∷ d ∷ e ∷ []), whole),
        text_of ∙ sym (groups_then groups (a ∷ b ∷ c ∷ d ∷ e ∷ []) whole) ∙ ap base32hex_text (sym all),
      ),
    )

-- ---- places, and letters of either case

pub moved : (p q : Place) (a b : ℕ) (text octets : List ℕ) → p ≡ q → a ≡ b → Read q b text octets
    → Read p a text octets
moved p q a b text octets same equal read =
    subst (λ place. Read place a text octets) (sym same) (subst (λ bits. Read q bits text octets) (sym equal) read)

pub few_at : (p q : Place) (bits : ℕ) → p ≡ q → bits < bits_end p → bits < bits_end q
few_at p q bits same few = subst (λ place. bits < bits_end place) same few

pub lowered : (p q : Place) (a b octet v : ℕ) (text octets : List ℕ) → p ≡ q → a ≡ b
    → to_ascii_lowercase octet ≡ digit_char v
    → Read q b (map to_ascii_lowercase text ++ digit_char v ∷ []) octets
    → Read p a (map to_ascii_lowercase (text ++ octet ∷ [])) octets
lowered p q a b octet v text octets same equal lower read =
    let spread : map to_ascii_lowercase (text ++ octet ∷ []) ≡ map to_ascii_lowercase text ++ digit_char v ∷ [] =
    map-append to_ascii_lowercase text (octet ∷ []) ∙ ap (λ c. map to_ascii_lowercase text ++ c ∷ []) lower in
    subst (λ t. Read p a t octets) (sym spread)
    (moved p q a b (map to_ascii_lowercase text ++ digit_char v ∷ []) octets same equal read)

-- ---- an octet that is no digit

digit_in : (octets front : List ℕ) (o : ℕ) (more : List ℕ) → AreOctets octets
    → front ++ o ∷ more ≡ base32hex_text octets → (value : ℕ) × (value < 32) × (o ≡ digit_char value)
digit_in [] [] o more are is = absurd (cc)
digit_in [] (f ∷ front) o more are is = absurd (cc)
digit_in (a ∷ []) [] o more are is =
    (a / 8, omega (arith, are.0), ap (at 0) is)
digit_in (a ∷ []) (f0 ∷ []) o more are is =
    (a % 8 * 4 + 0 / 64, omega (arith, are.0), ap (at 1) is)
digit_in (a ∷ []) (f0 ∷ f1 ∷ front) o more are is =
    absurd (omega (arith, ap length is, length-append front (o ∷ more)))
digit_in (a ∷ b ∷ []) [] o more are is =
    (a / 8, omega (arith, are.0, are.1.0), ap (at 0) is)
digit_in (a ∷ b ∷ []) (f0 ∷ []) o more are is =
    (a % 8 * 4 + b / 64, omega (arith, are.0, are.1.0), ap (at 1) is)
digit_in (a ∷ b ∷ []) (f0 ∷ f1 ∷ []) o more are is =
    (b / 2 % 32, omega (arith, are.0, are.1.0), ap (at 2) is)
digit_in (a ∷ b ∷ []) (f0 ∷ f1 ∷ f2 ∷ []) o more are is =
    (b % 2 * 16 + 0 / 16, omega (arith, are.0, are.1.0), ap (at 3) is)
digit_in (a ∷ b ∷ []) (f0 ∷ f1 ∷ f2 ∷ f3 ∷ front) o more are is =
    absurd (omega (arith, ap length is, length-append front (o ∷ more)))
digit_in (a ∷ b ∷ c ∷ []) [] o more are is =
    (a / 8, omega (arith, are.0, are.1.0, are.1.1.0), ap (at 0) is)
digit_in (a ∷ b ∷ c ∷ []) (f0 ∷ []) o more are is =
    (a % 8 * 4 + b / 64, omega (arith, are.0, are.1.0, are.1.1.0), ap (at 1) is)
digit_in (a ∷ b ∷ c ∷ []) (f0 ∷ f1 ∷ []) o more are is =
    (b / 2 % 32, omega (arith, are.0, are.1.0, are.1.1.0), ap (at 2) is)
digit_in (a ∷ b ∷ c ∷ []) (f0 ∷ f1 ∷ f2 ∷ []) o more are is =
    (b % 2 * 16 + c / 16, omega (arith, are.0, are.1.0, are.1.1.0), ap (at 3) is)
digit_in (a ∷ b ∷ c ∷ []) (f0 ∷ f1 ∷ f2 ∷ f3 ∷ []) o more are is =
    (c % 16 * 2 + 0 / 128, omega (arith, are.0, are.1.0, are.1.1.0), ap (at 4) is)
digit_in (a ∷ b ∷ c ∷ []) (f0 ∷ f1 ∷ f2 ∷ f3 ∷ f4 ∷ front) o more are is =
    absurd (omega (arith, ap length is, length-append front (o ∷ more)))
digit_in (a ∷ b ∷ c ∷ d ∷ []) [] o more are is =
    (a / 8, omega (arith, are.0, are.1.0, are.1.1.0, are.1.1.1.0), ap (at 0) is)
digit_in (a ∷ b ∷ c ∷ d ∷ []) (f0 ∷ []) o more are is =
    (a % 8 * 4 + b / 64, omega (arith, are.0, are.1.0, are.1.1.0, are.1.1.1.0), ap (at 1) is)
digit_in (a ∷ b ∷ c ∷ d ∷ []) (f0 ∷ f1 ∷ []) o more are is =
    (b / 2 % 32, omega (arith, are.0, are.1.0, are.1.1.0, are.1.1.1.0), ap (at 2) is)
digit_in (a ∷ b ∷ c ∷ d ∷ []) (f0 ∷ f1 ∷ f2 ∷ []) o more are is =
    (b % 2 * 16 + c / 16, omega (arith, are.0, are.1.0, are.1.1.0, are.1.1.1.0), ap (at 3) is)
digit_in (a ∷ b ∷ c ∷ d ∷ []) (f0 ∷ f1 ∷ f2 ∷ f3 ∷ []) o more are is =
    (c % 16 * 2 + d / 128, omega (arith, are.0, are.1.0, are.1.1.0, are.1.1.1.0), ap (at 4) is)
digit_in (a ∷ b ∷ c ∷ d ∷ []) (f0 ∷ f1 ∷ f2 ∷ f3 ∷ f4 ∷ []) o more are is =
    (d / 4 % 32, omega (arith, are.0, are.1.0, are.1.1.0, are.1.1.1.0), ap (at 5) is)
digit_in (a ∷ b ∷ c ∷ d ∷ []) (f0 ∷ f1 ∷ f2 ∷ f3 ∷ f4 ∷ f5 ∷ []) o more are is =
    (d % 4 * 8 + 0 / 32, omega (arith, are.0, are.1.0, are.1.1.0, are.1.1.1.0), ap (at 6) is)
digit_in (a ∷ b ∷ c ∷ d ∷ []) (f0 ∷ f1 ∷ f2 ∷ f3 ∷ f4 ∷ f5 ∷ f6 ∷ front) o more are is =
    absurd (omega (arith, ap length is, length-append front (o ∷ more)))
digit_in (a ∷ b ∷ c ∷ d ∷ e ∷ more_octets) [] o more are is =
    (a / 8, omega (arith, are.0, are.1.0, are.1.1.0, are.1.1.1.0, are.1.1.1.1.0), ap (at 0) is)
digit_in (a ∷ b ∷ c ∷ d ∷ e ∷ more_octets) (f0 ∷ []) o more are is =
    (a % 8 * 4 + b / 64, omega (arith, are.0, are.1.0, are.1.1.0, are.1.1.1.0, are.1.1.1.1.0), ap (at 1) is)
digit_in (a ∷ b ∷ c ∷ d ∷ e ∷ more_octets) (f0 ∷ f1 ∷ []) o more are is =
    (b / 2 % 32, omega (arith, are.0, are.1.0, are.1.1.0, are.1.1.1.0, are.1.1.1.1.0), ap (at 2) is)
digit_in (a ∷ b ∷ c ∷ d ∷ e ∷ more_octets) (f0 ∷ f1 ∷ f2 ∷ []) o more are is =
    (b % 2 * 16 + c / 16, omega (arith, are.0, are.1.0, are.1.1.0, are.1.1.1.0, are.1.1.1.1.0), ap (at 3) is)
digit_in (a ∷ b ∷ c ∷ d ∷ e ∷ more_octets) (f0 ∷ f1 ∷ f2 ∷ f3 ∷ []) o more are is =
    (c % 16 * 2 + d / 128, omega (arith, are.0, are.1.0, are.1.1.0, are.1.1.1.0, are.1.1.1.1.0), ap (at 4) is)
digit_in (a ∷ b ∷ c ∷ d ∷ e ∷ more_octets) (f0 ∷ f1 ∷ f2 ∷ f3 ∷ f4 ∷ []) o more are is =
    (d / 4 % 32, omega (arith, are.0, are.1.0, are.1.1.0, are.1.1.1.0, are.1.1.1.1.0), ap (at 5) is)
digit_in (a ∷ b ∷ c ∷ d ∷ e ∷ more_octets) (f0 ∷ f1 ∷ f2 ∷ f3 ∷ f4 ∷ f5 ∷ []) o more are is =
    (d % 4 * 8 + e / 32, omega (arith, are.0, are.1.0, are.1.1.0, are.1.1.1.0, are.1.1.1.1.0), ap (at 6) is)
digit_in (a ∷ b ∷ c ∷ d ∷ e ∷ more_octets) (f0 ∷ f1 ∷ f2 ∷ f3 ∷ f4 ∷ f5 ∷ f6 ∷ []) o more are is =
    (e % 32, omega (arith, are.0, are.1.0, are.1.1.0, are.1.1.1.0, are.1.1.1.1.0), ap (at 7) is)
digit_in (a ∷ b ∷ c ∷ d ∷ e ∷ more_octets) (f0 ∷ f1 ∷ f2 ∷ f3 ∷ f4 ∷ f5 ∷ f6 ∷ f7
    ∷ front) o more are is = digit_in more_octets front o more are.1.1.1.1.1 (ap (drop 8) is)

pub no_digit : (text : List ℕ) (c : ℕ) → ((value : ℕ) → value < 32 → to_ascii_lowercase c ≢ digit_char value)
    → NoText IsBase32hexText (text ++ c ∷ [])
no_digit text c other octets more are is =
    let spread : map to_ascii_lowercase text ++ to_ascii_lowercase c ∷ map to_ascii_lowercase more
    ≡ base32hex_text octets = simp (map-append, append_assoc) at is in
    let found = digit_in octets (map to_ascii_lowercase text) (to_ascii_lowercase c) (map to_ascii_lowercase more)
    are spread in
    other found.0 found.1 found.2

-- ---- whether a text is whole

never_one : (later : List ℕ) → length (base32hex_text later) ≢ 1
never_one [] is = absurd (omega (arith, is))
never_one (x ∷ []) is = absurd (omega (arith, is))
never_one (x ∷ y ∷ []) is = absurd (omega (arith, is))
never_one (x ∷ y ∷ z ∷ []) is = absurd (omega (arith, is))
never_one (x ∷ y ∷ z ∷ v ∷ []) is = absurd (omega (arith, is))
never_one (x ∷ y ∷ z ∷ v ∷ w ∷ later) is = absurd (omega (arith, is))

never_three : (later : List ℕ) → length (base32hex_text later) ≢ 3
never_three [] is = absurd (omega (arith, is))
never_three (x ∷ []) is = absurd (omega (arith, is))
never_three (x ∷ y ∷ []) is = absurd (omega (arith, is))
never_three (x ∷ y ∷ z ∷ []) is = absurd (omega (arith, is))
never_three (x ∷ y ∷ z ∷ v ∷ []) is = absurd (omega (arith, is))
never_three (x ∷ y ∷ z ∷ v ∷ w ∷ later) is = absurd (omega (arith, is))

never_six : (later : List ℕ) → length (base32hex_text later) ≢ 6
never_six [] is = absurd (omega (arith, is))
never_six (x ∷ []) is = absurd (omega (arith, is))
never_six (x ∷ y ∷ []) is = absurd (omega (arith, is))
never_six (x ∷ y ∷ z ∷ []) is = absurd (omega (arith, is))
never_six (x ∷ y ∷ z ∷ v ∷ []) is = absurd (omega (arith, is))
never_six (x ∷ y ∷ z ∷ v ∷ w ∷ later) is = absurd (omega (arith, is))

rest_two : (later : List ℕ) (a bits : ℕ) → bits < 4 → bits ≢ 0
    → base32hex_text later ≢ map digit_char (take 2 (quintets (a ∷ bits * 64 ∷ 0 ∷ 0 ∷ 0 ∷ [])))
rest_two [] a bits few some is = absurd (omega (arith, ap length is))
rest_two (x ∷ []) a bits few some is =
    let same = digit_32 (x % 8 * 4 + 0 / 64) (a % 8 * 4 + bits * 64 / 64) (omega arith) (omega (arith, few))
    (ap (at 1) is) in
    some (omega (arith, same, few))
rest_two (x ∷ y ∷ []) a bits few some is = absurd (omega (arith, ap length is))
rest_two (x ∷ y ∷ z ∷ []) a bits few some is = absurd (omega (arith, ap length is))
rest_two (x ∷ y ∷ z ∷ v ∷ []) a bits few some is = absurd (omega (arith, ap length is))
rest_two (x ∷ y ∷ z ∷ v ∷ w ∷ later) a bits few some is = absurd (omega (arith, ap length is))

rest_four : (later : List ℕ) (a b bits : ℕ) → bits < 16 → bits ≢ 0
    → base32hex_text later ≢ map digit_char (take 4 (quintets (a ∷ b ∷ bits * 16 ∷ 0 ∷ 0 ∷ [])))
rest_four [] a b bits few some is = absurd (omega (arith, ap length is))
rest_four (x ∷ []) a b bits few some is = absurd (omega (arith, ap length is))
rest_four (x ∷ y ∷ []) a b bits few some is =
    let same = digit_32 (y % 2 * 16 + 0 / 16) (b % 2 * 16 + bits * 16 / 16) (omega arith) (omega (arith, few))
    (ap (at 3) is) in
    some (omega (arith, same, few))
rest_four (x ∷ y ∷ z ∷ []) a b bits few some is = absurd (omega (arith, ap length is))
rest_four (x ∷ y ∷ z ∷ v ∷ []) a b bits few some is = absurd (omega (arith, ap length is))
rest_four (x ∷ y ∷ z ∷ v ∷ w ∷ later) a b bits few some is = absurd (omega (arith, ap length is))

rest_five : (later : List ℕ) (a b c bits : ℕ) → bits < 2 → bits ≢ 0
    → base32hex_text later ≢ map digit_char (take 5 (quintets (a ∷ b ∷ c ∷ bits * 128 ∷ 0 ∷ [])))
rest_five [] a b c bits few some is = absurd (omega (arith, ap length is))
rest_five (x ∷ []) a b c bits few some is = absurd (omega (arith, ap length is))
rest_five (x ∷ y ∷ []) a b c bits few some is = absurd (omega (arith, ap length is))
rest_five (x ∷ y ∷ z ∷ []) a b c bits few some is =
    let same = digit_32 (z % 16 * 2 + 0 / 128) (c % 16 * 2 + bits * 128 / 128) (omega arith) (omega (arith, few))
    (ap (at 4) is) in
    some (omega (arith, same, few))
rest_five (x ∷ y ∷ z ∷ v ∷ []) a b c bits few some is = absurd (omega (arith, ap length is))
rest_five (x ∷ y ∷ z ∷ v ∷ w ∷ later) a b c bits few some is = absurd (omega (arith, ap length is))

rest_seven : (later : List ℕ) (a b c d bits : ℕ) → bits < 8 → bits ≢ 0
    → base32hex_text later ≢ map digit_char (take 7 (quintets (a ∷ b ∷ c ∷ d ∷ bits * 32 ∷ [])))
rest_seven [] a b c d bits few some is = absurd (omega (arith, ap length is))
rest_seven (x ∷ []) a b c d bits few some is = absurd (omega (arith, ap length is))
rest_seven (x ∷ y ∷ []) a b c d bits few some is = absurd (omega (arith, ap length is))
rest_seven (x ∷ y ∷ z ∷ []) a b c d bits few some is = absurd (omega (arith, ap length is))
rest_seven (x ∷ y ∷ z ∷ v ∷ []) a b c d bits few some is =
    let same = digit_32 (v % 4 * 8 + 0 / 32) (d % 4 * 8 + bits * 32 / 32) (omega arith) (omega (arith, few))
    (ap (at 6) is) in
    some (omega (arith, same, few))
rest_seven (x ∷ y ∷ z ∷ v ∷ w ∷ later) a b c d bits few some is = absurd (omega (arith, ap length is))

open_one : (bits : ℕ) (text octets other : List ℕ) → Read One bits text octets → text ≢ base32hex_text other
open_one bits text octets other (each, (whole, front)) is =
    let later = groups_before octets _ other whole (sym is ∙ front) in
    never_one later.0 (ap length later.1)

open_three : (bits : ℕ) (text octets other : List ℕ) → Read Three bits text octets → text ≢ base32hex_text other
open_three bits text octets other (each, (groups, a, whole, same, front)) is =
    let later = groups_before groups _ other whole (sym is ∙ front) in
    never_three later.0 (ap length later.1)

open_six : (bits : ℕ) (text octets other : List ℕ) → Read Six bits text octets → text ≢ base32hex_text other
open_six bits text octets other (each, (groups, a, b, c, whole, same, front)) is =
    let later = groups_before groups _ other whole (sym is ∙ front) in
    never_six later.0 (ap length later.1)

pub left_over : (place : Place) (bits : ℕ) (text octets other : List ℕ) → bits ≢ 0 → bits < bits_end place
    → Read place bits text octets → text ≢ base32hex_text other
left_over Whole bits text octets other some few read is = absurd (some (omega (arith, few)))
left_over One bits text octets other some few read is = open_one bits text octets other read is
left_over Two bits text octets other some few (each, (groups, a, whole, same, front)) is =
    let later = groups_before groups _ other whole (sym is ∙ front) in
    rest_two later.0 a bits few some later.1
left_over Three bits text octets other some few read is = open_three bits text octets other read is
left_over Four bits text octets other some few (each, (groups, a, b, whole, same, front)) is =
    let later = groups_before groups _ other whole (sym is ∙ front) in
    rest_four later.0 a b bits few some later.1
left_over Five bits text octets other some few (each, (groups, a, b, c, whole, same, front)) is =
    let later = groups_before groups _ other whole (sym is ∙ front) in
    rest_five later.0 a b c bits few some later.1
left_over Six bits text octets other some few read is = open_six bits text octets other read is
left_over Seven bits text octets other some few (each, (groups, a, b, c, d, whole, same, front)) is =
    let later = groups_before groups _ other whole (sym is ∙ front) in
    rest_seven later.0 a b c d bits few some later.1

pub open_place : (place : Place) (bits : ℕ) (text octets other : List ℕ)
    → (place ≡ One) ⊎ ((place ≡ Three) ⊎ (place ≡ Six)) → Read place bits text octets
    → text ≢ base32hex_text other
open_place place bits text octets other (inl same) read is =
    open_one bits text octets other (moved One place bits bits text octets (sym same) refl read) is
open_place place bits text octets other (inr (inl same)) read is =
    open_three bits text octets other (moved Three place bits bits text octets (sym same) refl read) is
open_place place bits text octets other (inr (inr same)) read is =
    open_six bits text octets other (moved Six place bits bits text octets (sym same) refl read) is

-- the text is whole if no bits are left after these
whole_at : (groups part octets text : List ℕ) → AreGroupsOfFive groups → octets ≡ groups ++ part
    → text ≡ base32hex_text groups ++ base32hex_text part → text ≡ base32hex_text octets
whole_at groups part octets text whole same front =
    front ∙ sym (groups_then groups part whole) ∙ ap base32hex_text (sym same)

pub whole_place : (place : Place) (text octets : List ℕ)
    → (place ≡ Whole) ⊎ ((place ≡ Two) ⊎ ((place ≡ Four) ⊎ ((place ≡ Five) ⊎ (place ≡ Seven))))
    → Read place 0 text octets → text ≡ base32hex_text octets
whole_place place text octets (inl same) read =
    let there = moved Whole place 0 0 text octets (sym same) refl read in there.1.1
whole_place place text octets (inr (inl same)) read =
    let there = moved Two place 0 0 text octets (sym same) refl read in
    whole_at there.1.0 (there.1.1 ∷ []) octets text there.1.2 there.1.3 there.1.4
whole_place place text octets (inr (inr (inl same))) read =
    let there = moved Four place 0 0 text octets (sym same) refl read in
    whole_at there.1.0 (there.1.1 ∷ there.1.2 ∷ []) octets text there.1.3 there.1.4 there.1.5
whole_place place text octets (inr (inr (inr (inl same)))) read =
    let there = moved Five place 0 0 text octets (sym same) refl read in
    whole_at there.1.0 (there.1.1 ∷ there.1.2 ∷ there.1.3 ∷ []) octets text there.1.4 there.1.5 there.1.6
whole_place place text octets (inr (inr (inr (inr same)))) read =
    let there = moved Seven place 0 0 text octets (sym same) refl read in
    whole_at there.1.0 (there.1.1 ∷ there.1.2 ∷ there.1.3 ∷ there.1.4 ∷ []) octets text there.1.5 there.1.6 there.1.7

-- ---- what was read goes on to a text

joined : (octets last : List ℕ) → AreOctets octets → AreOctets last → AreOctets (octets ++ last)
joined [] last are also = also
joined (x ∷ octets) last are also = (are.0, joined octets last are.1 also)

parts : (groups part : List ℕ) → AreOctets (groups ++ part) → AreOctets groups × AreOctets part
parts [] part each = (tt, each)
parts (x ∷ groups) part each = let rest = parts groups part each.1 in ((each.0, rest.0), rest.1)

-- the digits of a whole group follow, zeros or not
goes_on_by : (groups last text : List ℕ) (n : ℕ) (more : List ℕ) → AreGroupsOfFive groups → AreOctets (groups ++ last)
    → text ≡ base32hex_text groups ++ map digit_char (take n (quintets last)) → map to_ascii_lowercase more ≡ more
    → map digit_char (take n (quintets last)) ++ more ≡ base32hex_text last
    → (more all : List ℕ) × AreOctets all × (text ++ map to_ascii_lowercase more ≡ base32hex_text all)
goes_on_by groups last text n more whole each front lower same = (
  more,
  groups ++ last,
  each,
  ap (λ t. text ++ t) lower ∙ ap (λ t. t ++ more) front
      ∙ append_assoc (base32hex_text groups) (map digit_char (take n (quintets last))) more
      ∙ ap (λ t. base32hex_text groups ++ t) same ∙ sym (groups_then groups last whole),
)

pub base32hex_goes_on : (place : Place) (bits : ℕ) (text octets : List ℕ) → bits < bits_end place
    → Read place bits text octets
    → (more all : List ℕ) × AreOctets all × (text ++ map to_ascii_lowercase more ≡ base32hex_text all)
base32hex_goes_on Whole bits text octets few (each, (whole, front)) = ([], octets, each, append-nil text ∙ front)
base32hex_goes_on One bits text octets few (each, (whole, front)) =
    let next = bits * 8 in
    let e2 : 0 ≡ next % 8 * 4 + 0 / 64 = omega (arith, few) in
    goes_on_by octets (next ∷ 0 ∷ 0 ∷ 0 ∷ 0 ∷ []) text 1 (48 ∷ 48 ∷ 48 ∷ 48 ∷ 48 ∷ 48 ∷ 48 ∷ []) whole
    (joined octets (next ∷ 0 ∷ 0 ∷ 0 ∷ 0 ∷ []) each (
      omega (arith, few),
      (
        lit< tt,
        (
          lit< tt,
          (
            lit< tt,
            (
              lit< tt,
              tt,
            ),
          ),
        ),
      ),
    ))
    front refl
    (λ i. digit_char (next / 8) ∷ digit_char (e2 i) ∷ 48 ∷ 48 ∷ 48 ∷ 48 ∷ 48 ∷ 48 ∷ [])
base32hex_goes_on Two bits text octets few (each, (groups, a, whole, same, front)) =
    let next = bits * 64 in
    let e3 : 0 ≡ next / 2 % 32 = omega (arith, few) in
    let e4 : 0 ≡ next % 2 * 16 + 0 / 16 = omega (arith, few) in
    let split = parts groups (a ∷ []) (subst AreOctets same each) in
    goes_on_by groups (a ∷ next ∷ 0 ∷ 0 ∷ 0 ∷ []) text 2 (48 ∷ 48 ∷ 48 ∷ 48 ∷ 48 ∷ 48 ∷ []) whole
    (joined groups (a ∷ next ∷ 0 ∷ 0 ∷ 0 ∷ []) split.0 (
      split.1.0,
      (
        omega (arith, few),
        (
          lit< tt,
          (
            lit< tt,
            (lit< tt, tt),
          ),
        ),
      ),
    ))
    front refl
    (λ i. digit_char (a / 8) ∷ digit_char (a % 8 * 4 + next / 64) ∷ digit_char (e3 i) ∷ digit_char (e4 i) ∷ 48
    ∷ 48 ∷ 48 ∷ 48 ∷ [])
base32hex_goes_on Three bits text octets few (each, (groups, a, whole, same, front)) =
    let next = bits * 2 in
    let e4 : 0 ≡ next % 2 * 16 + 0 / 16 = omega (arith, few) in
    let split = parts groups (a ∷ []) (subst AreOctets same each) in
    goes_on_by groups (a ∷ next ∷ 0 ∷ 0 ∷ 0 ∷ []) text 3 (48 ∷ 48 ∷ 48 ∷ 48 ∷ 48 ∷ []) whole
    (joined groups (a ∷ next ∷ 0 ∷ 0 ∷ 0 ∷ []) split.0 (
      split.1.0,
      (
        omega (arith, few),
        (
          lit< tt,
          (
            lit< tt,
            (lit< tt, tt),
          ),
        ),
      ),
    ))
    front refl
    (λ i. digit_char (a / 8) ∷ digit_char (a % 8 * 4 + next / 64) ∷ digit_char (next / 2 % 32) ∷ digit_char (e4 i)
    ∷ 48 ∷ 48 ∷ 48 ∷ 48 ∷ [])
base32hex_goes_on Four bits text octets few (each, (groups, a, b, whole, same, front)) =
    let next = bits * 16 in
    let e5 : 0 ≡ next % 16 * 2 + 0 / 128 = omega (arith, few) in
    let split = parts groups (a ∷ b ∷ []) (subst AreOctets same each) in
    goes_on_by groups (a ∷ b ∷ next ∷ 0 ∷ 0 ∷ []) text 4 (48 ∷ 48 ∷ 48 ∷ 48 ∷ []) whole
    (joined groups (a ∷ b ∷ next ∷ 0 ∷ 0 ∷ []) split.0 (
      split.1.0,
      (
        split.1.1.0,
        (
          omega (arith, few),
          (
            lit< tt,
            (lit< tt, tt),
          ),
        ),
      ),
    ))
    front refl
    (λ i. digit_char (a / 8) ∷ digit_char (a % 8 * 4 + b / 64) ∷ digit_char (b / 2 % 32)
    ∷ digit_char (b % 2 * 16 + next / 16) ∷ digit_char (e5 i) ∷ 48 ∷ 48 ∷ 48 ∷ [])
base32hex_goes_on Five bits text octets few (each, (groups, a, b, c, whole, same, front)) =
    let next = bits * 128 in
    let e6 : 0 ≡ next / 4 % 32 = omega (arith, few) in
    let e7 : 0 ≡ next % 4 * 8 + 0 / 32 = omega (arith, few) in
    let split = parts groups (a ∷ b ∷ c ∷ []) (subst AreOctets same each) in
    goes_on_by groups (a ∷ b ∷ c ∷ next ∷ 0 ∷ []) text 5 (48 ∷ 48 ∷ 48 ∷ []) whole
    (joined groups (a ∷ b ∷ c ∷ next ∷ 0 ∷ []) split.0 (
      split.1.0,
      (
        split.1.1.0,
        (
          split.1.1.1.0,
          (
            omega (
              arith,
              few,
            ),
            (lit< tt, tt),
          ),
        ),
      ),
    ))
    front refl
    (λ i. digit_char (a / 8) ∷ digit_char (a % 8 * 4 + b / 64) ∷ digit_char (b / 2 % 32)
    ∷ digit_char (b % 2 * 16 + c / 16) ∷ digit_char (c % 16 * 2 + next / 128) ∷ digit_char (e6 i)
    ∷ digit_char (e7 i) ∷ 48 ∷ [])
base32hex_goes_on Six bits text octets few (each, (groups, a, b, c, whole, same, front)) =
    let next = bits * 4 in
    let e7 : 0 ≡ next % 4 * 8 + 0 / 32 = omega (arith, few) in
    let split = parts groups (a ∷ b ∷ c ∷ []) (subst AreOctets same each) in
    goes_on_by groups (a ∷ b ∷ c ∷ next ∷ 0 ∷ []) text 6 (48 ∷ 48 ∷ []) whole
    (joined groups (a ∷ b ∷ c ∷ next ∷ 0 ∷ []) split.0 (
      split.1.0,
      (
        split.1.1.0,
        (
          split.1.1.1.0,
          (
            omega (
              arith,
              few,
            ),
            (lit< tt, tt),
          ),
        ),
      ),
    ))
    front refl
    (λ i. digit_char (a / 8) ∷ digit_char (a % 8 * 4 + b / 64) ∷ digit_char (b / 2 % 32)
    ∷ digit_char (b % 2 * 16 + c / 16) ∷ digit_char (c % 16 * 2 + next / 128) ∷ digit_char (next / 4 % 32)
    ∷ digit_char (e7 i) ∷ 48 ∷ [])
base32hex_goes_on Seven bits text octets few (each, (groups, a, b, c, d, whole, same, front)) =
    let next = bits * 32 in
    let e8 : 0 ≡ next % 32 = omega (arith, few) in
    let split = parts groups (a ∷ b ∷ c ∷ d ∷ []) (subst AreOctets same each) in
    goes_on_by groups (a ∷ b ∷ c ∷ d ∷ next ∷ []) text 7 (48 ∷ []) whole
    (joined groups (a ∷ b ∷ c ∷ d ∷ next ∷ []) split.0 (
      split.1.0,
      (
        split.1.1.0,
        (
          split.1.1.1.0,
          (
            split.1.1.1.1.0,
            (omega (arith, few), tt),
          ),
        ),
      ),
    ))
    front refl
    (λ i. digit_char (a / 8) ∷ digit_char (a % 8 * 4 + b / 64) ∷ digit_char (b / 2 % 32)
    ∷ digit_char (b % 2 * 16 + c / 16) ∷ digit_char (c % 16 * 2 + d / 128) ∷ digit_char (d / 4 % 32)
    ∷ digit_char (d % 4 * 8 + next / 32) ∷ digit_char (e8 i) ∷ [])
