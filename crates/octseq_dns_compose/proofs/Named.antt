-- The octets of the text of a type or a class.
use Rattle.std.proofs.Common.{◌≡◌, ℕ, zero, suc, ◌<◌, Bool, true, false, ◌&&◌, nat_lt, IsUtf8, inl, inr}
use Rattle.std.proofs.Common.{List, [], ◌∷◌, ◌++◌, map, codes, refl, sym, subst, arith}
use Rattle.std.proofs.lemmas.Bool.{and_parts}
use Rattle.std.proofs.lemmas.Bool.Decides.{nat_tests}
use Rattle.std.proofs.lemmas.Fmt.{IsAscii-from_digits}
use Rattle.std.proofs.lemmas.Str.{IsUtf8-from_ascii, IsAscii-append}
use Rattle.std.specs.Char.{to_ascii_lowercase, digit_value}
use Rattle.std.specs.List.{IsAmong}
use Rattle.std.specs.Prelude.{IsAscii}
use Rattle.std.specs.Str.Parse.{IsNumeral}
use Rattle.octseq_dns_data.specs.Mnemonic.{Mnemonics, SpellsWord, IsMnemonicText, ReadsClass}
use Rattle.octseq_dns_data.specs.Mnemonic.{class_names}

-- ---- ASCII

abbrev pub is_low : List ℕ → Bool
is_low [] = true
is_low (x ∷ xs) = nat_lt x 128 && is_low xs

-- names of which each passes a test
abbrev pub all_named : (List ℕ → Bool) → Mnemonics → Bool
all_named test [] = true
all_named test (named ∷ names) = test named.1 && all_named test names

named_so : (test : List ℕ → Bool) (names : Mnemonics) (named : ℕ × List ℕ) → all_named test names ≡ true
    → IsAmong names named → test named.1 ≡ true
named_so test [] named all among = absurd (omega (arith, among.1.0))
named_so test (first ∷ names) named all (zero, (less, is)) =
    let parts = and_parts (test first.1) (all_named test names) all in
    subst (λ (n : ℕ × List ℕ). test n.1 ≡ true) (sym is) parts.0
named_so test (first ∷ names) named all (suc i, (less, is)) =
    let parts = and_parts (test first.1) (all_named test names) all in
    named_so test names named parts.1 (i, (omega (arith, less), is))

below : (x : ℕ) → nat_lt x 128 ≡ true → x < 128
below x is = grind (arith, nat_tests)

low_ascii : (xs : List ℕ) → is_low xs ≡ true → IsAscii xs
low_ascii [] low i = omega arith
low_ascii (x ∷ xs) low zero = below x (and_parts (nat_lt x 128) (is_low xs) low).0
low_ascii (x ∷ xs) low (suc i) = low_ascii xs (and_parts (nat_lt x 128) (is_low xs) low).1 i

lower_low : (x y : ℕ) → to_ascii_lowercase x ≡ to_ascii_lowercase y → nat_lt y 128 ≡ true → nat_lt x 128 ≡ true
lower_low x y same low = grind (arith, nat_tests)

spelled_low : (text name : List ℕ) → SpellsWord text name → is_low name ≡ true → is_low text ≡ true
spelled_low [] name same low = refl
spelled_low (x ∷ text) [] same low = absurd (cc)
spelled_low (x ∷ text) (y ∷ name) same low =
    let parts = and_parts (nat_lt y 128) (is_low name) low in
    let first : to_ascii_lowercase x ≡ to_ascii_lowercase y = cc in
    let rest : map to_ascii_lowercase text ≡ map to_ascii_lowercase name = cc in
    let one = lower_low x y first parts.0 in
    let more = spelled_low text name rest parts.1 in
    cc (one, more)

read_ascii : (word : List ℕ) (names : Mnemonics) (text : List ℕ) (n : ℕ) → is_low word ≡ true
    → all_named is_low names ≡ true → IsMnemonicText word names text n → IsAscii text
read_ascii word names text n low all (inl is) =
    low_ascii text (spelled_low text is.name is.spelled (named_so is_low names (n, is.name) all is.named))
read_ascii word names text n low all (inr is) =
    subst IsAscii (sym is.parts) (IsAscii-append is.letters is.digits
    (low_ascii is.letters (spelled_low is.letters word is.spelled low)) (IsAscii-from_digits is.digits is.numeral.1))

pub class_utf8 : (text : List ℕ) (n : ℕ) → ReadsClass text n → IsUtf8 text
unfolding ReadsClass
class_utf8 text n is = IsUtf8-from_ascii text (read_ascii (codes "CLASS") class_names text n refl refl is)

-- ---- a class begins with a letter

abbrev pub has_letter : List ℕ → Bool
has_letter [] = false
has_letter (x ∷ xs) = nat_lt 96 (to_ascii_lowercase x)

spelled_letter : (text name : List ℕ) → SpellsWord text name → has_letter name ≡ true → has_letter text ≡ true
spelled_letter [] [] same letter = letter
spelled_letter [] (y ∷ name) same letter = absurd (cc)
spelled_letter (x ∷ text) [] same letter = absurd (cc)
spelled_letter (x ∷ text) (y ∷ name) same letter =
    let first : to_ascii_lowercase x ≡ to_ascii_lowercase y = cc in
    subst (λ z. nat_lt 96 z ≡ true) (sym first) letter

front_letter : (xs ys : List ℕ) → has_letter xs ≡ true → has_letter (xs ++ ys) ≡ true
front_letter [] ys letter = absurd (cc)
front_letter (x ∷ xs) ys letter = letter

read_letter : (word : List ℕ) (names : Mnemonics) (text : List ℕ) (n : ℕ) → has_letter word ≡ true
    → all_named has_letter names ≡ true → IsMnemonicText word names text n → has_letter text ≡ true
read_letter word names text n letter all (inl is) =
    spelled_letter text is.name is.spelled (named_so has_letter names (n, is.name) all is.named)
read_letter word names text n letter all (inr is) =
    subst (λ t. has_letter t ≡ true) (sym is.parts) (front_letter is.letters is.digits
    (spelled_letter is.letters word is.spelled letter))

digit_low : (x : ℕ) → digit_value x < 10 → nat_lt 96 (to_ascii_lowercase x) ≡ true → ⊥
digit_low x digit letter = grind (arith, nat_tests)

-- so it is no number
pub no_number : (text : List ℕ) (n : ℕ) → ReadsClass text n → ¬ IsNumeral 10 text
unfolding ReadsClass
no_number [] n is numeral = absurd (omega (arith, numeral.0))
no_number (x ∷ text) n is numeral =
    digit_low x numeral.1.0 (read_letter (codes "CLASS") class_names (x ∷ text) n refl refl is)
