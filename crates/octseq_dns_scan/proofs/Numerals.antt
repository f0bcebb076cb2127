-- A number is read digit by digit.
use Rattle.std.proofs.Common.{◌≡◌, ℕ, ◌+◌, ◌-◌, ◌*◌, ◌^◌, ◌<◌, ◌≤◌, true, false, List, [], ◌∷◌, length}
use Rattle.std.proofs.Common.{get_or, take, sym, ◌∙◌, arith, rules}
use Rattle.std.proofs.Math.Bool.{true≢false}
use Rattle.std.specs.Char.{digit_value, is_ascii_digit}
use Rattle.std.specs.Fmt.{decimal}
use Rattle.std.specs.Int.{IsInRange}
use Rattle.std.specs.Str.Parse.{AllDigits, IsNumeral, digits_value}
use Rattle.std.proofs.lemmas.Fmt.{decimal_is_IsNumeral, length-decimal-le}
use Rattle.std.proofs.lemmas.Int.Digits.{digits_more, digits_value_more}
use Rattle.std.proofs.lemmas.List.Elements.{All-from_recursion}
use Rattle.std.proofs.lemmas.Str.{digit_value_digit}
use Rattle.std.proofs.lemmas.Str.Parse.{digit_from_value, digit_at, digits_value-take-le}
use Rattle.std.specs.List.{AllByRecursion}
use Rattle.octseq_dns_scan.specs.Word.{is_special, IsWord}
use Rattle.octseq_dns_scan.proofs.Taken.{plain_word}

-- a digit by the test is one by its value, and the other way round
digit_below : (c : ℕ) → is_ascii_digit c ≡ true → digit_value c < 10
digit_below c is = search rules

digit_range : (c : ℕ) → is_ascii_digit c ≡ true → IsInRange 48 57 c
digit_range c is = search rules

digit_test : (c : ℕ) → IsInRange 48 57 c → is_ascii_digit c ≡ true
digit_test c is = search rules

-- ---- a digit more

pub digits_step : (word : List ℕ) (i : ℕ) → i < length word → AllDigits 10 (take i word)
    → is_ascii_digit (get_or word i 0) ≡ true → AllDigits 10 (take (i + 1) word)
digits_step word i more so_far is = digits_more 10 word i more so_far (digit_below (get_or word i 0) is)

pub value_step : (word : List ℕ) (i value : ℕ) → i < length word → value ≡ digits_value 10 (take i word)
    → is_ascii_digit (get_or word i 0) ≡ true
    → value * 10 + (get_or word i 0 - 48) ≡ digits_value 10 (take (i + 1) word)
value_step word i value more so_far is =
    let digit = digit_value_digit (get_or word i 0) (digit_range (get_or word i 0) is) in
    let step = digits_value_more 10 word i more in omega (arith, digit, step, so_far)

-- ---- what is refused

pub no_digit : (word : List ℕ) (i max : ℕ) → i < length word → is_ascii_digit (get_or word i 0) ≡ false
    → ¬ (IsNumeral 10 word × (digits_value 10 word ≤ max))
no_digit word i max more is number =
    true≢false (sym (digit_test (get_or word i 0) (digit_at word i number.0.1 more)) ∙ is)

pub too_great : (word : List ℕ) (i max value : ℕ) → value ≡ digits_value 10 (take i word) → max < value
    → ¬ (IsNumeral 10 word × (digits_value 10 word ≤ max))
too_great word i max value is past number =
    let front = digits_value-take-le 10 word i (omega arith) in
    let most = number.1 in
    omega (arith, is, past, front, most)

-- ---- what is shown

pub shown_digits : (n : ℕ) → n < 2 ^ 64 → IsNumeral 10 (decimal n)
shown_digits n few = (decimal_is_IsNumeral n few).0

pub shown_value : (n : ℕ) → n < 2 ^ 64 → digits_value 10 (decimal n) ≡ n
shown_value n few = (decimal_is_IsNumeral n few).1

plain_digit : (c : ℕ) → IsInRange 48 57 c → is_special c ≡ false
plain_digit c is = search rules

plain_digits : (ds : List ℕ) → AllDigits 10 ds → AllByRecursion (λ octet. is_special octet ≡ false) ds
plain_digits [] are = tt
plain_digits (c ∷ ds) are = (plain_digit c (digit_from_value c are.0), plain_digits ds are.1)

pub shown_word : (n : ℕ) → n < 2 ^ 64 → IsWord (decimal n)
shown_word n few =
    let is = shown_digits n few in
    plain_word (decimal n) is.0
    (All-from_recursion (λ octet. is_special octet ≡ false) (decimal n) (plain_digits (decimal n) is.1))

pub shown_short : (n : ℕ) → n < 2 ^ 32 → length (decimal n) ≤ 10
shown_short n few = length-decimal-le 10 n (omega arith) (omega arith) (omega arith)
