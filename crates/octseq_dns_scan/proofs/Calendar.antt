-- The days of years and months, counted.
use Rattle.std.proofs.Common.{◌≡◌, ℕ, zero, suc, ◌+◌, ◌-◌, ◌*◌, ◌^◌, ◌/◌, ◌%◌, ◌<◌, ◌≤◌, Bool, true, false}
use Rattle.std.proofs.Common.{eqb, not, ◌&&◌, ◌||◌}
use Rattle.std.proofs.Common.{if◌then◌else◌, List, length, refl, sym, ap, ◌∙◌, subst, arith}
use Rattle.std.proofs.Math.Bool.{true≢false}
use Rattle.std.proofs.lemmas.Bool.{eqb-true, eq-eqb}
use Rattle.std.proofs.lemmas.Int.Digits.{digits_value-lt}
use Rattle.std.specs.Str.Parse.{IsNumeral, digits_value}
use Rattle.octseq_dns_scan.specs.Time.{days_of_year, days_of_month, days_of_years, days_of_months, IsTime}

-- ---- months

pub months_step : (leap : Bool) (month : ℕ) → 1 ≤ month
    → days_of_months leap (month + 1 - 1) ≡ days_of_months leap (month - 1) + days_of_month leap month
months_step leap zero some = absurd (omega (arith, some))
months_step leap (suc months) some =
    let up : suc months + 1 - 1 ≡ suc months = omega arith in
    let down : suc months - 1 ≡ months = omega arith in
    ap (days_of_months leap) up ∙ ap (λ m. days_of_months leap m + days_of_month leap (suc months)) (sym down)

-- ---- years

-- the closed form of the days of so many years from 1970 on
abbrev counted : ℕ → ℕ
counted years = 365 * years + (years + 1) / 4 + (years + 369) / 400 - (years + 69) / 100

four_yes : (y : ℕ) → (1970 + y) % 4 ≡ 0 → (y + 1 + 1) / 4 ≡ (y + 1) / 4 + 1
four_yes y is = omega (arith, is)

four_no : (y : ℕ) → ¬ ((1970 + y) % 4 ≡ 0) → (y + 1 + 1) / 4 ≡ (y + 1) / 4
four_no y is = omega (arith, is)

hundred_yes : (y : ℕ) → (1970 + y) % 100 ≡ 0 → (y + 1 + 69) / 100 ≡ (y + 69) / 100 + 1
hundred_yes y is = omega (arith, is)

hundred_no : (y : ℕ) → ¬ ((1970 + y) % 100 ≡ 0) → (y + 1 + 69) / 100 ≡ (y + 69) / 100
hundred_no y is = omega (arith, is)

both_yes : (y : ℕ) → (1970 + y) % 400 ≡ 0 → (y + 1 + 369) / 400 ≡ (y + 369) / 400 + 1
both_yes y is = omega (arith, is)

both_no : (y : ℕ) → ¬ ((1970 + y) % 400 ≡ 0) → (y + 1 + 369) / 400 ≡ (y + 369) / 400
both_no y is = omega (arith, is)

-- 400 divides no year that 100 doesn't, and 100 none that 4 doesn't
four_of_hundred : (n : ℕ) → n % 100 ≡ 0 → n % 4 ≡ 0
four_of_hundred n is = omega (arith, is)

hundred_of_both : (n : ℕ) → n % 400 ≡ 0 → n % 100 ≡ 0
hundred_of_both n is = omega (arith, is)

differ : (n : ℕ) → eqb n 0 ≡ false → ¬ (n ≡ 0)
differ n is same = true≢false (sym (eq-eqb n 0 same) ∙ is)

few_hundreds : (y : ℕ) → (y + 69) / 100 ≤ 365 * y + (y + 1) / 4 + (y + 369) / 400
few_hundreds y = omega arith

year_step : (y : ℕ) (a b c : Bool) → eqb ((1970 + y) % 4) 0 ≡ a → eqb ((1970 + y) % 100) 0 ≡ b
    → eqb ((1970 + y) % 400) 0 ≡ c
    → counted y + (if a && (not b || c) then 366 else 365) ≡ counted (y + 1)
year_step y true true true four hundred both =
    let p = four_yes y (eqb-true ((1970 + y) % 4) 0 four) in
    let q = hundred_yes y (eqb-true ((1970 + y) % 100) 0 hundred) in
    let r = both_yes y (eqb-true ((1970 + y) % 400) 0 both) in
    let s = few_hundreds y in omega (arith, p, q, r, s)
year_step y true true false four hundred both =
    let p = four_yes y (eqb-true ((1970 + y) % 4) 0 four) in
    let q = hundred_yes y (eqb-true ((1970 + y) % 100) 0 hundred) in
    let r = both_no y (differ ((1970 + y) % 400) both) in
    let s = few_hundreds y in omega (arith, p, q, r, s)
year_step y true false true four hundred both =
    absurd (differ ((1970 + y) % 100) hundred (hundred_of_both (1970 + y) (eqb-true ((1970 + y) % 400) 0 both)))
year_step y true false false four hundred both =
    let p = four_yes y (eqb-true ((1970 + y) % 4) 0 four) in
    let q = hundred_no y (differ ((1970 + y) % 100) hundred) in
    let r = both_no y (differ ((1970 + y) % 400) both) in
    let s = few_hundreds y in omega (arith, p, q, r, s)
year_step y false true c four hundred both =
    absurd (differ ((1970 + y) % 4) four (four_of_hundred (1970 + y) (eqb-true ((1970 + y) % 100) 0 hundred)))
year_step y false false true four hundred both =
    absurd (differ ((1970 + y) % 100) hundred (hundred_of_both (1970 + y) (eqb-true ((1970 + y) % 400) 0 both)))
year_step y false false false four hundred both =
    let p = four_no y (differ ((1970 + y) % 4) four) in
    let q = hundred_no y (differ ((1970 + y) % 100) hundred) in
    let r = both_no y (differ ((1970 + y) % 400) both) in
    let s = few_hundreds y in omega (arith, p, q, r, s)

pub years_counted : (years : ℕ) → days_of_years years ≡ counted years
years_counted zero = refl
years_counted (suc years) =
    ap (λ n. n + days_of_year (1970 + years)) (years_counted years)
    ∙ year_step years (eqb ((1970 + years) % 4) 0) (eqb ((1970 + years) % 100) 0) (eqb ((1970 + years) % 400) 0)
    refl refl refl
    ∙ ap counted (let e : years + 1 ≡ suc years = omega arith in e)

-- ---- words

pub time_once : (word : List ℕ) (time other : ℕ) → IsTime word time → IsTime word other → time ≡ other
time_once word time other (IsTime.moment long digits is same) (IsTime.moment long_too digits_too is_too other_same) =
    same ∙ sym other_same
time_once word time other (IsTime.moment long digits is same) (IsTime.number short other_digits few other_same) =
    absurd (omega (arith, long, short))
time_once word time other (IsTime.number short digits few same) (IsTime.moment long other_digits other_is other_same) =
    absurd (omega (arith, long, short))
time_once word time other (IsTime.number short digits few same) (IsTime.number short_too digits_too few_too also) =
    same ∙ sym also

-- fourteen octets that aren't a number of fourteen digits are no time
pub no_moment : (word : List ℕ) (time : ℕ) → length word ≡ 14
    → ¬ (IsNumeral 10 word × (digits_value 10 word ≤ 99999999999999)) → ¬ IsTime word time
no_moment word time long not (IsTime.moment also digits is same) =
    let below = digits_value-lt 10 word digits.1 in
    let few : digits_value 10 word < 10 ^ 14 = subst (λ n. digits_value 10 word < 10 ^ n) long below in
    not (digits, omega (arith, few))
no_moment word time long not (IsTime.number short digits few same) = omega (arith, long, short)
