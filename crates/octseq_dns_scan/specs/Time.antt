-- The times of RRSIG records: RFC 4034, 3.2. Days are those of the Gregorian calendar, and each has 86,400 seconds.
use Rattle.std.specs.Prelude.{◌≡◌, ℕ, zero, suc, ◌+◌, ◌-◌, ◌*◌, ◌/◌, ◌%◌, ◌<◌, ◌≤◌, ◌==◌, Bool, not, ◌&&◌, ◌||◌}
use Rattle.std.specs.Prelude.{if◌then◌else◌, List, length}
use Rattle.std.specs.Str.Parse.{IsNumeral, digits_value}

-- a year has a day more if 4 divides it, but not 100, or if 400 does
abbrev pub is_leap_year : ℕ → Bool
is_leap_year year = year % 4 == 0 && (not (year % 100 == 0) || year % 400 == 0)

abbrev pub days_of_year : ℕ → ℕ
days_of_year year = if is_leap_year year then 366 else 365

-- the number of days of a month, in a leap year or another
abbrev pub days_of_month : Bool → ℕ → ℕ
days_of_month leap month = if month == 2 then (if leap then 29 else 28)
    else (if month == 4 || month == 6 || month == 9 || month == 11 then 30 else 31)

-- the days of so many years from 1970 on
abbrev pub days_of_years : ℕ → ℕ
days_of_years zero = 0
days_of_years (suc years) = days_of_years years + days_of_year (1970 + years)

-- the days of the first months of a year
abbrev pub days_of_months : Bool → ℕ → ℕ
days_of_months leap zero = 0
days_of_months leap (suc months) = days_of_months leap months + days_of_month leap (suc months)

-- the parts of a number whose digits are YYYYMMDD
abbrev pub year_of : ℕ → ℕ
year_of date = date / 10000

abbrev pub month_of : ℕ → ℕ
month_of date = date / 100 % 100

abbrev pub day_of : ℕ → ℕ
day_of date = date % 100

-- there is such a day, from 1970 on
abbrev pub IsDay : ℕ → Type 0
IsDay date = (1970 ≤ year_of date) × (1 ≤ month_of date) × (month_of date ≤ 12) × (1 ≤ day_of date)
    × (day_of date ≤ days_of_month (is_leap_year (year_of date)) (month_of date))

-- the number of days from 1970-01-01 to a day
abbrev pub days_before : ℕ → ℕ
days_before date = days_of_years (year_of date - 1970)
    + days_of_months (is_leap_year (year_of date)) (month_of date - 1) + (day_of date - 1)

-- the parts of a number whose digits are HHmmSS
abbrev pub hour_of : ℕ → ℕ
hour_of clock = clock / 10000

abbrev pub minute_of : ℕ → ℕ
minute_of clock = clock / 100 % 100

abbrev pub second_of : ℕ → ℕ
second_of clock = clock % 100

abbrev pub IsClock : ℕ → Type 0
IsClock clock = (hour_of clock < 24) × (minute_of clock < 60) × (second_of clock < 60)

abbrev pub seconds_before : ℕ → ℕ
seconds_before clock = hour_of clock * 3600 + minute_of clock * 60 + second_of clock

-- a number whose digits are YYYYMMDDHHmmSS: there is such a time, and it is so many seconds after 1970-01-01T00:00:00Z
abbrev pub IsMoment : ℕ → Type 0
IsMoment number = IsDay (number / 1000000) × IsClock (number % 1000000)

abbrev pub seconds_of : ℕ → ℕ
seconds_of number = days_before (number / 1000000) * 86400 + seconds_before (number % 1000000)

-- A word is a time: fourteen digits of a date and a time of day, whose seconds count modulo 2^32 (RFC 1982), or one to
-- ten digits of a number below 2^32.
pub data IsTime (word : List ℕ) (time : ℕ) : Type 0 where
  moment : length word ≡ 14 → IsNumeral 10 word → IsMoment (digits_value 10 word)
      → time ≡ seconds_of (digits_value 10 word) % 4294967296 → IsTime word time
  number : length word ≤ 10 → IsNumeral 10 word → digits_value 10 word ≤ 4294967295 → time ≡ digits_value 10 word
      → IsTime word time
