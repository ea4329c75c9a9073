-- The Gregorian calendar from 1970 on: years and months in days.
use Rattle.std.specs.Prelude.{◌≡◌, ℕ, zero, suc, ◌+◌, ◌%◌, ◌<◌, nat_eq, not, ◌&&◌, ◌||◌, Bool, true, false, if◌then◌else◌}
use Rattle.rasta_run.specs.declared.calendar.Date.{Date}

-- a leap year: each fourth, but of the hundredth only each four hundredth
abbrev pub is_leap : ℕ → Bool
is_leap year = nat_eq (year % 4) 0 && (not (nat_eq (year % 100) 0) || nat_eq (year % 400) 0)

-- the days of the year that is this many years after 1970
abbrev pub days_of_year : ℕ → ℕ
days_of_year years = if is_leap (1970 + years) then 366 else 365

-- the days of the first years
unfoldable pub days_of_years : ℕ → ℕ
days_of_years zero = 0
days_of_years (suc years) = days_of_years years + days_of_year years

-- a month has 30 days: April, June, September and November, counted from 0
abbrev pub is_short : ℕ → Bool
is_short months = nat_eq months 3 || (nat_eq months 5 || (nat_eq months 8 || nat_eq months 10))

-- the days of February
abbrev pub days_of_february : (leap : Bool) → ℕ
days_of_february true = 29
days_of_february false = 28

-- the days of a month, counted from 0
abbrev pub days_of_month : (leap : Bool) → ℕ → ℕ
days_of_month leap months = if nat_eq months 1 then days_of_february leap else if is_short months then 30 else 31

-- the days of the first months of a year
unfoldable pub days_of_months : (leap : Bool) → ℕ → ℕ
days_of_months leap zero = 0
days_of_months leap (suc months) = days_of_months leap months + days_of_month leap months

-- the number of years that have four digits, from 1970 on
abbrev pub years_most : ℕ
years_most = 8_030

-- a date is this many days after the first of January 1970: it has whole years, then whole months of the next year,
-- then days of the next month
pub record IsDate (days : ℕ) (d : Date) : Type 0 where
  pub sum : days_of_years d.years + (days_of_months (is_leap (1970 + d.years)) d.months + d.days) ≡ days
  pub years : d.years < years_most
  pub months : d.months < 12
  pub days_left : d.days < days_of_month (is_leap (1970 + d.years)) d.months
  pub short : d.days < 31
