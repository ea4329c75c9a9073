-- Years and months in days, one by one.
use Rattle.std.proofs.Common.{◌≡◌, ℕ, ◌+◌, suc, refl, add-one, Bool, true, false, if◌then◌else◌}
use Rattle.rasta_run.specs.Calendar.{days_of_month, days_of_months, days_of_year, days_of_years, is_leap}

-- no year has no day
pub no_years : days_of_years 0 ≡ 0
unfolding days_of_years
no_years = refl

-- one year more
pub more_years : (n : ℕ) → days_of_years (n + 1) ≡ days_of_years n + days_of_year n
unfolding days_of_years
more_years n = rw add-one refl

-- no month has no day
pub no_months : (leap : Bool) → days_of_months leap 0 ≡ 0
unfolding days_of_months
no_months leap = refl

-- one month more
pub more_months : (leap : Bool) (n : ℕ) → days_of_months leap (n + 1) ≡ days_of_months leap n + days_of_month leap n
unfolding days_of_months
more_months leap n = rw add-one refl

-- the months of a leap year, and of another
of_leap : (leap : Bool) → days_of_months leap 12 ≡ (if leap then 366 else 365)
unfolding days_of_months
of_leap true = refl
of_leap false = refl

-- twelve months are a year
pub months_of_year : (years : ℕ) → days_of_months (is_leap (1970 + years)) 12 ≡ days_of_year years
months_of_year years = of_leap (is_leap (1970 + years))

-- the last month has 31 days
pub last_month : (leap : Bool) → days_of_months leap 12 ≡ days_of_months leap 11 + 31
unfolding days_of_months
last_month true = refl
last_month false = refl
