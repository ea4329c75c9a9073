-- Dates of the Gregorian calendar. A year is taken to begin with March, so that a leap day is its last day.
use Rattle.std.specs.Prelude.{ℕ, ◌+◌, ◌-◌, ◌*◌, ◌/◌, ◌%◌, nat_lt, min, if◌then◌else◌}
use Rattle.capture_text.specs.declared.dates.TheConstants.{CENTURY, CYCLE, EPOCH, FOUR_YEARS, YEAR}
use Rattle.capture_text.specs.declared.dates.Date.{Date}
use Rattle.capture_text.specs.declared.dates.YearDay.{YearDay}

-- The whole centuries in days of 400 years; the last century is one day longer.
abbrev pub centuries_in : ℕ → ℕ
centuries_in days = min (days / CENTURY) 3

-- The days after the whole centuries.
abbrev pub in_century : ℕ → ℕ
in_century days = days - centuries_in days * CENTURY

-- The days after the whole times of four years.
abbrev pub in_four : ℕ → ℕ
in_four days = in_century days % FOUR_YEARS

-- The whole years of four; the last year is one day longer.
abbrev pub years_in : ℕ → ℕ
years_in days = min (in_four days / YEAR) 3

-- The year and its day, of days of 400 years.
abbrev pub year_day_of : ℕ → YearDay
year_day_of days =
    record {
      year = centuries_in days * 100 + in_century days / FOUR_YEARS * 4 + years_in days;
      day = in_four days - years_in days * YEAR;
    }

-- January and February, the months 10 and 11 from March, are of the next year.
abbrev pub years_before : ℕ → ℕ
years_before month = if nat_lt month 10 then 0 else 1

-- The number of a month that is counted from March.
abbrev pub month_from_march : ℕ → ℕ
month_from_march month = if nat_lt month 10 then month + 3 else month - 9

-- The month from March that has a day: five months have 153 days.
abbrev pub month_at : ℕ → ℕ
month_at day = (5 * day + 2) / 153

-- The date of a day of a year that begins with March.
abbrev pub date_on : YearDay → Date
date_on at =
    record {
      year = at.year + years_before (month_at at.day);
      month = month_from_march (month_at at.day);
      day = at.day - (153 * month_at at.day + 2) / 5 + 1;
    }

-- The date of a day that is counted from 1 March of the year 0: 400 years have the same number of days each.
abbrev pub date_from_march : ℕ → Date
date_from_march day =
    date_on (record {
      year = day / CYCLE * 400 + (year_day_of (day % CYCLE)).year;
      day = (year_day_of (day % CYCLE)).day;
    })

-- The date of a day that is counted from the start of 1970.
abbrev pub date_of : ℕ → Date
date_of days = date_from_march (days + EPOCH)
