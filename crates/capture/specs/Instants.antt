-- Instants that a user names, and the time between two of them.
use Rattle.std.specs.Prelude.{ℕ, ◌+◌, ◌-◌, ◌*◌, ◌/◌, ◌%◌, ◌^◌, ◌&&◌, ◌||◌, Bool, true, not, nat_eq, nat_lt, nat_le, min, List, length, if◌then◌else◌, Option, Some, None}
use Rattle.std.specs.Io.BufRead.{strip_last}
use Rattle.capture.specs.Times.{ten_to}
use Rattle.capture.specs.Words.{before, behind, marks, number_of}
use Rattle.capture.specs.declared.words.TheConstants.{SECONDS_MAX}
use Rattle.capture.specs.declared.instants.Instant.{Instant}
use Rattle.capture.specs.declared.instants.Instant.TheVariants.{Since, At}
use Rattle.capture.specs.declared.instants.Span.{Span}

-- The time of an instant, by the time of the first datagram, in microseconds since 1970.
abbrev pub moment_of : Instant → ℕ → ℕ
moment_of (Since micros) first = min (first + micros) (2 ^ 64 - 1)
moment_of (At micros) first = micros

-- The time is not before the instant, if there is one.
abbrev pub is_reached : Option Instant → ℕ → ℕ → Bool
is_reached None first time = true
is_reached (Some instant) first time = nat_le (moment_of instant first) time

-- The time is not after the instant, if there is one.
abbrev pub is_passed_by : Option Instant → ℕ → ℕ → Bool
is_passed_by None first time = true
is_passed_by (Some instant) first time = nat_le time (moment_of instant first)

-- The time is between both instants.
abbrev pub is_within : Span → ℕ → ℕ → Bool
is_within s first time = is_reached s.from first time && is_passed_by s.to first time

-- A number with this many digits after the point, in millionths.
abbrev pub millionths_of : Option ℕ → ℕ → Option ℕ
millionths_of (Some n) size = Some (n * 1000000 / ten_to size)
millionths_of None size = None

-- The whole microseconds of a fraction of one to nine digits.
abbrev pub fraction_of : List ℕ → Option ℕ
fraction_of digits =
    if nat_lt 9 (length digits) then None else millionths_of (number_of 999999999 digits) (length digits)

-- The microseconds of a number of seconds.
abbrev pub micros_of : Option ℕ → Option ℕ
micros_of (Some seconds) = Some (seconds * 1000000)
micros_of None = None

-- Microseconds from seconds and a fraction, if both were read.
abbrev pub with_fraction : Option ℕ → Option ℕ → Option ℕ
with_fraction (Some seconds) (Some micros) = Some (seconds * 1000000 + micros)
with_fraction _ _ = None

-- The microseconds of seconds, at most `most`, with or without a fraction.
abbrev pub seconds_of : ℕ → List ℕ → Option ℕ
seconds_of most text =
    if nat_eq (marks 46 text) 0 then micros_of (number_of most text)
    else if not (nat_eq (marks 46 text) 1) then None
    else with_fraction (number_of most (before 46 text)) (fraction_of (behind 46 text))

-- A number of exactly so many digits, at most `most`.
abbrev pub digits_of : ℕ → ℕ → List ℕ → Option ℕ
digits_of size most text = if not (nat_eq (length text) size) then None else number_of most text

-- A leap year: each fourth year, but each hundredth only if it is a four hundredth.
abbrev pub is_leap : ℕ → Bool
is_leap year = nat_eq (year % 4) 0 && (not (nat_eq (year % 100) 0) || nat_eq (year % 400) 0)

-- How many leap years there are from the year 1 to this one.
abbrev pub leaps : ℕ → ℕ
leaps year = year / 4 - year / 100 + year / 400

-- The number of days of a month.
abbrev pub days_in : ℕ → ℕ → ℕ
days_in year month =
    if nat_eq month 2 then (if is_leap year then 29 else 28)
    else if nat_eq month 4 || (nat_eq month 6 || (nat_eq month 9 || nat_eq month 11)) then 30
    else 31

-- The days before a month, in a year that is no leap year.
abbrev pub common_days : ℕ → ℕ
common_days month =
    if nat_eq month 2 then 31
    else if nat_eq month 3 then 59
    else if nat_eq month 4 then 90
    else if nat_eq month 5 then 120
    else if nat_eq month 6 then 151
    else if nat_eq month 7 then 181
    else if nat_eq month 8 then 212
    else if nat_eq month 9 then 243
    else if nat_eq month 10 then 273
    else if nat_eq month 11 then 304
    else if nat_eq month 12 then 334
    else 0

-- The days of a year before a month.
abbrev pub days_before : ℕ → ℕ → ℕ
days_before year month = if nat_lt 2 month && is_leap year then common_days month + 1 else common_days month

-- The days from the start of 1970 to a date.
abbrev pub day_number : ℕ → ℕ → ℕ → ℕ
day_number year month day = (year - 1970) * 365 + (leaps (year - 1) - 477) + days_before year month + day - 1

-- The days from the start of 1970 to a date, if there is such a date.
abbrev pub days_to : ℕ → ℕ → ℕ → Option ℕ
days_to year month day =
    if nat_lt year 1970 || (nat_lt month 1 || (nat_lt day 1 || nat_lt (days_in year month) day)) then None
    else Some (day_number year month day)

-- The days from the start of 1970 to a date, if its three numbers were read.
abbrev pub date_with : Option ℕ → Option ℕ → Option ℕ → Option ℕ
date_with (Some year) (Some month) (Some day) = days_to year month day
date_with _ _ _ = None

-- A date: a year of four digits, a month and a day of two, separated by hyphens.
abbrev pub date_of : List ℕ → Option ℕ
date_of text =
    if not (nat_eq (marks 45 text) 2) then None
    else
    date_with (digits_of 4 9999 (before 45 text)) (digits_of 2 12 (before 45 (behind 45 text)))
    (digits_of 2 31 (behind 45 (behind 45 text)))

-- Seconds of two digits, with or without a fraction.
abbrev pub short_seconds : List ℕ → Option ℕ
short_seconds text = if not (nat_eq (length (before 46 text)) 2) then None else seconds_of 59 text

-- Microseconds of hours, minutes and seconds, if all were read.
abbrev pub clock_with : Option ℕ → Option ℕ → Option ℕ → Option ℕ
clock_with (Some hour) (Some minute) (Some micros) = Some ((hour * 60 + minute) * 60000000 + micros)
clock_with _ _ _ = None

-- A text without one `Z` at its end.
abbrev pub without_zone : List ℕ → List ℕ
without_zone text = strip_last 90 text

-- A time of day: hours and minutes of two digits, then seconds, separated by colons.
abbrev pub clock_at : List ℕ → Option ℕ
clock_at text =
    if not (nat_eq (marks 58 text) 2) then None
    else
    clock_with (digits_of 2 23 (before 58 text)) (digits_of 2 59 (before 58 (behind 58 text)))
    (short_seconds (behind 58 (behind 58 text)))

-- A time of day in UTC, with or without a `Z`.
abbrev pub clock_of : List ℕ → Option ℕ
clock_of text = clock_at (without_zone text)

-- Microseconds of days and a time of day, if both were read.
abbrev pub day_with : Option ℕ → Option ℕ → Option ℕ
day_with (Some days) (Some micros) = Some (days * 86400000000 + micros)
day_with _ _ = None

-- A date and a time of day, in microseconds since 1970.
abbrev pub date_time_of : List ℕ → Option ℕ
date_time_of text = day_with (date_of (before 84 text)) (clock_of (behind 84 text))

-- An instant since 1970, if its time was read.
abbrev pub as_at : Option ℕ → Option Instant
as_at (Some micros) = Some (At micros)
as_at None = None

-- An instant since the first datagram, if its time was read.
abbrev pub as_since : Option ℕ → Option Instant
as_since (Some micros) = Some (Since micros)
as_since None = None

-- Seconds since 1970 after an `@`.
abbrev pub stamp_of : List ℕ → Option Instant
stamp_of text =
    if not (nat_eq (length (before 64 text)) 0) then None else as_at (seconds_of SECONDS_MAX (behind 64 text))

-- An instant: seconds since 1970 after an `@`, a date and time of day, or seconds since the first datagram.
abbrev pub instant_of : List ℕ → Option Instant
instant_of text =
    if nat_eq (marks 64 text) 1 then stamp_of text
    else if nat_eq (marks 84 text) 1 then as_at (date_time_of text)
    else as_since (seconds_of SECONDS_MAX text)
