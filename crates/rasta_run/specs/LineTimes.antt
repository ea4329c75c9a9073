-- The time at the start of a line of the log: that of the run, or UTC.
use Rattle.std.specs.Prelude.{◌≡◌, ◌⊎◌, ℕ, ◌+◌, ◌/◌, ◌%◌, ◌≤◌, ◌++◌, ◌-◌, ◌^◌, ◌==◌, min, drop, List, [], ◌∷◌, codes, not, Bool, true, false, Option, Some, None}
use Rattle.std.specs.Fmt.{decimal}
use Rattle.std.specs.List.{position}
use Rattle.std.specs.Io.KnownBytes.{Appends}
use Rattle.pdu_text.specs.Lines.{join_pieces}
use Rattle.pdu_text.specs.LogLines.{end_event_text}
use Rattle.pdu_text.specs.Pieces.{digit, log_line, three_digits}
use Rattle.pdu_text.specs.declared.lines.EndEvent.{EndEvent}
use Rattle.rasta_run.specs.Calendar.{IsDate, days_of_years, years_most}
use Rattle.rasta_run.specs.Notices.{notice_line}
use Rattle.rasta_run.specs.Silence.{silence_event}
use Rattle.rasta_run.specs.LogEvents.{is_off}
use Rattle.rasta_run.specs.declared.calendar.Date.{Date}
use Rattle.rasta_run.specs.declared.log.Log.{Log}
use Rattle.rasta_run.specs.declared.silence.SilenceChange.{SilenceChange}
use Rattle.rasta_run.specs.declared.notices.Notice.{Notice}
use Rattle.rasta_run.specs.declared.line_times.Stamp.{Stamp}
use Rattle.rasta_words.specs.declared.status.LogTime.{LogTime}
use Rattle.rasta_words.specs.declared.status.LogTime.TheVariants.{Utc, Run}

-- the milliseconds of a day
abbrev pub day_length : ℕ
day_length = 86_400_000

-- the last two decimal digits
abbrev pub two_digits : ℕ → List ℕ
two_digits n = digit 10 n ∷ digit 1 n ∷ []

-- the last four decimal digits
abbrev pub four_digits : ℕ → List ℕ
four_digits n = digit 1000 n ∷ digit 100 n ∷ digit 10 n ∷ digit 1 n ∷ []

-- YEAR-MONTH-DAY
unfoldable pub date_text : Date → List ℕ
date_text d =
    join_pieces (four_digits (1970 + d.years) ∷ codes "-" ∷ two_digits (d.months + 1) ∷ codes "-" ∷
    two_digits (d.days + 1) ∷ [])

-- two digits, and a text after them
unfoldable pub pair_text : ℕ → List ℕ → List ℕ
pair_text n text = join_pieces (two_digits n ∷ text ∷ [])

-- HOUR:MINUTE:SECOND.MILLISECOND, of milliseconds of a day
unfoldable pub clock_text : ℕ → List ℕ
clock_text ms =
    join_pieces
    (pair_text (ms / 3_600_000) (codes ":") ∷ pair_text (ms / 60_000 % 60) (codes ":") ∷
    pair_text (ms / 1_000 % 60) (codes ".")
    ∷ three_digits (ms % 1_000) ∷ [])

-- the date and the time of day, in UTC
unfoldable pub utc_text : Date → ℕ → List ℕ
utc_text d ms = join_pieces (date_text d ∷ codes "T" ∷ clock_text ms ∷ codes "Z" ∷ [])

-- a list from a place on, or all of it
abbrev pub from_place : Option ℕ → List ℕ → List ℕ
from_place None line = line
from_place (Some place) line = drop place line

-- a line after the time at its start: from the first blank on
abbrev pub after_time : List ℕ → List ℕ
after_time line = from_place (position (λ octet. octet == 32) line) line

-- a line is written with this time in UTC, in milliseconds since 1970, in place of that of the run; unless its year has
-- five digits
abbrev pub StampsUtc : (at : ℕ) → (line written : List ℕ) → Type 0
StampsUtc at line written =
    ((d : Date) × IsDate (at / day_length) d × (written ≡ utc_text d (at % day_length) ++ after_time line))
    ⊎ ((days_of_years years_most ≤ at / day_length) × (written ≡ line))

-- a line is written with the time that the log has
abbrev pub StampsLine : LogTime → (at : ℕ) → (line written : List ℕ) → Type 0
StampsLine Run at line written = written ≡ line
StampsLine Utc at line written = StampsUtc at line written

-- the time in UTC, in milliseconds since 1970, at a time of the run
abbrev pub utc_at : Log → ℕ → ℕ
utc_at log now = min (log.zero + now) (2 ^ 64 - 1)

-- the time for the lines of telegrams taken at a time of the run, if they have one
abbrev pub stamp_if : Bool → Log → ℕ → Option Stamp
stamp_if true log now = Some (record { time = log.time; at = utc_at log now; now = now })
stamp_if false log now = None

-- the same, as the log has it
abbrev pub stamp_of : Log → ℕ → Option Stamp
stamp_of log now = stamp_if log.stamps log now

-- SECONDS.MILLISECONDS of the run, and a blank
unfoldable pub run_text : ℕ → List ℕ
run_text now = join_pieces (decimal (now / 1000) ∷ codes "." ∷ three_digits (now % 1000) ∷ codes " " ∷ [])

-- the line of a telegram is written as it is, or after the time that a line of the log has
abbrev pub StampsTake : Option Stamp → (line written : List ℕ) → Type 0
StampsTake None line written = written ≡ line
StampsTake (Some s) line written = StampsLine s.time s.at (run_text s.now ++ line) written

-- a line was written to the log at this time of the run
abbrev pub LogsLine : Log → ℕ → List ℕ → Option (List ℕ) → Option (List ℕ) → Type 0
LogsLine log now line before after =
    (written : List ℕ) × StampsLine log.time (utc_at log now) line written × Appends before after written

-- a line was written to the log, or nothing
abbrev pub LogsLineIf : Bool → Log → ℕ → List ℕ → Option (List ℕ) → Option (List ℕ) → Type 0
LogsLineIf true log now line before after = LogsLine log now line before after
LogsLineIf false log now line before after = Appends before after []

-- an event was logged, if it is one that the log has
abbrev pub LogsEvent : Bool → Log → ℕ → EndEvent → Option (List ℕ) → Option (List ℕ) → Type 0
LogsEvent told log now h before after = LogsLineIf told log now (log_line now log.side (end_event_text h)) before after

-- a notice was logged, if there is one and the log is not off
abbrev pub LogsNotice : Option Notice → Log → ℕ → Option (List ℕ) → Option (List ℕ) → Type 0
LogsNotice None log now before after = Appends before after []
LogsNotice (Some notice) log now before after =
    LogsLineIf (not (is_off log.level)) log now (notice_line now log.side notice) before after

-- an event of a channel was logged, if there is one and the log is not off
abbrev pub LogsSome : Option EndEvent → Log → ℕ → Option (List ℕ) → Option (List ℕ) → Type 0
LogsSome None log now before after = Appends before after []
LogsSome (Some h) log now before after = LogsEvent (not (is_off log.level)) log now h before after

-- the change of a channel, numbered from 1, was logged, if it is one and the log is not off
abbrev pub LogsChange : SilenceChange → (channel : ℕ) → Log → ℕ → Option (List ℕ) → Option (List ℕ) → Type 0
LogsChange said channel log now before after = LogsSome (silence_event said channel) log now before after
