-- The step of a capture's line, and what is printed of it.
use Rattle.std.specs.Prelude.{ℕ, ◌+◌, ◌-◌, ◌*◌, ◌/◌, ◌^◌, ◌||◌, Bool, true, false, List, [], ◌++◌, length, not, nat_le, min, max, if◌then◌else◌, Option, Some, None, is_none, Result, Ok, Err}
use Rattle.capture.specs.declared.connections.Connection.{Connection}
use Rattle.capture.specs.declared.follower.Remark.{Remark}
use Rattle.capture.specs.declared.follower.Totals.{Totals}
use Rattle.capture.specs.declared.datagram.DecodedDatagram.{DecodedDatagram}
use Rattle.capture.specs.declared.line.LineFault.{LineFault}
use Rattle.capture.specs.declared.line.Record.{Record}
use Rattle.capture.specs.Datagrams.{datagram_of}
use Rattle.capture.specs.Lines.{Line}
use Rattle.capture.specs.Numbers.{limited_sum}
use Rattle.capture.specs.Instants.{is_within}
use Rattle.capture.specs.Ports.{is_chosen}
use Rattle.capture.specs.WholeCapture.{connections_after, damaged_count_after, forgotten_count_after, forgotten_totals_after, miscoded_count_after, remark_of, totals_of}
use Rattle.std.specs.Io.BufRead.{ends_with_byte, strip_last}
use Rattle.capture_text.specs.Advice.{advice_lines}
use Rattle.capture_text.specs.Choice.{is_asked}
use Rattle.capture_text.specs.EventText.{event_lines}
use Rattle.capture_text.specs.FaultText.{fault_text}
use Rattle.capture_text.specs.Json.{sums_json}
use Rattle.capture_text.specs.RecordText.{record_text}
use Rattle.capture_text.specs.SummaryText.{summary_text}
use Rattle.capture_text.specs.Telegrams.{telegram_lines}
use Rattle.capture_text.specs.declared.course.FollowOptions.{FollowOptions}
use Rattle.capture_text.specs.declared.course.SkipCause.{SkipCause}
use Rattle.capture_text.specs.declared.course.SkipCause.TheVariants.{Chosen, Fault}
use Rattle.capture_text.specs.declared.frames.SkipReason.{SkipReason}
use Rattle.capture_text.specs.declared.frames.SkipReason.TheVariants.{Port, Time, NoIp, NoUdp, Tunnel}
use Rattle.capture_text.specs.declared.skips.SkipCounts.{SkipCounts}
use Rattle.capture_text.specs.declared.course.OutputForm.{OutputForm}
use Rattle.capture_text.specs.declared.course.OutputForm.TheVariants.{Lines, Json, Events}
use Rattle.capture_text.specs.declared.summary.CaptureCounts.{CaptureCounts}
use Rattle.capture_text.specs.declared.summary.Scale.{Scale}

-- The record of a line that was read, with the size of its payload.
abbrev pub record_of : Line → Record
record_of l = record { time = l.time; source = l.source; destination = l.destination; size = length l.payload }

-- The time of the first datagram.
abbrev pub first_of : Option ℕ → ℕ → ℕ
first_of None time = time
first_of (Some first) time = first

-- Why a datagram is passed over: it has no chosen port, or its time is not asked for.
abbrev pub skip_reason : FollowOptions → Option ℕ → Record → Option SkipReason
skip_reason a first r =
    if not (is_chosen a.ports r) then Some Port
    else if is_within a.span (first_of first r.time) r.time then None
    else Some (Time r.time)

-- The time of the first datagram after something that is passed over; the first datagram need not be followed.
abbrev pub first_skipped : Option ℕ → SkipReason → Option ℕ
first_skipped first (Time time) = Some (first_of first time)
first_skipped first Port = first
first_skipped first NoIp = first
first_skipped first NoUdp = first
first_skipped first Tunnel = first

-- A datagram with its decoding, or why it is passed over.
abbrev pub datagram_if : Option SkipReason → FollowOptions → Record → List ℕ
    → Result (Record × DecodedDatagram) SkipCause
datagram_if None a r octets = Ok (r, datagram_of a.rule octets)
datagram_if (Some why) a r octets = Err (Chosen why)

-- A datagram with its decoding, if it is followed.
abbrev pub followed_datagram : FollowOptions → Option ℕ → Record → List ℕ → Result (Record × DecodedDatagram) SkipCause
followed_datagram a first r octets = datagram_if (skip_reason a first r) a r octets

-- The decoded datagram of a line, or why none is followed.
abbrev pub line_datagram : FollowOptions → Option ℕ → Result Line LineFault
    → Result (Record × DecodedDatagram) SkipCause
line_datagram a first (Ok l) = followed_datagram a first (record_of l) l.payload
line_datagram a first (Err fault) = Err (Fault fault)

-- The payload of a line; empty if it is not a datagram.
abbrev pub payload_in : Result Line LineFault → List ℕ
payload_in (Ok l) = l.payload
payload_in (Err fault) = []

-- The remark on the datagram of a line.
abbrev pub line_remark : List Connection → ℕ → Result (Record × DecodedDatagram) SkipCause
    → Result (Record × Remark) SkipCause
line_remark cs number (Ok h) = Ok (h.0, remark_of cs number h.0 h.1)
line_remark cs number (Err why) = Err why

-- The connections after a line; one that is not a datagram, or is passed over, changes nothing.
abbrev pub connections_after_line : List Connection → ℕ → Result (Record × DecodedDatagram) SkipCause → List Connection
connections_after_line cs number (Ok h) = connections_after cs number h.0 h.1
connections_after_line cs number (Err why) = cs

-- The count of datagrams after a line.
abbrev pub datagrams_after_line : ℕ → Result (Record × DecodedDatagram) SkipCause → ℕ
datagrams_after_line datagrams (Ok h) = limited_sum datagrams 1
datagrams_after_line datagrams (Err why) = datagrams

-- The sums of forgotten connections after a line.
abbrev pub forgotten_totals_after_line : Totals → List Connection → Result (Record × DecodedDatagram) SkipCause → Totals
forgotten_totals_after_line gone cs (Ok h) = forgotten_totals_after gone cs h.0 h.1
forgotten_totals_after_line gone cs (Err why) = gone

-- The count of damaged datagrams after a line.
abbrev pub damaged_count_after_line : ℕ → Result (Record × DecodedDatagram) SkipCause → ℕ
damaged_count_after_line damaged (Ok h) = damaged_count_after damaged h.1
damaged_count_after_line damaged (Err why) = damaged

-- The count of datagrams with another safety code after a line.
abbrev pub miscoded_count_after_line : Option ℕ → Result (Record × DecodedDatagram) SkipCause → Option ℕ
miscoded_count_after_line miscoded (Ok h) = miscoded_count_after miscoded h.1
miscoded_count_after_line miscoded (Err why) = miscoded

-- The count of forgotten connections after a line.
abbrev pub forgotten_count_after_line : ℕ → List Connection → Result (Record × DecodedDatagram) SkipCause → ℕ
forgotten_count_after_line forgotten cs (Ok h) = forgotten_count_after forgotten cs h.0 h.1
forgotten_count_after_line forgotten cs (Err why) = forgotten

-- The telegrams of a datagram, if they are asked for.
abbrev pub asked_telegrams : FollowOptions → List ℕ → List ℕ
asked_telegrams a octets = if a.messages then telegram_lines a.rule octets else []

-- What times and waits are measured by.
abbrev pub scale_from : FollowOptions → ℕ → Scale
scale_from a first = record { clock = record { first = first; form = a.time }; t_max = a.t_max }

-- A datagram in this form: its line and telegrams, or its events.
abbrev pub form_text : OutputForm → FollowOptions → ℕ → ℕ → Record → Remark → List ℕ → List ℕ
form_text Lines a first number r m octets = record_text (scale_from a first) number r m ++ asked_telegrams a octets
form_text Json a first number r m octets = []
form_text Events a first number r m octets = event_lines (scale_from a first) number r m

-- The text of a datagram, if its remark is chosen.
abbrev pub chosen_text : FollowOptions → ℕ → ℕ → Record → Remark → List ℕ → List ℕ
chosen_text a first number r m octets =
    if is_asked a.only a.t_max m then form_text a.form a first number r m octets else []

-- What is printed of a line.
abbrev pub line_text : FollowOptions → Option ℕ → ℕ → List ℕ → Result (Record × Remark) SkipCause → List ℕ
line_text a first number octets (Ok f) = chosen_text a (first_of first f.0.time) number f.0 f.1 octets
line_text a first number octets (Err why) = []

-- The time of the first datagram after a line.
abbrev pub first_time_after_line : Option ℕ → Result (Record × Remark) SkipCause → Option ℕ
first_time_after_line first (Ok f) = Some (first_of first f.0.time)
first_time_after_line first (Err (Chosen why)) = first_skipped first why
first_time_after_line first (Err (Fault fault)) = first

-- The time of the last datagram after a line.
abbrev pub latest_time_after_line : ℕ → Result (Record × Remark) SkipCause → ℕ
latest_time_after_line latest (Ok f) = f.0.time
latest_time_after_line latest (Err why) = latest

-- Sums are due at a time.
abbrev pub is_due : Option ℕ → ℕ → Bool
is_due None time = false
is_due (Some due) time = nat_le due time

-- The microseconds of a period in seconds, at least one.
abbrev pub period_of : ℕ → ℕ
period_of seconds = max seconds 1 * 1000000

-- The next time after whole periods since the first datagram.
abbrev pub next_period : ℕ → ℕ → ℕ → ℕ
next_period seconds first time =
    limited_sum first (min (((time - first) / period_of seconds + 1) * period_of seconds) (2 ^ 64 - 1))

-- When sums are due next, after a datagram at this time.
abbrev pub due_with : ℕ → Option ℕ → ℕ → ℕ → Option ℕ
due_with seconds due first time =
    if is_due due time || is_none due then Some (next_period seconds first time) else due

-- When sums are due next: without a period, or before the first datagram, they are not.
abbrev pub due_next : Option ℕ → Option ℕ → Option ℕ → ℕ → Option ℕ
due_next (Some seconds) due (Some first) time = due_with seconds due first time
due_next _ due _ time = None

-- What is printed if it is due.
abbrev pub due_text : Bool → List ℕ → List ℕ
due_text true text = text
due_text false text = []

-- The count of unreadable lines after a line.
abbrev pub unreadable_count_after_line : ℕ → Result (Record × Remark) SkipCause → ℕ
unreadable_count_after_line unreadable (Ok f) = unreadable
unreadable_count_after_line unreadable (Err (Fault fault)) = limited_sum unreadable 1
unreadable_count_after_line unreadable (Err (Chosen why)) = unreadable

-- The fault of a line that is not a datagram.
abbrev pub fault_in : Result (Record × Remark) SkipCause → Option LineFault
fault_in (Ok f) = None
fault_in (Err (Fault fault)) = Some fault
fault_in (Err (Chosen why)) = None

-- The counts of a course.
abbrev pub counts_of : ℕ → ℕ → ℕ → ℕ → ℕ → SkipCounts → CaptureCounts
counts_of datagrams damaged forgotten unreadable frames passed =
    record {
      datagrams = datagrams;
      damaged = damaged;
      forgotten = forgotten;
      unreadable = unreadable;
      frames = frames;
      passed = passed;
    }

-- The sums in this form, with distributions and settings if they are asked for (`true`).
abbrev pub sums_in : OutputForm → Bool → Scale → List Connection → Totals → CaptureCounts → List ℕ
sums_in Lines choose s cs t counts = summary_text s cs t counts ++ advice_lines choose cs
sums_in Json choose s cs t counts = sums_json s cs t counts choose
sums_in Events choose s cs t counts = sums_json s cs t counts choose

-- The sums over all lines so far.
abbrev pub course_text : FollowOptions → Option ℕ → Totals → List Connection → CaptureCounts → List ℕ
course_text a first gone cs counts =
    sums_in a.form a.choose (scale_from a (first_of first 0)) cs (totals_of gone cs) counts

-- The line of a fault, if there is one.
abbrev pub fault_lines : ℕ → Option LineFault → List ℕ
fault_lines number None = []
fault_lines number (Some fault) = fault_text number fault

-- A line without its line feed, and without a carriage return before it.
abbrev pub without_end : List ℕ → List ℕ
without_end line = if ends_with_byte 10 line then strip_last 13 (strip_last 10 line) else line
