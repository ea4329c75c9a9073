-- The printed counts of an end: a line for each channel, and one for the connection, in words or as JSON.
use Rattle.std.specs.Prelude.{ℕ, ◌+◌, ◌-◌, ◌*◌, ◌^◌, min, nat_le, Bool, true, false, not, ◌&&◌, List, [], ◌∷◌, codes, slice_index_or, Option, Some, None, if◌then◌else◌}
use Rattle.std.specs.Fmt.{decimal}
use Rattle.std.specs.List.{flat_map}
use Rattle.end_settings.specs.declared.Side.{Side}
use Rattle.rasta_run.specs.declared.counts.ChannelCounts.{ChannelCounts}
use Rattle.rasta_run.specs.declared.counts.RunCounts.{RunCounts}
use Rattle.rasta_run.specs.declared.counts_text.CountsPrinter.{CountsPrinter}
use Rattle.rasta_run.specs.declared.silence.ChannelSilence.{ChannelSilence}
use Rattle.rasta_run.specs.Counters.{accepted_count, dropped_count, failures_in, no_datagrams, oldest}
use Rattle.rasta_run.specs.Silence.{all_silences}
use Rattle.stack_end.specs.Statistics.{all_red_faults, no_reception_counts, sum}
use Rattle.stack_end.specs.declared.statistics.ReceptionCounts.{ReceptionCounts}
use Rattle.rasta_words.specs.declared.status.CountsRequest.{CountsRequest}
use Rattle.pdu_text.specs.Lines.{join_pieces}
use Rattle.rasta_run.specs.declared.counts_text.LineForm.{LineForm}
use Rattle.rasta_run.specs.declared.counts_text.LineForm.TheVariants.{Text, Json}
use Rattle.rasta_words.specs.declared.status.CountsForm.{CountsForm}
use Rattle.rasta_words.specs.declared.status.CountsForm.TheVariants as counts
use Rattle.pdu_text.specs.Names.{side_name}

-- a number with its name, in words
unfoldable pub worded_field : List ℕ → ℕ → List ℕ
worded_field name number = join_pieces (codes " " ∷ name ∷ codes " " ∷ decimal number ∷ [])

-- a number with its name, in JSON
unfoldable pub json_field : List ℕ → ℕ → List ℕ
json_field name number = join_pieces (codes ",\"" ∷ name ∷ codes "\":" ∷ decimal number ∷ [])

-- a number with its name
abbrev pub field_text : LineForm → List ℕ → ℕ → List ℕ
field_text Text name number = worded_field name number
field_text Json name number = json_field name number

-- that there is no number of this name, in words
unfoldable pub worded_none : List ℕ → List ℕ
worded_none name = join_pieces (codes " " ∷ name ∷ codes " none" ∷ [])

-- that there is no number of this name, in JSON
unfoldable pub json_none : List ℕ → List ℕ
json_none name = join_pieces (codes ",\"" ∷ name ∷ codes "\":null" ∷ [])

-- that there is no number of this name
abbrev pub none_text : LineForm → List ℕ → List ℕ
none_text Text name = worded_none name
none_text Json name = json_none name

-- a number with its name, or that there is none
abbrev pub some_text : LineForm → List ℕ → Option ℕ → List ℕ
some_text form name None = none_text form name
some_text form name (Some number) = field_text form name number

-- the start of a line in words: the end
unfoldable pub worded_front : Side → List ℕ
worded_front side = join_pieces (side_name side ∷ codes " counts" ∷ [])

-- the start of a line of JSON: the end
unfoldable pub json_front : Side → List ℕ
json_front side = join_pieces (codes "{\"end\":\"" ∷ side_name side ∷ codes "\"" ∷ [])

-- the start of a line
abbrev pub front_of : LineForm → Side → List ℕ
front_of Text side = worded_front side
front_of Json side = json_front side

-- the end of a line
abbrev pub end_of : LineForm → List ℕ
end_of Text = codes "\n"
end_of Json = codes "}\n"

-- numbers with their names, in order
abbrev pub fields_text : LineForm → List (List ℕ × ℕ) → List ℕ
fields_text form fields = flat_map (λ f. field_text form f.0 f.1) fields

-- the numbers of a channel: the time in milliseconds of the run, the channel, from 1, what it sent, how many receptions
-- the system refused, what it received, and when something last came. Damaged are the datagrams of the redundancy layer
-- and those of the safety machine.
abbrev pub channel_fields : ℕ → ℕ → ReceptionCounts → ChannelCounts → (refused heard : ℕ) → List (List ℕ × ℕ)
channel_fields at channel r c refused heard =
    (codes "time", at) ∷ (codes "channel", channel) ∷ (codes "sent", c.sent) ∷ (codes "failed", c.failed) ∷
    (codes "refused", refused) ∷ (codes "received", r.received)
    ∷ (codes "passed", r.passed) ∷ (codes "deferred", r.deferred) ∷ (codes "old", r.old) ∷
    (codes "repeats", r.repeated) ∷ (codes "far", r.far)
    ∷ (codes "full", r.full) ∷ (codes "damaged", sum (all_red_faults r.damaged) c.damaged) ∷
    (codes "strangers", c.strangers) ∷ (codes "heard", heard) ∷ []

-- the line of a channel
unfoldable pub channel_text : LineForm → ℕ → Side → ℕ → ReceptionCounts → ChannelCounts → (refused heard : ℕ) → List ℕ
channel_text form at side channel r c refused heard =
    join_pieces (front_of form side ∷ fields_text form (channel_fields at channel r c refused heard) ∷ end_of form ∷ [])

-- the time in milliseconds of the run, the PDUs that the end made, the retransmissions requested and granted, the PDUs
-- accepted and dropped, and the units that the peer confirmed
unfoldable pub pdus_text : LineForm → ℕ → RunCounts → List ℕ
pdus_text form at c =
    let m = c.sums.made in
    fields_text form
    ((codes "time", at) ∷ (codes "units", m.units) ∷ (codes "resent", m.resent) ∷ (codes "heartbeats", m.heartbeats) ∷
    (codes "asked", m.requests)
    ∷ (codes "answered", m.answers) ∷ (codes "accepted", accepted_count c) ∷ (codes "dropped", dropped_count c) ∷
    (codes "confirmed", c.sums.confirmed) ∷ [])

-- the least time in milliseconds that was left to T_max when a PDU confirmed a timestamp: T_max minus the greatest age
-- of a confirmed timestamp
abbrev pub margin_of : Option ℕ → ℕ → Option ℕ
margin_of None t_max = None
margin_of (Some oldest) t_max = Some (t_max - oldest)

-- the line of the connection: PDUs, the greatest age and its margin, the telegrams put and taken, and how often T_seq
-- passed while parts were deferred
unfoldable pub connection_text : LineForm → ℕ → Side → RunCounts → (t_max : ℕ) → List ℕ
connection_text form at side c t_max =
    join_pieces
    (front_of form side ∷ pdus_text form at c ∷ some_text form (codes "oldest") (oldest c) ∷
    some_text form (codes "margin") (margin_of (oldest c) t_max)
    ∷ fields_text form ((codes "put", c.put) ∷ (codes "taken", c.taken) ∷ (codes "expired", c.sums.expired_deferrals) ∷
    []) ∷ end_of form ∷ [])

-- when the channel at a place last received something
abbrev pub last_reception_at : List ChannelSilence → ℕ → ℕ
last_reception_at heard place = (slice_index_or heard place (record { came = 0; at = 0; silent = false })).at

-- the line of the channel at a place, from 0, if the end has it
unfoldable pub place_text : CountsPrinter → LineForm → ℕ → RunCounts → ℕ → List ℕ
place_text t form at c place =
    if nat_le t.count place then []
    else channel_text form at t.side (place + 1) (slice_index_or c.sums.channels place no_reception_counts)
    (slice_index_or c.channels place no_datagrams)
    (failures_in c place).receives.count (last_reception_at t.heard place)

-- the lines of the channels and of the connection
unfoldable pub all_text : CountsPrinter → LineForm → ℕ → RunCounts → List ℕ
all_text t form at c =
    join_pieces
    (place_text t form at c 0 ∷ place_text t form at c 1 ∷ place_text t form at c 2 ∷ place_text t form at c 3
    ∷ connection_text form at t.side c t.t_max ∷ [])

-- the form of lines, if a form has lines
abbrev pub form_of : CountsForm → Option LineForm
form_of counts.Text = Some Text
form_of counts.Json = Some Json
form_of counts.Prometheus = None

-- a form has one block for all ends
abbrev pub is_block : CountsForm → Bool
is_block counts.Text = false
is_block counts.Json = false
is_block counts.Prometheus = true

-- the form of the lines, if there are any
abbrev pub line_form : Option CountsRequest → Option LineForm
line_form None = None
line_form (Some telling) = form_of telling.form

-- the counts of all ends are printed in one block
abbrev pub has_block : Option CountsRequest → Bool
has_block None = false
has_block (Some telling) = is_block telling.form

-- these lines, if there is a form of lines
abbrev pub text_by : Option LineForm → CountsPrinter → ℕ → RunCounts → List ℕ
text_by None t at c = []
text_by (Some form) t at c = all_text t form at c

-- what is printed of the counts at this time in milliseconds of the run
abbrev pub printed_counts : CountsPrinter → ℕ → RunCounts → List ℕ
printed_counts t at c = text_by (line_form t.telling) t at c

-- nothing is printed
abbrev pub is_off_by : Option CountsRequest → Bool
is_off_by None = true
is_off_by (Some telling) = false

-- there is no form
abbrev pub is_off : CountsPrinter → Bool
is_off t = is_off_by t.telling

-- counts are due: the next time for them is reached
abbrev pub is_due : Option ℕ → ℕ → Bool
is_due None now = false
is_due (Some next) now = nat_le next now

-- the time of the next counts, this many seconds later if they are printed before the end
abbrev pub next_every : Option ℕ → ℕ → Option ℕ
next_every None now = None
next_every (Some seconds) now = Some (min (now + seconds * 1_000) (2 ^ 64 - 1))

-- the time of the next counts
abbrev pub next_after : Option CountsRequest → ℕ → Option ℕ
next_after None now = None
next_after (Some telling) now = next_every telling.every now

-- the time of the next counts after a look
abbrev pub next_by : (due : Bool) → Option CountsRequest → Option ℕ → ℕ → Option ℕ
next_by true telling next now = next_after telling now
next_by false telling next now = next

-- the printer after a look at what is counted: it records which channels received something
abbrev pub look_at : CountsPrinter → RunCounts → ℕ → CountsPrinter
look_at t c now =
    record t {
      next = next_by (is_due t.next now) t.telling t.next now;
      heard = all_silences c.sums.channels t.count now (2 ^ 64 - 1) t.heard;
    }

-- the same, if counts are printed
abbrev pub look : CountsPrinter → RunCounts → ℕ → CountsPrinter
look t c now = if is_off t then t else look_at t c now

-- counts are printed, and their time is reached
abbrev pub is_printing_due : CountsPrinter → ℕ → Bool
is_printing_due t now = not (is_off t) && is_due t.next now
