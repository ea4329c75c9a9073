-- The result of each call of a station, as one relation of the result, the station before and the station after.
use Rattle.std.specs.Prelude.{◌≡◌, ℕ, ◌*◌, false, Option, Some, None, Result, Ok, Err, List, if◌then◌else◌}
use Rattle.octets.specs.declared.limits.TheConstants.{PAYLOAD_MAX}
use Rattle.end_settings.specs.ConfigValue.{settings_of}
use Rattle.end_settings.specs.declared.EndConfig.{EndConfig}
use Rattle.end_settings.specs.declared.Side.{Side}
use Rattle.stack_end.specs.Datagrams.{sent_at_opening}
use Rattle.stack_end.specs.Ends.{Call, opened_end, time_of}
use Rattle.stack_end.specs.Ends.Call.{Close, Put, InitDone, Tick, Deliver}
use Rattle.stack_end.specs.EndValue.{EndRepresents}
use Rattle.end_for_callers.specs.Boxes.{Posted, new_outgoing, told_of}
use Rattle.end_for_callers.specs.Calls.{Does, SameButDatagrams, SameButTelegrams, StationValue, is_time, outbox_of, outcome_of, refusal, refusal_to_init}
use Rattle.end_for_callers.specs.Calls.{refusal_to_open, refusal_to_put}
use Rattle.end_for_callers.specs.Queues.{PopsInto, new_queue}
use Rattle.end_for_callers.specs.declared.CallFault.{CallFault}
use Rattle.end_for_callers.specs.declared.CallFault.TheVariants as fault
use Rattle.end_for_callers.specs.declared.Outcome.{Outcome}
use Rattle.end_for_callers.specs.declared.queue.TooSmall.{TooSmall}
use Rattle.end_for_callers.specs.declared.station.Rooms.{Rooms}

-- the result of a pop: a tag and a size in bytes, or nothing
abbrev pub Pop : Type 0
Pop = Result (Option (ℕ × ℕ)) TooSmall

-- a successful opening: these are the clauses of `Station::open`
pub record IsOpened (side : Side) (config : EndConfig) (first_sn : ℕ) (rooms : Rooms) (now : ℕ)
    (s : StationValue) : Type 0 where
  -- nothing refuses it
  pub answer : refusal_to_open side (settings_of config) rooms now ≡ None
  -- the end is new
  pub stands : EndRepresents told_of s.end (opened_end side config first_sn now)
  -- what the opening sends waits, or is counted
  pub sent : Posted (new_outgoing rooms.datagrams) (sent_at_opening (opened_end side config first_sn now)) (outbox_of s)
  -- no telegram waits
  pub inbox : s.inbox ≡ record { queue = new_queue rooms.telegrams (rooms.telegrams * PAYLOAD_MAX); lost = false }
  -- the time is that of the opening
  pub time : s.time ≡ now

-- the reason to refuse a call, if any, as in the contract of each
abbrev pub refusal_of : Call → StationValue → Option CallFault
refusal_of (Close now) s = if is_time now s then None else Some fault.Time
refusal_of (Put kind payload now) s = refusal_to_put now kind payload s
refusal_of (InitDone now) s = refusal_to_init now s
refusal_of (Tick now) s = refusal now s
refusal_of (Deliver channel octets now) s = refusal now s

-- an accepted call: these are the clauses of `arrive`, `tick`, `put`, `init_done` and `close`
pub record IsAccepted (c : Call) (o : Outcome) (s t : StationValue) : Type 0 where
  -- nothing refuses it
  pub accepted : refusal_of c s ≡ None
  -- the end and both queues are those that the call leads to
  pub does : Does c s t
  -- the outcome says what found no room
  pub outcome : o ≡ outcome_of s t
  -- the time is that of the call
  pub time : t.time ≡ time_of c

-- a call is accepted, or refused for its reason and without a change
abbrev pub IsAnswered : Call → Result Outcome CallFault → StationValue → StationValue → Type 0
IsAnswered c (Ok o) s t = IsAccepted c o s t
IsAnswered c (Err f) s t = (refusal_of c s ≡ Some f) × (t ≡ s)

-- the clauses of `take`
pub record IsTaken (buffer : List ℕ) (answer : Pop) (left : List ℕ) (s t : StationValue) : Type 0 where
  -- the oldest telegram was fetched, if possible
  pub popped : PopsInto answer s.inbox.queue buffer t.inbox.queue left
  -- nothing else changed
  pub same : SameButTelegrams s t

-- the clauses of `next_datagram`
pub record IsPulled (buffer : List ℕ) (answer : Pop) (left : List ℕ) (s t : StationValue) : Type 0 where
  -- the oldest datagram was fetched, if possible
  pub popped : PopsInto answer (outbox_of s).queue buffer (outbox_of t).queue left
  -- nothing else changed
  pub same : SameButDatagrams s t
