-- Why a call of a station is refused, and what it does to the end and to the queues.
use Rattle.std.specs.Prelude.{◌≡◌, ◌==◌, ℕ, ◌+◌, ◌-◌, ◌*◌, ◌^◌, ◌≤◌, Bool, true, false, min, not, ◌&&◌, ◌||◌, nat_le, Option, Some, None}
use Rattle.std.specs.Prelude.{option_map, List, length, if◌then◌else◌}
use Rattle.std.specs.Option.{option_map_or}
use Rattle.octets.specs.declared.limits.TheConstants.{PAYLOAD_MAX, Q_MAX, RED_PDU_MAX, WINDOW_MAX, TIME_MAX}
use Rattle.stack_end.specs.Ends.{Call, time_of}
use Rattle.stack_end.specs.EndValue.{EndValue, channels_of, inside, statistics_of}
use Rattle.stack_end.specs.Turns.{Fields, Inside, init_answer, is_over, put_answer, turn}
use Rattle.stack_end.specs.Timely.{margin_of}
use Rattle.stack_end.specs.Deadlines.{HasFallen, IsQuiet, earliest}
use Rattle.stack_end.specs.Stale.{is_stale}
use Rattle.safe_machine.specs.Deadlines.{IsBefore, IsReachedAt}
use Rattle.std.specs.Global.{Global}
use Rattle.end_for_callers.specs.declared.CallFault.{CallFault}
use Rattle.end_for_callers.specs.declared.CallFault.TheVariants as fault
use Rattle.end_for_callers.specs.declared.Outcome.{Outcome}
use Rattle.end_for_callers.specs.declared.Outcome.TheVariants as outcome
use Rattle.end_for_callers.specs.declared.StationFault.{StationFault}
use Rattle.end_for_callers.specs.declared.StationFault.TheVariants as opening
use Rattle.end_for_callers.specs.declared.station.Rooms.{Rooms}
use Rattle.end_for_callers.specs.declared.TheConstants.{CALL_TELEGRAMS, PART_PDUS}
use Rattle.end_settings.specs.EndSettings.{EndSettings, are_fit}
use Rattle.end_settings.specs.ConfigValue.{side_of}
use Rattle.end_settings.specs.declared.Side.{Side}
use Rattle.stack_end.specs.Reopening.{reopening_turn}
use Rattle.end_for_callers.specs.Boxes.{Came, TelegramQueue, DatagramQueue, Posted, OutboxValue, clear_outgoing}
use Rattle.end_for_callers.specs.Queues.{Queued}
use Rattle.end_for_callers.specs.Openings.{closed_at, next_opening, wait_of}
use Rattle.end_for_callers.specs.declared.openings.Openings.{Openings}

-- an end on the outbox of a station as a caller sees it: without the places set aside
abbrev pub seen_end : EndValue OutboxValue Global → EndValue DatagramQueue Global
seen_end v =
    let u = v.layers.upper in
    record {
      layers =
          record {
            red = v.layers.red;
            upper =
                record {
                  channels = u.channels.out;
                  numbers = u.numbers;
                  machine = u.machine;
                  session = u.session;
                  waiting = u.waiting;
                  unit = u.unit;
                  request = u.request;
                  count = u.count;
                  max = u.max;
                  t_max = u.t_max;
                  accepted = u.accepted;
                  departed = u.departed;
                  made = u.made;
                  parts = u.parts;
                  code = u.code;
                };
          };
      time = v.time;
      receptions = v.receptions;
    }

-- a station
pub record StationValue : Type 0 where
  -- the end
  pub end : EndValue DatagramQueue Global
  -- the telegrams that wait
  pub inbox : TelegramQueue
  -- the time of the last accepted call
  pub time : ℕ
  -- how many datagrams must have room before a call
  pub reserve : ℕ
  -- what is kept over the openings of the end
  pub openings : Openings

-- the datagrams that wait
abbrev pub outbox_of : StationValue → DatagramQueue
outbox_of s = channels_of s.end

-- a time in range: not before the last accepted call, and at most 2^62
abbrev pub is_time : ℕ → StationValue → Bool
is_time now s = nat_le s.time now && nat_le now TIME_MAX

-- how many datagrams must have room before a call: on each channel the PDUs of one part and a retransmission. The peer
-- sets how many of this end's PDUs can wait for confirmation, so the window counted is the greatest that a peer may
-- have.
abbrev pub reserve_of : EndSettings → ℕ
reserve_of s = (WINDOW_MAX + PART_PDUS) * s.channels

-- the first reason to refuse an opening, if any, except a failed allocation
abbrev pub refusal_to_open : Side → EndSettings → Rooms → ℕ → Option StationFault
refusal_to_open side settings rooms now =
    if not (nat_le now TIME_MAX) then Some opening.Time
    else if not (are_fit (side_of side) settings) then Some opening.BadConfig
    else if not (nat_le CALL_TELEGRAMS rooms.telegrams && nat_le (reserve_of settings) rooms.datagrams)
    then Some opening.Rooms
    else None

-- the queue has room for this number of pieces of this size
abbrev pub has_room : {T : Type 0} → (count size : ℕ) → Queued T → Bool
has_room count size q = nat_le count q.places && nat_le (count * size) q.room

-- the queue of datagrams has room for whatever one call sends: that of nine parts, each with the reserve
abbrev pub has_room_for_any : StationValue → Bool
has_room_for_any s = has_room ((Q_MAX + 1) * s.reserve) RED_PDU_MAX (outbox_of s).queue

-- with such room no datagram is counted as unsent
abbrev pub LosesNone : StationValue → StationValue → Type 0
LosesNone s t = has_room_for_any s ≡ true → (outbox_of t).unsent ≡ (outbox_of s).unsent

-- the first reason to refuse a call that only sends
abbrev pub refusal_to_send : ℕ → StationValue → Option CallFault
refusal_to_send now s =
    if not (is_time now s) then Some fault.Time
    else if s.inbox.lost then Some fault.Lost
    else if not (has_room s.reserve RED_PDU_MAX (outbox_of s).queue) then Some fault.SendFirst
    else None

-- T_max has passed: there is a connection, and the margin to T_max is 0. Then a tick or a datagram ends the connection;
-- nothing is taken, and all that is sent is the DiscReq
abbrev pub is_expired : (now : ℕ) → Fields → Bool
is_expired now v = option_map_or (λ margin. margin == 0) (margin_of now v) false

-- the time at which T_max ends the connection if nothing more is confirmed, in 64 bits, or None without one
abbrev pub timeout_of : Fields → Option ℕ
timeout_of v =
    option_map (λ margin. min (v.machine.confirmed_at + margin) (2 ^ 64 - 1)) (margin_of v.machine.confirmed_at v)

-- there is too little room for a call that may deliver telegrams
abbrev pub is_blocked : StationValue → Bool
is_blocked s =
    not (has_room CALL_TELEGRAMS PAYLOAD_MAX s.inbox.queue) || not (has_room s.reserve RED_PDU_MAX (outbox_of s).queue)

-- the first reason to refuse a call that may deliver telegrams, too. T_max is watched even without room
abbrev pub refusal : ℕ → StationValue → Option CallFault
refusal now s =
    if not (is_time now s) then Some fault.Time
    else if s.inbox.lost then Some fault.Lost
    else if is_expired now (inside s.end).upper then None
    else if not (has_room CALL_TELEGRAMS PAYLOAD_MAX s.inbox.queue) then Some fault.TakeFirst
    else if not (has_room s.reserve RED_PDU_MAX (outbox_of s).queue) then Some fault.SendFirst
    else None

-- the only reason to refuse a closing: its time
abbrev pub refusal_to_close : ℕ → StationValue → Option CallFault
refusal_to_close now s = if is_time now s then None else Some fault.Time

-- the first reason to refuse that an end opens again: its time, or a telegram of the old connection that waits
abbrev pub refusal_to_reopen : ℕ → StationValue → Option CallFault
refusal_to_reopen now s =
    if not (is_time now s) then Some fault.Time
    else if not (length s.inbox.queue.waiting == 0) then Some fault.TakeFirst
    else None

-- the first of two reasons
abbrev pub or_else : {X : Type 0} → Option X → Option X → Option X
or_else (Some x) y = Some x
or_else None y = y

-- the first reason to refuse a put: the station's, then the session's
abbrev pub refusal_to_put : (now kind : ℕ) → List ℕ → StationValue → Option CallFault
refusal_to_put now kind payload s =
    or_else (refusal_to_send now s) (option_map fault.Put (put_answer kind payload (inside s.end).upper))

-- the first reason to refuse the end of the initialisation: the station's, then the session's
abbrev pub refusal_to_init : ℕ → StationValue → Option CallFault
refusal_to_init now s = or_else (refusal_to_send now s) (option_map fault.Init (init_answer (inside s.end).upper))

-- the end processes a call: it has the new state, and what it sends and delivers goes to the two queues
pub record Does (c : Call) (s t : StationValue) : Type 0 where
  -- the state is that of the call's turn
  pub left : inside t.end ≡ (turn c (inside s.end)).left
  -- the end's time is that of the call
  pub time : t.end.time ≡ time_of c
  -- the datagrams sent are appended or counted
  pub datagrams : Posted (outbox_of s) (turn c (inside s.end)).sent (outbox_of t)
  -- a prefix of the telegrams delivered is appended
  pub telegrams : Came s.inbox (turn c (inside s.end)).taken t.inbox
  -- the reserve stays
  pub reserve : t.reserve ≡ s.reserve
  -- what is kept over openings stays
  pub openings : t.openings ≡ s.openings

-- the end opens again with the settings that it has, and both queues are empty
pub record Reopens (first now : ℕ) (s t : StationValue) : Type 0 where
  -- each layer is as newly opened
  pub left : inside t.end ≡ (reopening_turn first now (inside s.end)).left
  -- the end's time is that of the call
  pub called : t.end.time ≡ now
  -- the old datagrams are gone, and those that the end sends at once are appended or counted
  pub datagrams : Posted (clear_outgoing (outbox_of s)) (reopening_turn first now (inside s.end)).sent (outbox_of t)
  -- no telegram waits, and none is lost
  pub inbox : t.inbox ≡ record s.inbox { lost = false }
  -- the station's time is that of the call
  pub time : t.time ≡ now
  -- the reserve stays
  pub reserve : t.reserve ≡ s.reserve
  -- one opening more is counted, with what the end counted before it, and its departure
  pub openings : t.openings ≡ next_opening s.openings (statistics_of s.end) (inside s.end).upper.departed now

-- the outcome: a telegram was lost, or everything has room, or a datagram was counted
abbrev pub outcome_of : StationValue → StationValue → Outcome
outcome_of s t =
    if t.inbox.lost then outcome.Lost
    else if (outbox_of t).unsent == (outbox_of s).unsent then outcome.Whole
    else outcome.Unsent

-- only the queue of datagrams may differ
pub record SameButDatagrams (s t : StationValue) : Type 0 where
  -- the end's state
  pub kept : inside t.end ≡ inside s.end
  -- the end's time
  pub called : t.end.time ≡ s.end.time
  -- the count of unsent datagrams
  pub unsent : (outbox_of t).unsent ≡ (outbox_of s).unsent
  -- the notes
  pub notes : (outbox_of t).notes ≡ (outbox_of s).notes
  -- the telegrams
  pub inbox : t.inbox ≡ s.inbox
  -- the station's time
  pub time : t.time ≡ s.time
  -- the reserve
  pub reserve : t.reserve ≡ s.reserve
  -- what is kept over openings
  pub openings : t.openings ≡ s.openings

-- only the notes may differ
pub record SameButNotes (s t : StationValue) : Type 0 where
  -- the end's state
  pub kept : inside t.end ≡ inside s.end
  -- the end's time
  pub called : t.end.time ≡ s.end.time
  -- the datagrams
  pub queue : (outbox_of t).queue ≡ (outbox_of s).queue
  -- the count of unsent datagrams
  pub unsent : (outbox_of t).unsent ≡ (outbox_of s).unsent
  -- the telegrams
  pub inbox : t.inbox ≡ s.inbox
  -- the station's time
  pub time : t.time ≡ s.time
  -- the reserve
  pub reserve : t.reserve ≡ s.reserve
  -- what is kept over openings
  pub openings : t.openings ≡ s.openings

-- only the queue of telegrams may differ
pub record SameButTelegrams (s t : StationValue) : Type 0 where
  -- the end and its datagrams
  pub end : t.end ≡ s.end
  -- the loss flag
  pub lost : t.inbox.lost ≡ s.inbox.lost
  -- the station's time
  pub time : t.time ≡ s.time
  -- the reserve
  pub reserve : t.reserve ≡ s.reserve
  -- what is kept over openings
  pub openings : t.openings ≡ s.openings

-- how long it is, from the last accepted call on, until an end that is stale is opened again
abbrev pub reopening_wait : StationValue → ℕ
reopening_wait s = wait_of s.openings (closed_at (inside s.end).upper.departed s.openings.opened) s.time

-- the end is to be opened again now: it is stale, and its wait is over
abbrev pub is_due : StationValue → Bool
is_due s = is_stale (inside s.end) && reopening_wait s == 0

-- the time at which a stale end is due, if that is still to come, in 64 bits
abbrev pub reopening_time : StationValue → Option ℕ
reopening_time s =
    if is_stale (inside s.end) && not (reopening_wait s == 0) then Some (min (s.time + reopening_wait s) (2 ^ 64 - 1))
    else None

-- the deadline of an end: before it a tick does nothing; from it on, up to 2^62, a tick does something
pub record IsDeadline (next : Option ℕ) (v : Inside) : Type 0 where
  -- an open end stays as it is at a tick before the deadline
  pub before : is_over v ≡ false → (now : ℕ) → IsBefore now next → IsQuiet now v
  -- from the deadline on a tick has an effect
  pub after : (now : ℕ) → now ≤ TIME_MAX → IsReachedAt now next → HasFallen now v
  -- a closed end has no deadline
  pub closed : is_over v ≡ true → next ≡ None

-- the next time at which a tick does something, by whether a telegram was lost, and whether there is too little room for a
-- tick. After a loss: none. Without room: when T_max ends the connection, and until then each tick is refused. Otherwise it
-- is the deadline of the end, or the time at which the end is due to be opened again, if that is earlier
abbrev pub IsNextTickBy : (lost blocked : Bool) → Option ℕ → StationValue → Type 0
IsNextTickBy true blocked next s = next ≡ None
IsNextTickBy false true next s = next ≡ timeout_of (inside s.end).upper
IsNextTickBy false false next s =
    (deadline : Option ℕ) × IsDeadline deadline (inside s.end) × (next ≡ earliest deadline (reopening_time s))

-- the same of a station
abbrev pub IsNextTick : Option ℕ → StationValue → Type 0
IsNextTick next s = IsNextTickBy s.inbox.lost (is_blocked s) next s
