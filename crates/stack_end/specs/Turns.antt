-- One call of an end: its new contents, the datagrams that it sends, and the telegrams that its application takes, each
-- in order.
--
-- A turn depends only on what is kept. A state with its whole history takes the same turns (`Steps`), and appends what
-- they did.
use Rattle.std.specs.Prelude.{◌≡◌, ℕ, zero, suc, ◌+◌, ◌-◌, min, ◌%◌, ◌^◌, Bool, true, false, not, ◌&&◌, Option, Some, None, List, [], ◌∷◌, ◌++◌, take, drop, length}
use Rattle.std.specs.Prelude.{if◌then◌else◌}
use Rattle.std.specs.List.{FoldsTo}
use Rattle.channels.specs.ChannelHistory.{SentDatagram, SendsOne, ChannelHistory}
use Rattle.pdi_session.specs.packing.UnitText.{unit_text}
use Rattle.pdi_session.specs.declared.InitFault.{InitFault}
use Rattle.pdi_session.specs.declared.PutFault.{PutFault}
use Rattle.pdi_session.specs.Histories.{History}
use Rattle.pdi_session.specs.SessionStep.{Closes, InitDone as Completes, Item, Puts, SessionState, Up as GoesUp, init_refusal, put_refusal}
use Rattle.red_layer.specs.Parts.{Part, is_nil}
use Rattle.red_layer.specs.Redundancy.{Datagram, Input, Receiver, Tick as RedTick, after, is_due, judge as red_judged, parts_passed}
use Rattle.red_layer.specs.declared.RedEvent.{RedEvent}
use Rattle.red_layer.specs.pdu.RedText.{red_text}
use Rattle.safe_pdu.specs.declared.CodeRule.{CodeRule}
use Rattle.safe_machine.specs.declared.ConnectionState.{ConnectionState}
use Rattle.safe_machine.specs.declared.ConnectionState.TheVariants.{Start, Up}
use Rattle.safe_machine.specs.declared.Step.{Step as Outcome}
use Rattle.safe_pdu.specs.declared.reasons.Reason.TheVariants.{ClosedByUser}
use Rattle.safe_pdu.specs.declared.reasons.Detail.TheVariants.{Unspecified}
use Rattle.safe_machine.specs.Connections.{is_closed, is_live}
use Rattle.safe_machine.specs.Made.{Made}
use Rattle.safe_pdu.specs.Places.{safe_seen}
use Rattle.safe_machine.specs.Deadlines.{overdue}
use Rattle.safe_machine.specs.Octets.{decoded_answer, octets_turn as machine_octets_turn, octets_units}
use Rattle.safe_machine.specs.Turns.{Turn as MachineTurn, guard_turn as machine_guard_turn, has_room, leave_turn as machine_leave_turn, send_turn as machine_send_turn}
use Rattle.safe_machine.specs.Turns.{tick_turn as machine_tick_turn}
use Rattle.safe_machine.specs.View.{View, text_of}
use Rattle.safe_machine.specs.World.{is_joining}
use Rattle.stack_end.specs.Departures.{known_departure, own_departure, part_departure}
use Rattle.stack_end.specs.Statistics.{with_made, with_step}
use Rattle.stack_end.specs.declared.departure.Departure.{Departure}
use Rattle.stack_end.specs.declared.statistics.MadeCounts.{MadeCounts}
use Rattle.stack_end.specs.declared.statistics.PartCounts.{PartCounts}
use Rattle.stack_end.specs.Datagrams.{on_channels}
use Rattle.stack_end.specs.Dialogue.{Dialogue, Judgement, Leaving, judge_units, process_event, session_in}
use Rattle.stack_end.specs.Ends.{Call, Close, Deliver, InitDone, Put, Tick}

-- what an end keeps above its redundancy layer
pub record Fields : Type 0 where
  pub numbers : ℕ  -- the next redundancy number
  pub machine : View  -- the safety machine
  pub session : SessionState  -- the session, without its past
  pub waiting : List (List ℕ)  -- the messages that wait to be sent
  pub request : Option (List ℕ)  -- the bytes of the ConnReq that it accepted
  pub count : ℕ  -- of its channels
  pub max : ℕ  -- messages packed into one unit
  pub t_max : ℕ  -- T_max, in milliseconds
  pub accepted : ℕ  -- commands and status put, up to 2^64 - 1
  pub departed : Option Departure  -- how the end came to be closed
  pub made : MadeCounts  -- the PDUs made, counted by type
  pub parts : PartCounts  -- the parts that went up, counted by what the machine did

-- what an end keeps of all layers
pub record Inside : Type 0 where
  pub red : Receiver  -- the receiving half of the redundancy layer
  pub upper : Fields  -- the layers above

-- a turn of V
pub record Turn (V : Type 0) : Type 0 where
  pub left : V  -- what is kept afterwards
  pub sent : List SentDatagram  -- the datagrams sent, with their channels, in order
  pub taken : List Item  -- the commands or status that the application takes, in order
  pub made : List Made  -- the PDUs that the machine makes, in order
  pub units : List (List ℕ)  -- the units that the machine delivers, in order
  pub talks : List History  -- what the session does, in order: each is a history that begins here

-- a turn was taken: it left this, its datagrams were sent or counted as failed, and the taker got what it delivers
pub record CarriesOut {V T : Type 0} (takes : T → Item → T → Type 0) (t : Turn V) (told : ChannelHistory) (taker : T)
    (now : V) (told_now : ChannelHistory) (taker_now : T) : Type 0 where
  pub left : now ≡ t.left  -- what is there now
  pub sent : FoldsTo SendsOne told t.sent told_now  -- what became of the channels
  pub taken : FoldsTo takes taker t.taken taker_now  -- what became of the taker

-- a turn was taken that delivers nothing
pub record CarriesOutAlone {V : Type 0} (t : Turn V) (told : ChannelHistory) (now : V)
    (told_now : ChannelHistory) : Type 0 where
  pub left : now ≡ t.left  -- what is there now
  pub sent : FoldsTo SendsOne told t.sent told_now  -- what became of the channels
  pub none : t.taken ≡ []  -- nothing is taken

-- a turn that does nothing
abbrev pub still : {V : Type 0} → V → Turn V
still v = record { left = v; sent = []; taken = []; made = []; units = []; talks = [] }

-- one turn, and then another
abbrev pub turn_then : {V : Type 0} → Turn V → (V → Turn V) → Turn V
turn_then t next =
    let u = next t.left in
    record {
      left = u.left;
      sent = t.sent ++ u.sent;
      taken = t.taken ++ u.taken;
      made = t.made ++ u.made;
      units = t.units ++ u.units;
      talks = t.talks ++ u.talks;
    }

-- the redundancy number after this one
abbrev pub next_number : ℕ → ℕ
next_number number = (number + 1) % 2 ^ 32

-- the redundancy number after those of PDUs
abbrev pub number_after : ℕ → List Made → ℕ
number_after number [] = number
number_after number (m ∷ ms) = number_after (next_number number) ms

-- the datagrams of PDUs, the first of which has this redundancy number
abbrev pub datagrams : CodeRule → (channels number : ℕ) → List Made → List SentDatagram
datagrams rule channels number [] = []
datagrams rule channels number (m ∷ ms) =
    on_channels channels (red_text number (text_of rule m)) ++ datagrams rule channels (next_number number) ms

-- the machine takes a turn, and the PDUs that it makes are sent
abbrev pub machine_turn : MachineTurn → Fields → Turn Fields
machine_turn t v =
    record {
      left = record v { numbers = number_after v.numbers t.made; machine = t.left; made = with_made t.made v.made };
      sent = datagrams v.machine.settings.rule v.count v.numbers t.made;
      taken = [];
      made = t.made;
      units = [];
      talks = [];
    }

-- a turn that delivers these units
abbrev pub with_units : {V : Type 0} → List (List ℕ) → Turn V → Turn V
with_units us t = record t { units = us }

-- a dialogue that begins here, without a past: one with a past goes on in the same way
abbrev pub from_here : SessionState → List (List ℕ) → Dialogue
from_here session waiting =
    record {
      history = record {
        state = session;
        phases = [];
        queue = [];
        judged = [];
        put = [];
        taken = [];
        ended_in = None;
      };
      waiting = waiting;
    }

-- the dialogue of what an end keeps
abbrev pub dialogue_of : Fields → Dialogue
dialogue_of v = from_here v.session v.waiting

-- the session changes to the end of that dialogue, and the application takes what it took there
abbrev pub session_turn : Dialogue → Fields → Turn Fields
session_turn d v =
    record {
      left = record v { session = session_in d; waiting = d.waiting };
      sent = [];
      taken = d.history.taken;
      made = [];
      units = [];
      talks = d.history ∷ [];
    }

-- if the machine is closed, the session ends
abbrev pub end_session_turn : Fields → Turn Fields
end_session_turn v =
    if is_closed v.machine.connection then session_turn (process_event Closes (dialogue_of v)) v else still v

-- the cause of the closing is recorded, if it is known
abbrev pub departure_turn : Option Departure → Fields → Turn Fields
departure_turn cause v = still (record v { departed = known_departure cause v.departed })

-- for how long nothing was confirmed, or 0 without a connection
abbrev pub waiting_time : ℕ → Fields → ℕ
waiting_time now v = if is_live v.machine.connection then now - v.machine.confirmed_at else 0

-- a part is counted, by the step that is reported for it
abbrev pub count_turn : Outcome → (waiting_time now : ℕ) → Fields → Turn Fields
count_turn answer waiting_time now v =
    still (record v { parts = with_step answer waiting_time (now - v.machine.confirmed_at) v.parts })

-- the timeout check of the machine; a closed machine ends the session, and the departure is recorded
abbrev pub guard_turn : ℕ → Fields → Turn Fields
guard_turn now v =
    turn_then (turn_then (machine_turn (machine_guard_turn now v.machine) v) end_session_turn)
    (departure_turn (own_departure (overdue now v.machine) now))

-- the timers of the machine; a closed machine ends the session, and the departure is recorded
abbrev pub tick_turn : ℕ → Fields → Turn Fields
tick_turn now v =
    turn_then (turn_then (machine_turn (machine_tick_turn now v.machine) v) end_session_turn)
    (departure_turn (own_departure (overdue now v.machine) now))

-- the end disconnects if it is asked to
abbrev pub leave_turn : ℕ → Option Leaving → Fields → Turn Fields
leave_turn now None v = still v
leave_turn now (Some why) v = machine_turn (machine_leave_turn why.0 why.1 now v.machine) v

-- the user closes: an open end disconnects with reason 0, the session ends, and the departure is recorded
abbrev pub close_turn : ℕ → Fields → Turn Fields
close_turn now v =
    turn_then (turn_then (leave_turn now (Some (ClosedByUser, Unspecified)) v) end_session_turn)
    (departure_turn (own_departure (if is_closed v.machine.connection then None else Some (ClosedByUser, Unspecified))
    now))

-- what the session makes of the units that the machine delivers of a part
abbrev pub judge_part : ℕ → List ℕ → Fields → Judgement
judge_part now octets v = judge_units (octets_units octets now v.machine) (dialogue_of v)

-- the machine processes a part, and the session judges the units that it delivers
abbrev pub judge_turn : ℕ → List ℕ → Fields → Turn Fields
judge_turn now octets v =
    turn_then (with_units (octets_units octets now v.machine)
    (machine_turn (machine_octets_turn octets now v.machine) v)) (session_turn (judge_part now octets v).left)

-- the bytes of a ConnReq are kept if it was accepted
abbrev pub request_after : Bool → List ℕ → Option (List ℕ) → Option (List ℕ)
request_after true octets before = Some octets
request_after false octets before = before

-- the bytes of an accepted ConnReq are kept, by the state before the part
abbrev pub note_request_turn : ConnectionState → List ℕ → Fields → Turn Fields
note_request_turn before octets v =
    still (record v { request = request_after (is_joining before v.machine.connection) octets v.request })

-- the connection comes up with this step
abbrev pub comes_up : ConnectionState → ConnectionState → Bool
comes_up Start Up = true
comes_up _ _ = false

-- the session goes up if the connection did
abbrev pub bring_up : Bool → Dialogue → Dialogue
bring_up true d = process_event GoesUp d
bring_up false d = d

-- the session goes up with the connection
abbrev pub up_turn : ConnectionState → Fields → Turn Fields
up_turn before v = session_turn (bring_up (comes_up before v.machine.connection) (dialogue_of v)) v

-- how a part closes an end that was open before it
abbrev pub closing_departure : ℕ → List ℕ → Fields → Option Departure
closing_departure now octets v =
    part_departure (decoded_answer (safe_seen v.machine.settings.rule octets) now v.machine)
    (judge_part now octets v).leaving
    (not (is_closed v.machine.connection) && is_closed (machine_octets_turn octets now v.machine).left.connection)
    octets now

-- a part that goes up: machine and session, the kept request, going up, disconnecting if asked, the end of the session,
-- the departure, and the count, in this order
abbrev pub part_turn : ℕ → List ℕ → Fields → Turn Fields
part_turn now octets v =
    let before = v.machine.connection in
    turn_then
    (turn_then
    (turn_then (turn_then (turn_then (turn_then (judge_turn now octets v) (note_request_turn before octets))
    (up_turn before)) (leave_turn now (judge_part now octets v).leaving)) end_session_turn)
    (departure_turn (closing_departure now octets v)))
    (count_turn (decoded_answer (safe_seen v.machine.settings.rule octets) now v.machine) (waiting_time now v) now)

-- a message waits, and the machine may send
abbrev pub can_pack : Fields → Bool
can_pack v = not (is_nil v.waiting) && has_room v.machine

-- one unit of the first waiting messages is sent
abbrev pub pack_turn : ℕ → Fields → Turn Fields
pack_turn now v =
    turn_then (machine_turn (machine_send_turn (unit_text (take v.max v.waiting)) now v.machine) v)
    (λ w. still (record w { waiting = drop v.max v.waiting }))

-- one unit is sent if that is possible
abbrev pub pack_once_turn : ℕ → Fields → Turn Fields
pack_once_turn now v = if can_pack v then pack_turn now v else still v

-- how states take turns one after another: of what is kept alone this is a turn, and of a whole history the state
-- afterwards
pub record Way (V R : Type 0) : Type 0 where
  pub kept : V → Fields  -- what is kept of a state above the redundancy layer
  pub stays : V → R  -- nothing happens
  pub follows : R → (V → R) → R  -- one thing after another
  pub takes : (Fields → Turn Fields) → V → R  -- a turn of what is kept

-- the turns of what is kept above the redundancy layer
abbrev pub by_fields : Way Fields (Turn Fields)
by_fields = record { kept = λ v. v; stays = still; follows = turn_then; takes = λ next. next }

-- the parts that go up, in order, each wholly before the next
abbrev pub parts_by : {V R : Type 0} → Way V R → ℕ → List Part → V → R
parts_by w now [] v = w.stays v
parts_by w now (p ∷ ps) v = w.follows (w.takes (part_turn now p.1) v) (parts_by w now ps)

-- packing and sending while that is possible, at most this many units
abbrev pub pack_by : {V R : Type 0} → Way V R → ℕ → ℕ → V → R
pack_by w zero now v = w.stays v
pack_by w (suc n) now v =
    if can_pack (w.kept v) then w.follows (w.takes (pack_turn now) v) (pack_by w n now) else w.stays v

-- packing and sending until no message waits or the machine may not send: each unit takes at least one message, so this
-- many units suffice
abbrev pub send_by : {V R : Type 0} → Way V R → ℕ → V → R
send_by w now v = pack_by w (length (w.kept v).waiting) now v

-- these of what is kept
abbrev pub parts_turn : ℕ → List Part → Fields → Turn Fields
parts_turn now ps v = parts_by by_fields now ps v

abbrev pub pack_up_to_turn : ℕ → ℕ → Fields → Turn Fields
pack_up_to_turn n now v = pack_by by_fields n now v

abbrev pub send_turn : ℕ → Fields → Turn Fields
send_turn now v = send_by by_fields now v

-- why a command or status is refused, if it is
abbrev pub put_answer : (kind : ℕ) → List ℕ → Fields → Option PutFault
put_answer kind payload v = put_refusal v.session kind payload (length v.waiting)

-- why the end of the initialisation is refused, if it is
abbrev pub init_answer : Fields → Option InitFault
init_answer v = init_refusal v.session (length v.waiting)

-- the telegrams put in this dialogue are counted
abbrev pub count_accepted : Dialogue → Fields → Fields
count_accepted d v = record v { accepted = min (v.accepted + length d.history.put) (2 ^ 64 - 1) }

-- an accepted command or status is queued and counted
abbrev pub queue_turn : (kind : ℕ) → List ℕ → Fields → Turn Fields
queue_turn kind payload v =
    let d = process_event (Puts kind payload (length v.waiting)) (dialogue_of v) in
    session_turn d (count_accepted d v)

-- an accepted end of the initialisation queues its telegram
abbrev pub finish_turn : Fields → Turn Fields
finish_turn v = session_turn (process_event (Completes (length v.waiting)) (dialogue_of v)) v

-- an accepted command or status is queued and counted, then waiting messages are sent
abbrev pub put_turn : (kind : ℕ) → List ℕ → (now : ℕ) → Fields → Turn Fields
put_turn kind payload now v = turn_then (queue_turn kind payload v) (send_turn now)

-- an accepted end of the initialisation queues its telegram, then waiting messages are sent
abbrev pub init_done_turn : ℕ → Fields → Turn Fields
init_done_turn now v = turn_then (finish_turn v) (send_turn now)

-- a turn of the layers above, with this redundancy layer
abbrev pub with_red : Receiver → Turn Fields → Turn Inside
with_red r t =
    record {
      left = record { red = r; upper = t.left };
      sent = t.sent;
      taken = t.taken;
      made = t.made;
      units = t.units;
      talks = t.talks;
    }

-- a turn above the redundancy layer
abbrev pub upper_turn : (Fields → Turn Fields) → Inside → Turn Inside
upper_turn next v = with_red v.red (next v.upper)

-- the redundancy layer processes an input, and each part that goes up is processed
abbrev pub input_turn : ℕ → Input → Inside → Turn Inside
input_turn now i v = with_red (after i v.red) (parts_turn now (parts_passed i v.red) v.upper)

-- the end is closed
abbrev pub is_over : Inside → Bool
is_over v = is_closed v.upper.machine.connection

-- everything put is confirmed: the end is not closed, no message waits, and no unit is unconfirmed
abbrev pub is_settled : Inside → Bool
is_settled v = not (is_over v) && (is_nil v.upper.waiting && is_nil v.upper.machine.ring)

-- all layers take a turn of those above the redundancy layer
abbrev pub by_layers : Way Inside (Turn Inside)
by_layers = record { kept = λ v. v.upper; stays = still; follows = turn_then; takes = upper_turn }

-- how a state of all layers takes turns: what comes to its redundancy layer, and what it sends
pub record WholeWay (V R : Type 0) : Type 0 where
  pub way : Way V R  -- above the redundancy layer
  pub receives : ℕ → Input → V → R  -- the redundancy layer processes an input, and each part that goes up is processed
  pub sends : ℕ → V → R  -- packing and sending

-- what follows the machine's timers if they leave the end open: the redundancy layer's input, then sending
abbrev pub input_and_send_by : {V R : Type 0} → WholeWay V R → ℕ → Input → V → R
input_and_send_by w now i v =
    if is_closed (w.way.kept v).machine.connection then w.way.stays v else w.way.follows (w.receives now i v)
    (w.sends now)

-- a turn of the machine's timers at an open end, and what follows it
abbrev pub first_by : {V R : Type 0} → WholeWay V R → (Fields → Turn Fields) → ℕ → Input → V → R
first_by w timers now i v =
    if is_closed (w.way.kept v).machine.connection then w.way.stays v else w.way.follows (w.way.takes timers v)
    (input_and_send_by w now i)

-- each call: a datagram comes after the timeout check, on any channel; time passes for the machine's timers, then for
-- that of the redundancy layer
abbrev pub call_by : {V R : Type 0} → WholeWay V R → Call → V → R
call_by w (Close now) v = w.way.takes (close_turn now) v
call_by w (Put kind payload now) v = w.way.follows (w.way.takes (queue_turn kind payload) v) (w.sends now)
call_by w (InitDone now) v = w.way.follows (w.way.takes finish_turn v) (w.sends now)
call_by w (Tick now) v = first_by w (tick_turn now) now (RedTick now) v
call_by w (Deliver channel octets now) v = first_by w (guard_turn now) now (Datagram octets now) v

-- the turns of all layers that an end keeps
abbrev pub kept_way : WholeWay Inside (Turn Inside)
kept_way = record { way = by_layers; receives = input_turn; sends = λ now. upper_turn (send_turn now) }

-- the same of what is kept
abbrev pub input_and_send_turn : ℕ → Input → Inside → Turn Inside
input_and_send_turn now i v = input_and_send_by kept_way now i v

-- the turn of each call
abbrev pub turn : Call → Inside → Turn Inside
turn c v = call_by kept_way c v

-- a datagram comes
abbrev pub arrival_turn : ℕ → List ℕ → Inside → Turn Inside
arrival_turn now octets v = first_by kept_way (guard_turn now) now (Datagram octets now) v

-- what the redundancy layer does with a datagram, or None at a closed end
abbrev pub red_event : (now : ℕ) → List ℕ → Inside → Option RedEvent
red_event now octets v = if is_over v then None else Some (red_judged now octets v.red).event

-- the same after the timeout check, which may close the end
abbrev pub event_of : (now : ℕ) → List ℕ → Inside → Option RedEvent
event_of now octets v = if is_over v then None else red_event now octets (upper_turn (guard_turn now) v).left

-- time passes
abbrev pub time_turn : ℕ → Inside → Turn Inside
time_turn now v = first_by kept_way (tick_turn now) now (RedTick now) v

-- T_seq has passed for deferred parts of an open end, so the redundancy layer gives up what is missing before them
abbrev pub expires_deferral : (now : ℕ) → Inside → Bool
expires_deferral now v = if is_over v then false else is_due now v.red

-- the same at a tick, after the machine's timers, which may close the end
abbrev pub tick_expires_deferral : (now : ℕ) → Inside → Bool
tick_expires_deferral now v = if is_over v then false else expires_deferral now (upper_turn (tick_turn now) v).left
