-- Two machines and the network between them, over any list of events.
use Rattle.std.specs.Prelude.{ℕ, ◌≡◌, ◌≢◌, ◌≤◌, ◌⊎◌, Bool, true, false, Option, Some, None, List, [], ◌∷◌, length, drop, if◌then◌else◌}
use Rattle.safe_machine.specs.declared.ConnectionState.{ConnectionState}
use Rattle.safe_machine.specs.declared.ConnectionState.TheVariants.{Closed, Down, Start}
use Rattle.safe_pdu.specs.declared.CodeLength.TheVariants.{Eight}
use Rattle.safe_pdu.specs.Pdu.{Pdu}
use Rattle.safe_machine.specs.Made.{Made}
use Rattle.safe_machine.specs.Settings.{Settings, is_legal}
use Rattle.safe_machine.specs.State.{State}
use Rattle.safe_machine.specs.Decision.{is_stranger}
use Rattle.safe_machine.specs.Step.{arrive, guard, history, leave, new_state, send, tick}
use Rattle.safe_machine.specs.Turns.{new_view}
use Rattle.safe_pdu.specs.declared.reasons.Reason.{Reason}
use Rattle.safe_pdu.specs.declared.reasons.Detail.{Detail}

-- The two ends.
pub data Side : Type 0 where
  -- The interlocking, which is the client.
  Il : Side
  -- The field element, which is the server.
  Fe : Side

-- An incarnation of the field element.
pub record Served : Type 0 where
  pub machine : State
  -- The number of the incarnation of the interlocking whose ConnReq it accepted.
  pub joined : Option ℕ

-- Both ends, their earlier incarnations, and their clocks.
pub record World : Type 0 where
  -- The present incarnation of the interlocking.
  pub il : State
  -- The earlier ones, the latest first.
  pub il_before : List State
  -- The present incarnation of the field element.
  pub fe : State
  -- The incarnation of the interlocking that it is joined to.
  pub joined : Option ℕ
  -- The earlier ones, the latest first.
  pub fe_before : List Served
  -- How many PDUs of the present interlocking are dead: made before the later of both ends' openings.
  pub dead_il : ℕ
  -- How many PDUs of the present field element are dead.
  pub dead_fe : ℕ
  -- The time of the interlocking's last event, 0 before any.
  pub clock_il : ℕ
  -- The time of the field element's last event, 0 before any.
  pub clock_fe : ℕ

-- An end before its first opening.
abbrev pub unopened_state : State
unopened_state =
    history (new_view (record {
      client = true;
      own = 0;
      peer = 0;
      n_sendmax = 1;
      t_max = 0;
      t_h = 0;
      mwa = 1;
      pdu_limit = 0;
      rule = record { length = Eight; initial_value = [] };
    }) 0 0 Closed) [] []

-- Nothing is opened yet.
abbrev pub start : World
start =
    record {
      il = unopened_state;
      il_before = [];
      fe = unopened_state;
      joined = None;
      fe_before = [];
      dead_il = 0;
      dead_fe = 0;
      clock_il = 0;
      clock_fe = 0;
    }

-- What can happen in a world.
pub data Event : Type 0 where
  -- An end is opened, if its settings are legal.
  Open : Side → (settings : Settings) → (first now : ℕ) → Event
  -- An end sends a unit.
  Send : Side → (unit : List ℕ) → (now : ℕ) → Event
  -- The caller closes an end.
  Close : Side → (reason : Reason) (detail : Detail) (now : ℕ) → Event
  -- An end checks its timeouts.
  Guard : Side → (now : ℕ) → Event
  -- Time passes at an end.
  Tick : Side → (now : ℕ) → Event
  -- A PDU arrives at an end.
  Arrive : Side → Pdu → (now : ℕ) → Event

-- The settings in a role.
abbrev pub as_role : Bool → Settings → Settings
as_role client s = record s { client = client }

-- The interlocking is opened again.
abbrev pub open_il : Settings → ℕ → ℕ → World → World
open_il settings first now w =
    record w {
      il = new_state (as_role true settings) first now;
      il_before = w.il ∷ w.il_before;
      dead_il = 0;
      dead_fe = length w.fe.made;
    }

-- The field element is opened again.
abbrev pub open_fe : Settings → ℕ → ℕ → World → World
open_fe settings first now w =
    record w {
      fe = new_state (as_role false settings) first now;
      joined = None;
      fe_before = record { machine = w.fe; joined = w.joined } ∷ w.fe_before;
      dead_il = length w.il.made;
      dead_fe = 0;
    }

-- The interlocking has moved to this state.
abbrev pub with_il : State → World → World
with_il s w = record w { il = s }

-- A field element that goes from Down to Start has accepted the ConnReq of the present interlocking.
abbrev pub is_joining : ConnectionState → ConnectionState → Bool
is_joining Down Start = true
is_joining _ _ = false

-- The field element has moved to this state.
abbrev pub with_fe : State → World → World
with_fe s w = record w {
  fe = s;
  joined = if is_joining w.fe.connection s.connection then Some (length w.il_before)
      else w.joined;
}

-- The end at which an event happens.
abbrev pub event_end : Event → Side
event_end (Open e settings first now) = e
event_end (Send e unit now) = e
event_end (Close e reason detail now) = e
event_end (Guard e now) = e
event_end (Tick e now) = e
event_end (Arrive e p now) = e

-- The own time of that end.
abbrev pub event_time : Event → ℕ
event_time (Open e settings first now) = now
event_time (Send e unit now) = now
event_time (Close e reason detail now) = now
event_time (Guard e now) = now
event_time (Tick e now) = now
event_time (Arrive e p now) = now

-- The value for an end, if the interlocking has `il` and the field element has `fe`.
abbrev pub at_end : Side → ℕ → ℕ → ℕ
at_end Il il fe = il
at_end Fe il fe = fe

-- The machines after an event.
abbrev pub change_world : World → Event → World
change_world w (Open Il settings first now) = if is_legal settings then open_il settings first now w else w
change_world w (Open Fe settings first now) = if is_legal settings then open_fe settings first now w else w
change_world w (Send Il unit now) = with_il (send unit now w.il) w
change_world w (Send Fe unit now) = with_fe (send unit now w.fe) w
change_world w (Close Il reason detail now) = with_il (leave reason detail now w.il) w
change_world w (Close Fe reason detail now) = with_fe (leave reason detail now w.fe) w
change_world w (Guard Il now) = with_il (guard now w.il) w
change_world w (Guard Fe now) = with_fe (guard now w.fe) w
change_world w (Tick Il now) = with_il (tick now w.il) w
change_world w (Tick Fe now) = with_fe (tick now w.fe) w
change_world w (Arrive Il p now) = with_il (arrive p now w.il) w
change_world w (Arrive Fe p now) = with_fe (arrive p now w.fe) w

-- The world after an event, with the event's time as the last one of its end.
abbrev pub set_clock : Event → World → World → World
set_clock e before w =
    record w {
      clock_il = at_end (event_end e) (event_time e) before.clock_il;
      clock_fe = at_end (event_end e) before.clock_fe (event_time e);
    }

-- The world after an event.
abbrev pub apply_event : World → Event → World
apply_event w e = set_clock e w (change_world w e)

-- The world after a list of events.
abbrev pub run : List Event → World → World
run [] w = w
run (e ∷ es) w = run es (apply_event w e)

-- The PDU is one of these.
abbrev pub Among : Pdu → List Made → Type 0
Among p [] = ⊥
Among p (m ∷ ms) = (m.pdu ≡ p) ⊎ Among p ms

-- If the end is not closed and the PDU has its identifiers, the PDU is one of these, which the peer made since the
-- later opening.
abbrev pub GenuineAt : State → Pdu → List Made → Type 0
GenuineAt s p live = s.connection ≢ Closed → is_stranger s p ≡ false → Among p live

-- This for an arrival at either end.
abbrev pub GenuineEvent : World → Event → Type 0
GenuineEvent w (Arrive Il p now) = GenuineAt w.il p (drop w.dead_fe w.fe.made)
GenuineEvent w (Arrive Fe p now) = GenuineAt w.fe p (drop w.dead_il w.il.made)
GenuineEvent w _ = Unit {0}

-- Every event of a list is genuine.
abbrev pub Genuine : List Event → World → Type 0
Genuine [] w = Unit {0}
Genuine (e ∷ es) w = GenuineEvent w e × Genuine es (apply_event w e)

-- The clock of the event's end does not go back.
abbrev pub TimelyEvent : World → Event → Type 0
TimelyEvent w e = at_end (event_end e) w.clock_il w.clock_fe ≤ event_time e

-- Every event of a list is timely.
abbrev pub Timely : List Event → World → Type 0
Timely [] w = Unit {0}
Timely (e ∷ es) w = TimelyEvent w e × Timely es (apply_event w e)
