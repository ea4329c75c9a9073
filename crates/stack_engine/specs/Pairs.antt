-- Two ends with all their incarnations, and what an event does to them.
use Rattle.std.specs.Prelude.{ℕ, ◌+◌, ◌^◌, nat_lt, Bool, true, false, ◌||◌, Option, Some, None, is_none, List, [], ◌∷◌, length, if◌then◌else◌}
use Rattle.std.specs.Option.{option_map}
use Rattle.std.specs.Str.{bytes_eq}
use Rattle.octets.specs.declared.limits.TheConstants.{TIME_MAX}
use Rattle.safe_pdu.specs.declared.CodeRule.{CodeRule}
use Rattle.safe_machine.specs.Made.{Made}
use Rattle.safe_machine.specs.World.{Side}
use Rattle.safe_machine.specs.World.Side.{Il, Fe}
use Rattle.pdi_session.specs.declared.PutFault.{PutFault}
use Rattle.pdi_session.specs.declared.InitFault.{InitFault}
use Rattle.pdi_session.specs.SessionStep.{put_refusal, init_refusal}
use Rattle.end_settings.specs.EndSettings.{EndSettings, are_fit, rule_of}
use Rattle.stack_end.specs.Dialogue.{session_in}
use Rattle.stack_end.specs.Ends.{EndState, new_end, Call, time_of}
use Rattle.stack_end.specs.Ends.Call.{Put, InitDone}
use Rattle.stack_end.specs.Steps.{call}
use Rattle.stack_end.specs.Datagrams.{upper_of}

-- an incarnation of the field element
pub record JoinedEnd : Type 0 where
  pub end : EndState  -- its state
  pub joined : Option ℕ  -- the number of the interlocking incarnation whose ConnReq it accepted

-- the incarnations of both ends, the latest first; the first opening has number 1
pub record World : Type 0 where
  pub ils : List EndState  -- of the interlocking
  pub fes : List JoinedEnd  -- of the field element
  pub dead_il : ℕ  -- how many PDUs of the present interlocking are dead: made before the later of both openings
  pub dead_fe : ℕ  -- how many of the present field element are

-- neither end has been opened
abbrev pub start : World
start = record { ils = []; fes = []; dead_il = 0; dead_fe = 0 }

-- the states of field element incarnations
abbrev pub ends_of : List JoinedEnd → List EndState
ends_of [] = []
ends_of (f ∷ fs) = f.end ∷ ends_of fs

-- the present incarnation of an end, if it was opened
abbrev pub latest : List EndState → Option EndState
latest [] = None
latest (x ∷ before) = Some x

-- the present incarnation of a side, if it was opened
abbrev pub present : Side → World → Option EndState
present Il w = latest w.ils
present Fe w = latest (ends_of w.fes)

-- the PDUs that it made
abbrev pub made_of : Option EndState → List Made
made_of None = []
made_of (Some x) = x.machine.made

-- an event: an opening of a side with settings, first sequence number and time, or a call of a side
pub data Event : Type 0 where
  Open : Side → EndSettings → (first now : ℕ) → Event
  Calls : Side → Call → Event

-- why an event is refused, apart from want of memory
pub data Refusal : Type 0 where
  EndNotOpen : Refusal
  BadConfig : Refusal
  Clock : Refusal
  PutRefused : PutFault → Refusal
  InitRefused : InitFault → Refusal

-- the time is before the last, or after 2^62 ms
abbrev pub is_untimely : ℕ → ℕ → Bool
is_untimely last now = nat_lt now last || nat_lt TIME_MAX now

-- the time of the end's last event, 0 if it was never opened
abbrev pub last_time : Option EndState → ℕ
last_time None = 0
last_time (Some x) = x.time

-- the refusals by the session: of a put or of the end of the initialisation
abbrev pub session_refusal : Call → EndState → Option Refusal
session_refusal (Put kind payload now) x =
    option_map PutRefused (put_refusal (session_in x.session) kind payload (length x.session.waiting))
session_refusal (InitDone now) x =
    option_map InitRefused (init_refusal (session_in x.session) (length x.session.waiting))
session_refusal _ x = None

-- the first refusal of a call that applies: not open, time, session
abbrev pub call_refusal : Call → Option EndState → Option Refusal
call_refusal c None = Some EndNotOpen
call_refusal c (Some x) = if is_untimely x.time (time_of c) then Some Clock else session_refusal c x

-- the first refusal of an opening that applies: settings, time
abbrev pub open_refusal : Side → EndSettings → ℕ → Option EndState → Option Refusal
open_refusal side s now x =
    if are_fit side s then (if is_untimely (last_time x) now then Some Clock else None) else Some BadConfig

-- the first refusal of an event that applies
abbrev pub refusal : Event → World → Option Refusal
refusal (Open side s first now) w = open_refusal side s now (present side w)
refusal (Calls side c) w = call_refusal c (present side w)

-- one of the PDUs has these bytes
abbrev pub has_made : CodeRule → List ℕ → List Made → Bool
has_made rule octets [] = false
has_made rule octets (m ∷ ms) = if bytes_eq octets (upper_of rule m) then true else has_made rule octets ms

-- the number of the latest incarnation that made a PDU of these bytes
abbrev pub latest_maker : List ℕ → List EndState → Option ℕ
latest_maker octets [] = None
latest_maker octets (x ∷ before) =
    if has_made (rule_of x.settings) octets x.machine.made then Some (length before + 1) else latest_maker octets before

-- the join of a field element: set once, in the call in which it accepts its first ConnReq, to the latest interlocking
-- incarnation that made it
abbrev pub joined_by : List EndState → Option ℕ → (before after : Option (List ℕ)) → Option ℕ
joined_by ils old None (Some octets) = latest_maker octets ils
joined_by ils old None None = old
joined_by ils old (Some octets) after = old

-- the field element after a call, with its join
abbrev pub with_joined : List EndState → JoinedEnd → EndState → JoinedEnd
with_joined ils f x = record { end = x; joined = joined_by ils f.joined f.end.request x.request }

-- a call of the present interlocking
abbrev pub call_il : Call → List EndState → List EndState
call_il c [] = []
call_il c (x ∷ before) = call c x ∷ before

-- a call of the present field element
abbrev pub call_fe : Call → List EndState → List JoinedEnd → List JoinedEnd
call_fe c ils [] = []
call_fe c ils (f ∷ before) = with_joined ils f (call c f.end) ∷ before

-- the world after an accepted event; an opening makes all PDUs of the peer dead
abbrev pub change_world : Event → World → World
change_world (Open Il s first now) w =
    record { ils = new_end Il s first now ∷ w.ils; fes = w.fes; dead_il = 0; dead_fe = length (made_of (present Fe w)) }
change_world (Open Fe s first now) w =
    record {
      ils = w.ils;
      fes = record { end = new_end Fe s first now; joined = None } ∷ w.fes;
      dead_il = length (made_of (present Il w));
      dead_fe = 0;
    }
change_world (Calls Il c) w = record w { ils = call_il c w.ils }
change_world (Calls Fe c) w = record w { fes = call_fe c w.ils w.fes }

-- the new world, or the old one if the event is refused
abbrev pub unless_refused : Option Refusal → World → World → World
unless_refused None old new = new
unless_refused (Some why) old new = old

-- the world after an event: a refused one changes nothing
abbrev pub apply_event : World → Event → World
apply_event w e = unless_refused (refusal e w) w (change_world e w)

-- the world after a list of events
abbrev pub run : List Event → World → World
run [] w = w
run (e ∷ es) w = run es (apply_event w e)

-- the events of a list that are accepted
abbrev pub accepted_events : List Event → World → List Event
accepted_events [] w = []
accepted_events (e ∷ es) w =
    if is_none (refusal e w) then e ∷ accepted_events es (apply_event w e) else accepted_events es (apply_event w e)
