-- Two programs, each with stations: their calls with results, and the events of a pair that these represent.
use Rattle.std.specs.Prelude.{ℕ, ◌≤◌, Some, Result, Ok, Err, List, [], ◌∷◌, ◌++◌, take}
use Rattle.pdi_session.specs.SessionStep.{Item}
use Rattle.channels.specs.ChannelHistory.{SentDatagram}
use Rattle.end_settings.specs.ConfigValue.{settings_of, side_of}
use Rattle.end_settings.specs.declared.EndConfig.{EndConfig}
use Rattle.end_settings.specs.declared.Side.{Side}
use Rattle.end_settings.specs.declared.Side.TheVariants.{Interlocking, FieldElement}
use Rattle.stack_end.specs.Ends.{Call}
use Rattle.end_for_callers.specs.CallResults.{IsAnswered, IsOpened, IsPulled, IsTaken, Pop}
use Rattle.end_for_callers.specs.Calls.{StationValue}
use Rattle.end_for_callers.specs.declared.CallFault.{CallFault}
use Rattle.end_for_callers.specs.declared.Outcome.{Outcome}
use Rattle.end_for_callers.specs.declared.StationFault.{StationFault}
use Rattle.end_for_callers.specs.declared.station.Rooms.{Rooms}
use Rattle.stack_engine.specs.Incarnations.{puts_in}
use Rattle.stack_engine.specs.Pairs.{Event}
use Rattle.stack_engine.specs.Pairs.Event.{Open, Calls}

-- a call of a program on one side: its arguments, its result, the buffer afterwards, and the station afterwards
pub data Step : Type 0 where
  Opens : Side → EndConfig → (first_sn : ℕ) → Rooms → (now : ℕ) → Result StationValue StationFault → Step
  Called : Side → Call → Result Outcome CallFault → StationValue → Step
  Takes : Side → (buffer : List ℕ) → Pop → (left : List ℕ) → StationValue → Step
  Pulls : Side → (buffer : List ℕ) → Pop → (left : List ℕ) → StationValue → Step

-- a station that was opened, and what passed between it and its program
pub record Held : Type 0 where
  pub station : StationValue  -- as the last call left it
  pub put : List Item  -- the telegrams put, in order
  pub given : List Item  -- the telegrams that `take` returned, in order
  pub pulled : List SentDatagram  -- the datagrams that `next_datagram` returned, with their channels, in order

-- the stations of both sides, the latest first; a program calls the latest of its side
pub record Programs : Type 0 where
  pub ils : List Held  -- those of the interlocking
  pub fes : List Held  -- those of the field element

-- no station has been opened
abbrev pub no_programs : Programs
no_programs = record { ils = []; fes = [] }

-- the stations of a side
abbrev pub stations_of : Side → Programs → List Held
stations_of Interlocking p = p.ils
stations_of FieldElement p = p.fes

-- P holds of the latest station, and there is one
abbrev pub AtLatest : (StationValue → Type 0) → List Held → Type 0
AtLatest P [] = ⊥
AtLatest P (h ∷ before) = P h.station

-- the contracts of `Station` allow this step
abbrev pub IsStep : Step → Programs → Type 0
IsStep (Opens side config first_sn rooms now (Ok s)) p = IsOpened side config first_sn rooms now s
IsStep (Opens side config first_sn rooms now (Err f)) p = Unit {0}
IsStep (Called side c answer t) p = AtLatest (λ s. IsAnswered c answer s t) (stations_of side p)
IsStep (Takes side buffer answer left t) p = AtLatest (λ s. IsTaken buffer answer left s t) (stations_of side p)
IsStep (Pulls side buffer answer left t) p = AtLatest (λ s. IsPulled buffer answer left s t) (stations_of side p)

-- the telegram that an accepted put adds
abbrev pub puts_by : Result Outcome CallFault → Call → List Item
puts_by (Ok o) c = puts_in c
puts_by (Err f) c = []

-- what a successful pop returns: a tag, and the bytes at the start of the buffer
abbrev pub popped_items : Pop → (left : List ℕ) → List (ℕ × List ℕ)
popped_items (Ok (Some (tag, size))) left = (tag, take size left) ∷ []
popped_items _ left = []

-- the programs with these stations of a side
abbrev pub with_held : Side → List Held → Programs → Programs
with_held Interlocking hs p = record { ils = hs; fes = p.fes }
with_held FieldElement hs p = record { ils = p.ils; fes = hs }

-- a station that was just opened
abbrev pub new_held : StationValue → Held
new_held s = record { station = s; put = []; given = []; pulled = [] }

-- an opening that succeeds adds a station
abbrev pub add_opened : Result StationValue StationFault → List Held → List Held
add_opened (Ok s) hs = new_held s ∷ hs
add_opened (Err f) hs = hs

-- a station after a call, with what was put, given and pulled
abbrev pub after_call : StationValue → (put given : List Item) → (pulled : List SentDatagram) → Held → Held
after_call t put given pulled h =
    record { station = t; put = h.put ++ put; given = h.given ++ given; pulled = h.pulled ++ pulled }

-- the latest station after a call
abbrev pub goes_on : StationValue → (put given : List Item) → (pulled : List SentDatagram) → List Held → List Held
goes_on t put given pulled [] = []
goes_on t put given pulled (h ∷ before) = after_call t put given pulled h ∷ before

-- both programs after a step
abbrev pub held_after : Step → Programs → Programs
held_after (Opens side config first_sn rooms now answer) p = with_held side (add_opened answer (stations_of side p)) p
held_after (Called side c answer t) p = with_held side (goes_on t (puts_by answer c) [] [] (stations_of side p)) p
held_after (Takes side buffer answer left t) p =
    with_held side (goes_on t [] (popped_items answer left) [] (stations_of side p)) p
held_after (Pulls side buffer answer left t) p =
    with_held side (goes_on t [] [] (popped_items answer left) (stations_of side p)) p

-- the contracts allow every step of a list
abbrev pub AreSteps : List Step → Programs → Type 0
AreSteps [] p = Unit {0}
AreSteps (x ∷ xs) p = IsStep x p × AreSteps xs (held_after x p)

-- both programs after a list of steps
abbrev pub programs_after : List Step → Programs → Programs
programs_after [] p = p
programs_after (x ∷ xs) p = programs_after xs (held_after x p)

-- the time is not before that of the side's last call
abbrev pub IsLater : ℕ → List Held → Type 0
IsLater now [] = Unit {0}
IsLater now (h ∷ before) = h.station.time ≤ now

-- a side is opened again no earlier than its last call: no contract ensures this, the program must
abbrev pub OpensLater : Step → Programs → Type 0
OpensLater (Opens side config first_sn rooms now (Ok s)) p = IsLater now (stations_of side p)
OpensLater _ p = Unit {0}

-- this of every step of a list
abbrev pub AllLater : List Step → Programs → Type 0
AllLater [] p = Unit {0}
AllLater (x ∷ xs) p = OpensLater x p × AllLater xs (held_after x p)

-- the event that a step represents: an opening that succeeds, or an accepted call
abbrev pub event_of : Step → List Event
event_of (Opens side config first_sn rooms now (Ok s)) = Open (side_of side) (settings_of config) first_sn now ∷ []
event_of (Called side c (Ok o) t) = Calls (side_of side) c ∷ []
event_of _ = []

-- the events that a list of steps represents
abbrev pub events_of : List Step → List Event
events_of [] = []
events_of (x ∷ xs) = event_of x ++ events_of xs
