-- The value of a pair: its history.
use Rattle.std.specs.Prelude.{◌≡◌, Option, Some, None, option_map, List, [], ◌∷◌, ◌++◌, map}
use Rattle.safe_machine.specs.World.{Side}
use Rattle.end_settings.specs.ConfigValue.{side_of}
use Rattle.stack_engine.specs.declared.event.Event.{Event as CodeEvent}
use Rattle.stack_engine.specs.declared.pair.Pair.TheInside.{Inside}
use Rattle.stack_engine.specs.Events.{event_of}
use Rattle.stack_engine.specs.declared.notes.Notes.{Notes}
use Rattle.stack_engine.specs.NoteValues.{AreNotes}
use Rattle.stack_engine.specs.Openings.{IsOfSession}
use Rattle.stack_engine.specs.Pairs.{Event, World, accepted_events, present, refusal, start, run}
use Rattle.stack_engine.specs.Pairs.Event.{Open, Calls}
use Rattle.stack_engine.specs.Premise.{AreTyped}
use Rattle.stack_engine.specs.Sides.{SidesRepresent}

-- the events that events of the code represent
abbrev pub events_of : List CodeEvent → List Event
events_of events = map event_of events

-- the accepted events of a pair
abbrev pub history_of : {A : Type 0} → Inside A → List Event
history_of p = p.history.events

-- the side of an event
abbrev pub side_in : Event → Side
side_in (Open side s first now) = side
side_in (Calls side c) = side

-- the side of the last event of a list
abbrev pub last_side : List Event → Option Side
last_side [] = None
last_side (e ∷ []) = Some (side_in e)
last_side (e ∷ other ∷ es) = last_side (other ∷ es)

-- the ends of a pair represent the world that its history leads to
pub record IsPair {A : Type 0} (p : Inside A) : Type 0 where
  pub typed : AreTyped (history_of p)  -- the events have values of their types
  pub stands : SidesRepresent p.sides (run (history_of p) start)  -- both ends represent that world
  pub last : option_map side_of p.last ≡ last_side (history_of p)  -- the side of the last event is kept

-- the history has grown by exactly those of the events that are accepted
abbrev pub RunsTo : List Event → List Event → List Event → Type 0
RunsTo before es after = after ≡ before ++ accepted_events es (run before start)

-- an event was refused for memory, and for nothing that is tested before; the history has grown by the accepted events
-- before it
abbrev pub RunsToFault : List Event → List Event → List Event → Type 0
RunsToFault before es after =
    (first : List Event) × (e : Event) × (rest : List Event) × (es ≡ first ++ e ∷ rest) × RunsTo before first after
    × IsOfSession (refusal e (run after start))

-- the notes are of the present incarnation of the side of the last event; before any event there are none
abbrev pub NotesOfLast : {A : Type 0} → Option Side → World → Option (Notes A) → Type 0
NotesOfLast None w notes = notes ≡ None
NotesOfLast (Some side) w notes = AreNotes notes (present side w)
