-- The events of a pair, and the room for more.
use Rattle.std.specs.Prelude.{ℕ, ◌≤◌, List, [], length}
use Rattle.stack_engine.specs.declared.event.Call.{Call}
use Rattle.stack_engine.specs.declared.event.Call.TheVariants as call
use Rattle.stack_engine.specs.declared.event.Action.{Action}
use Rattle.stack_engine.specs.declared.event.Action.TheVariants as doing
use Rattle.stack_engine.specs.declared.event.Event.{Event as CodeEvent}
use Rattle.stack_engine.specs.Pairs.{Event}

-- the value of a history
pub record HistoryValue : Type 0 where
  pub events : List Event  -- the events, the first one first
  pub places : ℕ  -- for how many more events there is room
  pub octets : ℕ  -- for how many of their bytes there is room
  pub openings : ℕ  -- for how many openings there is room

-- the bytes that a call brings: of a payload or of a datagram
abbrev pub call_octets : Call → List ℕ
call_octets (call.Put kind payload) = payload.now
call_octets (call.Deliver channel octets) = octets.now
call_octets _ = []

-- there is room for what an event does
abbrev pub HasPlaceFor : Action → HistoryValue → Type 0
HasPlaceFor (doing.Open config first_sn) h = (1 ≤ h.places) × (1 ≤ h.openings)
HasPlaceFor (doing.Call c) h = (1 ≤ h.places) × (length (call_octets c) ≤ h.octets)

-- there is room for this event
abbrev pub HasPlace : CodeEvent → HistoryValue → Type 0
HasPlace e h = HasPlaceFor e.doing h
