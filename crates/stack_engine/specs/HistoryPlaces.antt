-- Events as they are kept: small entries, with their bytes next to them and the settings of openings in a list of their
-- own.
use Rattle.std.specs.Prelude.{ℕ, ◌<◌, Option, Some, None, List, map, slice_get}
use Rattle.std.specs.List.{AllByRecursion}
use Rattle.safe_machine.specs.World.{Side}
use Rattle.end_settings.specs.ConfigValue.{settings_of, side_of}
use Rattle.end_settings.specs.declared.EndConfig.{EndConfig}
use Rattle.stack_end.specs.Ends.Call.{Close, Put, InitDone, Tick, Deliver}
use Rattle.stack_engine.specs.Pairs.{Event}
use Rattle.stack_engine.specs.Pairs.Event.{Open, Calls}
use Rattle.stack_engine.specs.declared.event.Call.{Call}
use Rattle.stack_engine.specs.declared.event.Call.TheVariants as call
use Rattle.stack_engine.specs.declared.history.Entry.{Entry}
use Rattle.stack_engine.specs.declared.history.Deed.{Deed}
use Rattle.stack_engine.specs.declared.history.Deed.TheVariants as deed

-- an opening with settings from the list; an entry without settings would be read as a tick
abbrev pub opened_by : Side → ℕ → ℕ → Option EndConfig → Event
opened_by side now first None = Calls side (Tick now)
opened_by side now first (Some config) = Open side (settings_of config) first now

-- the event of an entry
abbrev pub deed_event : List EndConfig → Side → ℕ → Deed → List ℕ → Event
deed_event configs side now (deed.Open config first_sn) octets = opened_by side now first_sn (slice_get configs config)
deed_event configs side now deed.Close octets = Calls side (Close now)
deed_event configs side now (deed.Put kind) octets = Calls side (Put kind octets now)
deed_event configs side now deed.InitDone octets = Calls side (InitDone now)
deed_event configs side now deed.Tick octets = Calls side (Tick now)
deed_event configs side now (deed.Deliver channel) octets = Calls side (Deliver channel octets now)

-- the event of an entry with its bytes
abbrev pub event_in : List EndConfig → Entry × List ℕ → Event
event_in configs (e, octets) = deed_event configs (side_of e.side) e.time e.doing octets

-- the events of entries, in order
abbrev pub events_in : List EndConfig → List (Entry × List ℕ) → List Event
events_in configs entries = map (event_in configs) entries

-- the place of an opening's settings is below `count`
abbrev pub IsPlaced : ℕ → Deed → Type 0
IsPlaced count (deed.Open config first_sn) = config < count
IsPlaced count _ = Unit {0}

-- this of an entry
abbrev pub IsWithin : ℕ → Entry × List ℕ → Type 0
IsWithin count e = IsPlaced count e.0.doing

-- this of all entries
abbrev pub AreWithin : ℕ → List (Entry × List ℕ) → Type 0
AreWithin count entries = AllByRecursion (IsWithin count) entries

-- what is kept of a call, without its bytes
abbrev pub deed_in : Call → Deed
deed_in call.Close = deed.Close
deed_in (call.Put kind payload) = deed.Put kind
deed_in call.InitDone = deed.InitDone
deed_in call.Tick = deed.Tick
deed_in (call.Deliver channel octets) = deed.Deliver channel
