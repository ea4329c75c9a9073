-- The event that an event of the code represents.
use Rattle.std.specs.Prelude.{ℕ, length}
use Rattle.end_settings.specs.ConfigValue.{settings_of, side_of}
use Rattle.stack_end.specs.Ends.{Call}
use Rattle.stack_end.specs.Ends.Call.{Close, Put, InitDone, Tick, Deliver}
use Rattle.stack_engine.specs.Pairs.{Event}
use Rattle.stack_engine.specs.Pairs.Event.{Open, Calls}
use Rattle.safe_machine.specs.World.{Side}
use Rattle.stack_engine.specs.declared.event.Call.{Call as CodeCall}
use Rattle.stack_engine.specs.declared.event.Call.TheVariants as call
use Rattle.stack_engine.specs.declared.event.Action.{Action}
use Rattle.stack_engine.specs.declared.event.Action.TheVariants as doing
use Rattle.stack_engine.specs.declared.event.Event.{Event as CodeEvent}

-- a call of the code at a time
abbrev pub call_of : CodeCall → ℕ → Call
call_of call.Close now = Close now
call_of (call.Put kind payload) now = Put kind payload.now now
call_of call.InitDone now = InitDone now
call_of call.Tick now = Tick now
call_of (call.Deliver channel octets) now = Deliver channel octets.now now

-- an opening or a call of the code at a side and a time
abbrev pub doing_of : Side → ℕ → Action → Event
doing_of side now (doing.Open config first_sn) = Open side (settings_of config) first_sn now
doing_of side now (doing.Call c) = Calls side (call_of c now)

-- an event of the code
abbrev pub event_of : CodeEvent → Event
event_of e = doing_of (side_of e.side) e.time e.doing

-- the length of the payload that a call puts, 0 if it is not a put
abbrev pub put_size : CodeCall → ℕ
put_size (call.Put kind payload) = length payload.now
put_size _ = 0
