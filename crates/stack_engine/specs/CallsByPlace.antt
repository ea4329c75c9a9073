-- Words of the second forms: a call in a history, and a part of a datagram in a call, each by its place.
use Rattle.std.specs.Prelude.{ℕ, ◌≡◌, ◌≢◌, Option, Some, None, List, take}
use Rattle.std.specs.List.{slice_get}
use Rattle.red_layer.specs.Parts.{Part}
use Rattle.red_layer.specs.Redundancy.{Input, Datagram, Tick as RedTick, parts_passed}
use Rattle.red_layer.specs.Service.{arrivals_of}
use Rattle.safe_machine.specs.declared.ConnectionState.TheVariants.{Closed}
use Rattle.safe_machine.specs.World.{Side}
use Rattle.safe_machine.specs.World.Side.{Il, Fe}
use Rattle.stack_end.specs.Ends.{EndState, Call, time_of}
use Rattle.stack_end.specs.Ends.Call.{Tick, Deliver}
use Rattle.stack_end.specs.Steps.{guard_step as end_guarded, tick_step, parts_step, with_input}
use Rattle.stack_engine.specs.Pairs.{World, Event, present, refusal, run}
use Rattle.stack_engine.specs.Pairs.Event.{Calls}

-- the other side
abbrev pub other : Side → Side
other Il = Fe
other Fe = Il

-- the event with index n is an accepted call of a side, whose present end is x
pub record IsCallAt (es : List Event) (w : World) (n : ℕ) (side : Side) (c : Call) (x : EndState) : Type 0 where
  pub event : slice_get es n ≡ Some (Calls side c)  -- the event
  pub accepted : refusal (Calls side c) (run (take n es) w) ≡ None  -- it is not refused
  pub at : present side (run (take n es) w) ≡ Some x  -- the present end before it

-- the end after the timeout check of an arrival, or after the machine's tick
abbrev pub guard_end : Call → EndState → EndState
guard_end (Tick now) x = tick_step now x
guard_end (Deliver channel octets now) x = end_guarded now x
guard_end _ x = x

-- what a call brings to the redundancy layer
abbrev pub input_of : Call → Option Input
input_of (Tick now) = Some (RedTick now)
input_of (Deliver channel octets now) = Some (Datagram octets now)
input_of _ = None

-- in a call of x the part with index k goes up, when the end is y
pub record GoesUp (c : Call) (x : EndState) (k : ℕ) (p : Part) (y : EndState) : Type 0 where
  pub lives : x.machine.connection ≢ Closed  -- x is not closed
  pub goes_on : (guard_end c x).machine.connection ≢ Closed  -- nor is it after the timeout check
  pub input : Input  -- the input of the redundancy layer
  pub brings : input_of c ≡ Some input  -- the call brings it
  pub part : slice_get (parts_passed input (guard_end c x).red) k ≡ Some p  -- the part is among those that go up
  -- the earlier ones lead to y
  pub meanwhile : parts_step (time_of c) (take k (parts_passed input (guard_end c x).red))
      (with_input input (guard_end c x)) ≡ y

-- a part with this number came to an end
pub record Came (number : ℕ) (inputs : List Input) : Type 0 where
  pub place : ℕ  -- the place of the input
  pub input : Input  -- the input
  pub at : slice_get inputs place ≡ Some input  -- it is at this place
  pub index : ℕ  -- the index of the part in it
  pub part : Part  -- the part
  pub there : slice_get (arrivals_of input) index ≡ Some part  -- it is at this index
  pub is : part.0 ≡ number  -- it has the number
