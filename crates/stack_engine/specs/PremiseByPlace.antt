-- The premises genuine and faithful, second form, by index of call and part. `promises_law` proves it equal to the
-- first (Premise, Faithful).
use Rattle.std.specs.Prelude.{ℕ, ◌+◌, ◌≤◌, ◌≡◌, ◌≢◌, None, Some, true, List, take}
use Rattle.std.specs.List.{slice_get}
use Rattle.red_layer.specs.Parts.{Part}
use Rattle.red_layer.specs.Redundancy.{Input}
use Rattle.red_layer.specs.Service.{arrivals_of}
use Rattle.red_layer.specs.Masking.{NoDeadlineFalls, no_wait}
use Rattle.safe_pdu.specs.SafeText.{code_octets}
use Rattle.safe_machine.specs.declared.ConnectionState.TheVariants.{Closed}
use Rattle.safe_machine.specs.Made.{Made}
use Rattle.safe_machine.specs.Step.{guard}
use Rattle.safe_machine.specs.World.{Side}
use Rattle.safe_machine.specs.World.Side.{Il, Fe}
use Rattle.end_settings.specs.EndSettings.{EndSettings, rule_of}
use Rattle.stack_end.specs.Ends.{EndState, Call, time_of}
use Rattle.stack_end.specs.Ends.Call.{Close, Deliver}
use Rattle.stack_end.specs.Datagrams.{upper_of}
use Rattle.stack_engine.specs.Pairs.{World, Event, start, run, present, refusal}
use Rattle.stack_engine.specs.Pairs.Event.{Open}
use Rattle.stack_engine.specs.Premise.{is_asked_of}
use Rattle.stack_engine.specs.CallsByPlace.{Came, GoesUp, IsCallAt, input_of, other}

-- how many PDUs of a side's present incarnation are dead
abbrev pub dead_of : Side → World → ℕ
dead_of Il w = w.dead_il
dead_of Fe w = w.dead_fe

-- the present end of a side made these bytes as a PDU with this index
pub record IsMadeBy (side : Side) (w : World) (octets : List ℕ) : Type 0 where
  pub maker : EndState  -- the end
  pub present : present side w ≡ Some maker  -- it is the present one of the side
  pub index : ℕ  -- the index of the PDU
  pub made : Made  -- the PDU
  pub there : slice_get maker.machine.made index ≡ Some made  -- it is among those made, at this index
  pub text : octets ≡ upper_of (rule_of maker.settings) made  -- these bytes are its encoding

-- the other side made these bytes, under a code of the same length, and the PDU is not dead
pub record IsAlive (side : Side) (w : World) (y : EndState) (octets : List ℕ) : Type 0 where
  pub by : IsMadeBy (other side) w octets  -- who made them
  pub living : dead_of (other side) w ≤ by.index  -- the PDU is not dead
  -- both have the same code length
  pub code : code_octets (rule_of y.settings).length ≡ code_octets (rule_of by.maker.settings).length

-- if an open end is asked about these bytes, they are alive
abbrev pub IsAnswered : Side → World → EndState → List ℕ → Type 0
IsAnswered side w y octets = y.machine.connection ≢ Closed → is_asked_of y octets ≡ true → IsAlive side w y octets

-- the part with this index comes in a call
pub record ComesIn (c : Call) (index : ℕ) (p : Part) : Type 0 where
  pub channel : ℕ  -- the channel of the datagram
  pub octets : List ℕ  -- the datagram
  pub now : ℕ  -- its time
  pub delivers : c ≡ Deliver channel octets now  -- the call is its delivery
  pub there : slice_get (arrivals_of (Input.Datagram octets now)) index ≡ Some p  -- the part is in it

-- genuine, second form: at each accepted call, of each part
pub record GenuineByPlace (es : List Event) (w : World) : Type 0 where
  -- when it comes
  pub comes : (n k : ℕ) (side : Side) (c : Call) (p : Part) (x : EndState) → IsCallAt es w n side c x → ComesIn c k p
      → IsAnswered side (run (take n es) w) x p.1
  -- when it goes up
  pub goes_up : (n k : ℕ) (side : Side) (c : Call) (p : Part) (x y : EndState) → IsCallAt es w n side c x
      → GoesUp c x k p y
      → IsAnswered side (run (take n es) w) y p.1

-- the number of a part is the index of the PDU that it is
pub record BearsIndex (side : Side) (w : World) (p : Part) : Type 0 where
  pub by : IsMadeBy (other side) w p.1  -- who made the PDU
  pub index : by.index ≡ p.0  -- its index is the number

-- a part that comes is at most q beyond each number that has not come before
abbrev pub ComesNear : ℕ → List Input → Type 0
ComesNear q inputs =
    (n k m : ℕ) (i : Input) (p : Part) → slice_get inputs n ≡ Some i → slice_get (arrivals_of i) k ≡ Some p
    → (Came m (take n inputs) → ⊥) → p.0 ≤ m + q

-- the timeout check of an end changes nothing
abbrev pub GuardKeeps : ℕ → EndState → Type 0
GuardKeeps now y = guard now y.machine ≡ y.machine

-- faithful, second form
pub record FaithfulByPlace (es : List Event) : Type 0 where
  -- the list is genuine
  pub genuine : GenuineByPlace es start
  -- each side is opened at most once
  pub opened_once : (n : ℕ) (side : Side) (s : EndSettings) (first now : ℕ)
      → slice_get es n ≡ Some (Open side s first now)
      → refusal (Open side s first now) (run (take n es) start) ≡ None → present side (run (take n es) start) ≡ None
  -- no caller closes an end
  pub not_closed : (n : ℕ) (side : Side) (c : Call) (x : EndState) (now : ℕ) → IsCallAt es start n side c x
      → c ≢ Close now
  -- each part that comes has the index of its PDU as number
  pub indexed : (n k : ℕ) (side : Side) (c : Call) (p : Part) (x : EndState) → IsCallAt es start n side c x
      → ComesIn c k p
      → BearsIndex side (run (take n es) start) p
  -- the timeout check of each arrival and tick changes nothing
  pub holds : (n : ℕ) (side : Side) (c : Call) (x : EndState) (i : Input) → IsCallAt es start n side c x
      → input_of c ≡ Some i → GuardKeeps (time_of c) x
  -- nor does that of each part that goes up
  pub holds_up : (n k : ℕ) (side : Side) (c : Call) (p : Part) (x y : EndState) → IsCallAt es start n side c x
      → GoesUp c x k p y → GuardKeeps (time_of c) y
  -- no part comes more than q ahead of a missing one
  pub near : (side : Side) (x : EndState) → present side (run es start) ≡ Some x → ComesNear x.settings.q x.inputs
  -- no T_seq deadline passes
  pub in_time : (side : Side) (x : EndState) → present side (run es start) ≡ Some x
      → NoDeadlineFalls x.settings.t_seq no_wait x.inputs
  -- both have the same code length
  pub one_length : (il fe : EndState) → present Il (run es start) ≡ Some il → present Fe (run es start) ≡ Some fe
      → il.settings.connection.rule.length ≡ fe.settings.connection.rule.length
  -- both have the same initial value
  pub one_value : (il fe : EndState) → present Il (run es start) ≡ Some il → present Fe (run es start) ≡ Some fe
      → il.settings.connection.rule.initial_value ≡ fe.settings.connection.rule.initial_value
