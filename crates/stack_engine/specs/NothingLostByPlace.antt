-- Nothing lost, second form, by counts and places. `promises_law` proves it equal to the first form, Faithful.
use Rattle.std.specs.Prelude.{ℕ, ◌+◌, ◌<◌, ◌≤◌, ◌≡◌, ◌≢◌, Some, List, [], length}
use Rattle.std.specs.List.{slice_get, slice_index}
use Rattle.safe_pdu.specs.declared.Kind.TheVariants.{RetrReq}
use Rattle.safe_machine.specs.declared.ConnectionState.TheVariants.{Closed, Up}
use Rattle.safe_machine.specs.Made.{Made}
use Rattle.safe_machine.specs.World.{Side}
use Rattle.safe_machine.specs.World.Side.{Il, Fe}
use Rattle.pdi_session.specs.declared.Phase.{Phase}
use Rattle.pdi_session.specs.declared.Phase.TheVariants.{Initialising, Established}
use Rattle.end_settings.specs.EndSettings.{EndSettings}
use Rattle.stack_end.specs.Ends.{EndState}
use Rattle.stack_engine.specs.Pairs.{World, Event, start, run, present}
use Rattle.stack_engine.specs.Premise.{AreTyped}
use Rattle.stack_engine.specs.PremiseByPlace.{FaithfulByPlace}
use Rattle.stack_engine.specs.ByPlace.{AgreeUpTo}
use Rattle.stack_engine.specs.CallsByPlace.{Came}
use Rattle.stack_engine.specs.OpenUnits.{items_among, open_units}

-- each PDU that the other made has come to an open end
abbrev pub HasHeardAll : EndState → EndState → Type 0
HasHeardAll x other = x.machine.connection ≢ Closed → (k : ℕ) (m : Made) → slice_get other.machine.made k ≡ Some m
    → Came k x.inputs

-- what was put at x was taken by the other, each at its place, and the rest waits at x
pub record WasTakenOrWaits (x other : EndState) : Type 0 where
  -- those taken and those that wait are all that were put
  pub counted : length other.session.history.taken + length (items_among x.session.waiting)
      ≡ length x.session.history.put
  -- the first were taken
  pub was_taken : AgreeUpTo (length other.session.history.taken) x.session.history.put other.session.history.taken
  -- the others wait, in order
  pub waits : (n : ℕ) → n < length (items_among x.session.waiting)
      → slice_get (items_among x.session.waiting) n
      ≡ slice_get x.session.history.put (length other.session.history.taken + n)

-- a message waits only while as many units are open as the window has
abbrev pub WaitsForRoom : EndState → Type 0
WaitsForRoom x = x.session.waiting ≢ [] → x.machine.window ≤ length (open_units x)

-- the peer in the settings of one end is the other
pub record Knows (x other : EndSettings) : Type 0 where
  pub identifier : x.connection.peer ≡ other.connection.own  -- by its identifier
  pub name : x.addressing.peer ≡ other.addressing.own  -- by its name

-- the settings of two ends match
pub record Fit (il fe : EndSettings) : Type 0 where
  pub il_knows : Knows il fe  -- the interlocking's peer is the field element
  pub fe_knows : Knows fe il  -- the field element's peer is the interlocking
  pub code_length : il.connection.rule.length ≡ fe.connection.rule.length  -- the same code length
  pub initial_value : il.connection.rule.initial_value ≡ fe.connection.rule.initial_value  -- the same initial value
  pub protocol : il.addressing.protocol ≡ fe.addressing.protocol  -- the same protocol type
  pub place : ℕ  -- the place of the interlocking's version among those of the field element
  pub version : slice_get fe.versions place ≡ Some (slice_index il.versions 0)  -- it is there

-- the present phase of an end's session
abbrev pub phase_at : EndState → Phase
phase_at x = x.session.history.state.phase

-- both are Initialising until the field element first was Established, and Established from then on
pub record AreInOnePhase (il fe : EndState) : Type 0 where
  -- both are Initialising
  pub before : ((n : ℕ) → slice_get fe.session.history.phases n ≢ Some Established) → (phase_at il ≡ Initialising)
      × (phase_at fe ≡ Initialising)
  -- both are Established
  pub since : (n : ℕ) → slice_get fe.session.history.phases n ≡ Some Established → (phase_at il ≡ Established)
      × (phase_at fe ≡ Established)

-- what holds if every PDU has arrived
pub record IsAllThere (il fe : EndState) : Type 0 where
  -- commands put were taken or wait
  pub commands : WasTakenOrWaits il fe
  -- status put was taken or waits
  pub status : WasTakenOrWaits fe il
  -- the interlocking lets messages wait only for the window
  pub il_waits : WaitsForRoom il
  -- so does the field element
  pub fe_waits : WaitsForRoom fe
  -- closed, the interlocking keeps no message
  pub il_keeps : il.machine.connection ≡ Closed → length il.session.waiting ≡ 0
  -- nor does the field element
  pub fe_keeps : fe.machine.connection ≡ Closed → length fe.session.waiting ≡ 0
  -- both are Up, if the settings match
  pub up : Fit il.settings fe.settings → (il.machine.connection ≡ Up) × (fe.machine.connection ≡ Up)
  -- both are in one phase, if no message waits
  pub phases : Fit il.settings fe.settings → il.session.waiting ≡ [] → fe.session.waiting ≡ [] → AreInOnePhase il fe

-- the promise nothing lost, second form, of a world
pub record NothingLostByPlace (w : World) : Type 0 where
  -- no PDU made is a RetrReq
  pub asks_nothing : (side : Side) (x : EndState) (n : ℕ) (m : Made) → present side w ≡ Some x
      → slice_get x.machine.made n ≡ Some m → m.pdu.kind ≢ RetrReq
  -- what holds if every PDU has arrived at each open end
  pub all_there : (il fe : EndState) → present Il w ≡ Some il → present Fe w ≡ Some fe → HasHeardAll il fe
      → HasHeardAll fe il → IsAllThere il fe

-- the second form holds after every list of events that is faithful by place
abbrev pub NothingLostByPlaceLaw : Type 0
NothingLostByPlaceLaw = (es : List Event) → AreTyped es → FaithfulByPlace es → NothingLostByPlace (run es start)
