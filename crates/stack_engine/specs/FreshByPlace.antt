-- Freshness, second form, by indices of made PDUs. `promises_law` proves it equal to the first form, Freshness.
use Rattle.std.specs.Prelude.{ℕ, ◌+◌, ◌<◌, ◌≡◌, ◌≢◌, Some, List, take, Ok}
use Rattle.std.specs.List.{slice_get}
use Rattle.red_layer.specs.Parts.{Part}
use Rattle.safe_pdu.specs.Pdu.{Pdu}
use Rattle.safe_pdu.specs.Places.{safe_seen}
use Rattle.safe_machine.specs.Made.{Made}
use Rattle.safe_machine.specs.World.{Side}
use Rattle.end_settings.specs.EndSettings.{rule_of}
use Rattle.stack_end.specs.Ends.{EndState, Call, time_of}
use Rattle.stack_end.specs.Steps.{part_step}
use Rattle.stack_engine.specs.Pairs.{World, Event, start, run, present, made_of}
use Rattle.stack_engine.specs.Premise.{AreTyped}
use Rattle.stack_engine.specs.PremiseByPlace.{GenuineByPlace}
use Rattle.stack_engine.specs.CallsByPlace.{GoesUp, IsCallAt, other}

-- these bytes are the peer's PDU with index i, made upon this end's PDU with index j, whose number and timestamp it
-- confirms, and which is less than T_max old
pub record IsFreshAt (now : ℕ) (peer : List Made) (octets : List ℕ) (y : EndState) : Type 0 where
  pub pdu : Pdu  -- the PDU in these bytes
  pub read : safe_seen (rule_of y.settings) octets ≡ Ok pdu  -- the bytes read as it
  pub i : ℕ  -- its index
  pub carrier : Made  -- the PDU that the peer made with this index
  pub made : slice_get peer i ≡ Some carrier  -- it is among those that the peer made
  pub is : carrier.pdu ≡ pdu  -- it is the one read
  pub j : ℕ  -- the index of its basis
  pub basis : Made  -- the PDU of this end that it confirms
  pub own : slice_get y.machine.made j ≡ Some basis  -- it is among those that this end made
  pub upon : carrier.behind ≡ j + 1  -- the peer made the carrier upon it
  pub number : basis.pdu.sn ≡ pdu.cs  -- the carrier confirms its number
  pub stamp : basis.pdu.ts ≡ pdu.cts  -- and its timestamp
  pub recent : now < basis.time + y.machine.settings.t_max  -- it is less than T_max old

-- each part of each accepted call from which something is taken is fresh
abbrev pub FreshByPlace : List Event → World → Type 0
FreshByPlace es w =
    (n k : ℕ) (side : Side) (c : Call) (p : Part) (x y : EndState) → IsCallAt es w n side c x → GoesUp c x k p y →
    (part_step (time_of c) p.1 y).session.history.taken ≢ y.session.history.taken →
    IsFreshAt (time_of c) (made_of (present (other side) (run (take n es) w))) p.1 y

-- freshness, second form, holds over every list of events that is genuine by place
abbrev pub FreshByPlaceLaw : Type 0
FreshByPlaceLaw = (es : List Event) → AreTyped es → GenuineByPlace es start → FreshByPlace es start
