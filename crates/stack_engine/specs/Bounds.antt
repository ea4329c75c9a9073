-- How much one event makes at most, so that room for it can be made before it.
use Rattle.std.specs.Prelude.{ℕ, ◌≡◌, ◌+◌, ◌≤◌, true, List, [], length}
use Rattle.std.specs.List.{AllByRecursion}
use Rattle.octets.specs.declared.limits.TheConstants.{PAYLOAD_MAX, SAFE_PDU_MAX}
use Rattle.safe_machine.specs.Made.{Made}
use Rattle.pdi_session.specs.SessionStep.{Item}
use Rattle.end_settings.specs.EndSettings.{EndSettings, are_fit, rule_of}
use Rattle.stack_end.specs.Ends.{EndState, Call, new_end}
use Rattle.stack_end.specs.Steps.{call}
use Rattle.stack_end.specs.Datagrams.{upper_of}
use Rattle.stack_engine.specs.Pairs.{Event, start, run, present}
use Rattle.stack_engine.specs.Pairs.Event.{Calls}
use Rattle.stack_engine.specs.Premise.{AtOpened, AreTyped, IsTyped}
use Rattle.safe_machine.specs.World.{Side}

-- the most PDUs of a call: 36 by the timeout check or tick, 37 by each of nine parts, and 32 units
abbrev pub most_pdus : ℕ
most_pdus = 401

-- the most telegrams taken in a call: three of each of nine parts
abbrev pub most_taken : ℕ
most_taken = 27

-- the payload is no longer than 357 bytes
abbrev pub IsSmallItem : Item → Type 0
IsSmallItem i = length i.1 ≤ PAYLOAD_MAX

-- the PDU is no longer than 1,250 bytes
abbrev pub IsSmallPdu : EndSettings → Made → Type 0
IsSmallPdu s m = length (upper_of (rule_of s) m) ≤ SAFE_PDU_MAX

-- from one state of an end to the next no more is made and taken than this
pub record FewMore (x y : EndState) : Type 0 where
  pub channels : 1 ≤ x.settings.channels  -- there is at least one channel
  pub pdus : length y.machine.made ≤ length x.machine.made + most_pdus  -- the PDUs made
  pub takes : length y.session.history.taken ≤ length x.session.history.taken + most_taken  -- the telegrams taken
  pub small_pdus : AllByRecursion (IsSmallPdu y.settings) y.machine.made  -- the length of all PDUs
  pub small_items : AllByRecursion IsSmallItem y.session.history.taken  -- the length of all payloads

-- every call in every state that a list of events leads to keeps these bounds
abbrev pub FewMoreLaw : Type 0
FewMoreLaw = (es : List Event) → AreTyped es → (side : Side) (c : Call) → IsTyped (Calls side c)
    → AtOpened (λ x. FewMore x (call c x)) (present side (run es start))

-- what an end makes when it is opened
pub record FewFirst (x : EndState) : Type 0 where
  pub channels : 1 ≤ x.settings.channels  -- there is at least one channel
  pub pdus : length x.machine.made ≤ most_pdus  -- the PDUs made
  pub takes : x.session.history.taken ≡ []  -- nothing is taken
  pub small_pdus : AllByRecursion (IsSmallPdu x.settings) x.machine.made  -- the length of all PDUs

-- every opening keeps these bounds
abbrev pub FewFirstLaw : Type 0
FewFirstLaw = (side : Side) (s : EndSettings) (first now : ℕ) → are_fit side s ≡ true
    → FewFirst (new_end side s first now)

-- no end ever defers more parts than the q of its settings
abbrev pub QueueLaw : Type 0
QueueLaw = (es : List Event) → AreTyped es → (side : Side)
    → AtOpened (λ x. length x.red.waiting ≤ x.settings.q) (present side (run es start))
