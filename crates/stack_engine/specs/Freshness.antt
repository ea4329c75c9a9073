-- Freshness, first form, event by event: what is taken came in a PDU that confirms one this incarnation made less than
-- T_max before.
use Rattle.std.specs.Prelude.{ℕ, ◌≡◌, ◌≢◌, None, List, [], ◌∷◌, Ok}
use Rattle.safe_pdu.specs.Pdu.{Pdu}
use Rattle.safe_pdu.specs.Places.{safe_seen}
use Rattle.safe_machine.specs.Made.{Made}
use Rattle.safe_machine.specs.Law.{Fresh}
use Rattle.safe_machine.specs.World.Side.{Il, Fe}
use Rattle.end_settings.specs.EndSettings.{rule_of}
use Rattle.stack_end.specs.Ends.{EndState, Call, time_of}
use Rattle.stack_end.specs.Steps.{part_step}
use Rattle.stack_engine.specs.Pairs.{World, Event, start, present, made_of, refusal, apply_event}
use Rattle.stack_engine.specs.Pairs.Event.{Calls}
use Rattle.stack_engine.specs.Premise.{AtCall, AtOpened, Genuine, AreTyped}
use Rattle.stack_engine.specs.Headline.{taken_at}

-- if something is taken from a part, the part is a PDU that the peer made, and it is fresh
abbrev pub TakesFresh : ℕ → List Made → EndState → List ℕ → Type 0
TakesFresh now peer x octets =
    taken_at (part_step now octets x) ≢ taken_at x → (p : Pdu) × (safe_seen (rule_of x.settings) octets ≡ Ok p)
    × Fresh x.machine p now peer

-- this of each part that goes up in a call
abbrev pub FreshCall : List Made → Call → EndState → Type 0
FreshCall peer c x = AtCall (TakesFresh (time_of c) peer) c x

-- this of an event, with the PDUs of the present peer
abbrev pub FreshEvent : Event → World → Type 0
FreshEvent (Calls Il c) w = AtOpened (FreshCall (made_of (present Fe w)) c) (present Il w)
FreshEvent (Calls Fe c) w = AtOpened (FreshCall (made_of (present Il w)) c) (present Fe w)
FreshEvent _ w = Unit {0}

-- at every accepted event of a list, what is taken is fresh
abbrev pub AllFresh : List Event → World → Type 0
AllFresh [] w = Unit {0}
AllFresh (e ∷ es) w = (refusal e w ≡ None → FreshEvent e w) × AllFresh es (apply_event w e)

-- over every genuine list of events, what is taken is fresh
abbrev pub Freshness : Type 0
Freshness = (es : List Event) → AreTyped es → Genuine es start → AllFresh es start
