-- Two machines that receive the peer's PDUs one by one, in the order in which they were made.
use Rattle.std.specs.Prelude.{ℕ, zero, suc, ◌+◌, ◌≡◌, ◌≢◌, ◌≤◌, Bool, true, false, if◌then◌else◌, List, [], ◌∷◌, ◌++◌, length, drop, take}
use Rattle.safe_pdu.specs.declared.Kind.TheVariants.{RetrReq}
use Rattle.safe_pdu.specs.Pdu.{Pdu}
use Rattle.safe_machine.specs.declared.ConnectionState.{ConnectionState}
use Rattle.safe_machine.specs.declared.ConnectionState.TheVariants.{Closed, Down, Start, Up}
use Rattle.safe_machine.specs.Made.{Made, units}
use Rattle.safe_machine.specs.State.{State, unconfirmed}
use Rattle.safe_machine.specs.Decision.{is_stranger}
use Rattle.safe_machine.specs.Step.{guard, may_send}
use Rattle.safe_machine.specs.World.{World, Event, start, apply_event, run, Genuine, GenuineEvent, Timely, TimelyEvent}
use Rattle.safe_machine.specs.World.Side.{Il, Fe}
use Rattle.safe_machine.specs.World.Event.{Open, Close, Guard, Tick, Arrive}

-- The timeout check changes nothing: neither T_max nor the limit of PDUs is reached.
abbrev pub GuardHolds : State → ℕ → Type 0
GuardHolds s now = guard now s ≡ s

-- The PDU is the one that the peer made with this index. It has the end's identifiers, and the timeout check passes.
pub record NextArrival (s : State) (p : Pdu) (now index : ℕ) (peer : List Made) : Type 0 where
  -- The PDU as the peer made it.
  pub made : Made
  -- The PDUs that the peer made after it.
  pub later : List Made
  -- It has this index among the peer's PDUs.
  pub at : drop index peer ≡ made ∷ later
  -- Its fields are those of the PDU that arrives.
  pub is : made.pdu ≡ p
  -- It has the end's identifiers.
  pub ours : is_stranger s p ≡ false
  -- The timeout check passes.
  pub holds : GuardHolds s now

-- An event in order: each end is opened at most once, and no timeout check disconnects. An end receives the PDU of its
-- peer whose index is the number of arrivals so far: `il` or `fe`.
abbrev pub InOrderEvent : (il fe : ℕ) → World → Event → Type 0
InOrderEvent il fe w (Open Il settings first now) = w.il_before ≡ []
InOrderEvent il fe w (Open Fe settings first now) = w.fe_before ≡ []
InOrderEvent il fe w (Guard Il now) = GuardHolds w.il now
InOrderEvent il fe w (Guard Fe now) = GuardHolds w.fe now
InOrderEvent il fe w (Tick Il now) = GuardHolds w.il now
InOrderEvent il fe w (Tick Fe now) = GuardHolds w.fe now
InOrderEvent il fe w (Arrive Il p now) = (w.il_before ≢ []) × NextArrival w.il p now il w.fe.made
InOrderEvent il fe w (Arrive Fe p now) = (w.fe_before ≢ []) × NextArrival w.fe p now fe w.il.made
InOrderEvent il fe w _ = Unit {0}

-- How many PDUs have arrived at the interlocking after an event, if n had before.
abbrev pub heard_by_il : Event → ℕ → ℕ
heard_by_il (Arrive Il p now) n = n + 1
heard_by_il _ n = n

-- How many PDUs have arrived at the field element after an event, if n had before.
abbrev pub heard_by_fe : Event → ℕ → ℕ
heard_by_fe (Arrive Fe p now) n = n + 1
heard_by_fe _ n = n

-- Every event of a list is in order, with the arrivals counted.
abbrev pub InOrder : (il fe : ℕ) → List Event → World → Type 0
InOrder il fe [] w = Unit {0}
InOrder il fe (e ∷ es) w = InOrderEvent il fe w e × InOrder (heard_by_il e il) (heard_by_fe e fe) es (apply_event w e)

-- How many PDUs have arrived at the interlocking after a list of events, if n had before.
abbrev pub all_heard_by_il : List Event → ℕ → ℕ
all_heard_by_il [] n = n
all_heard_by_il (e ∷ es) n = all_heard_by_il es (heard_by_il e n)

-- How many PDUs have arrived at the field element after a list of events, if n had before.
abbrev pub all_heard_by_fe : List Event → ℕ → ℕ
all_heard_by_fe [] n = n
all_heard_by_fe (e ∷ es) n = all_heard_by_fe es (heard_by_fe e n)

-- No RetrReq was made.
abbrev pub AsksNothing : List Made → Type 0
AsksNothing [] = Unit {0}
AsksNothing (m ∷ ms) = (m.pdu.kind ≢ RetrReq) × AsksNothing ms

-- The state of a client after a number of arrivals.
abbrev pub client_state : ℕ → ConnectionState
client_state zero = Start
client_state (suc n) = Up

-- The state of a server after a number of arrivals.
abbrev pub server_state : ℕ → ConnectionState
server_state zero = Down
server_state (suc zero) = Start
server_state (suc (suc n)) = Up

-- What an end has if everything has arrived at both ends.
pub record AllThere (s peer : State) : Type 0 where
  -- It is Up.
  pub up : s.connection ≡ Up
  -- It has taken all units of its peer.
  pub taken : s.taken ≡ units peer.made
  -- It has the peer's window.
  pub window : s.window ≡ peer.settings.n_sendmax
  -- Only a full window of the peer keeps it from sending.
  pub full : may_send s ≡ false → s.window ≤ length (unconfirmed s)

-- What every list of events in order keeps, with these numbers of arrivals.
pub record KeepsOrder (il fe : ℕ) (w : World) : Type 0 where
  -- Neither end requests a retransmission.
  pub il_asks_nothing : AsksNothing w.il.made
  pub fe_asks_nothing : AsksNothing w.fe.made
  -- An end that is not closed has the state that its arrivals lead to.
  pub client : w.il.connection ≢ Closed → w.il.connection ≡ client_state il
  pub server : w.fe.connection ≢ Closed → w.fe.connection ≡ server_state fe
  -- An end that is not closed has taken exactly the units of the Data that arrived.
  pub il_taken : w.il.connection ≢ Closed → w.il.taken ≡ units (take il w.fe.made)
  pub fe_taken : w.fe.connection ≢ Closed → w.fe.taken ≡ units (take fe w.il.made)
  -- If everything has arrived and neither end is closed, both have everything.
  pub il_all : w.il.connection ≢ Closed → w.fe.connection ≢ Closed → il ≡ length w.fe.made → fe ≡ length w.il.made
      → AllThere w.il w.fe
  pub fe_all : w.il.connection ≢ Closed → w.fe.connection ≢ Closed → il ≡ length w.fe.made → fe ≡ length w.il.made
      → AllThere w.fe w.il

-- Every genuine, timely list of events in order keeps the order.
abbrev pub OrderLaw : Type 0
OrderLaw =
    (events : List Event) → Genuine events start → Timely events start → InOrder 0 0 events start →
    KeepsOrder (all_heard_by_il events 0) (all_heard_by_fe events 0) (run events start)

-- The caller closes an end.
abbrev pub is_close : Event → Bool
is_close (Close side reason detail now) = true
is_close _ = false

-- The caller closes an end in one of these events.
abbrev pub has_close : List Event → Bool
has_close [] = false
has_close (e ∷ es) = if is_close e then true else has_close es

-- An end that was opened is not closed.
pub record StaysOpen (w : World) : Type 0 where
  pub il : w.il_before ≢ [] → w.il.connection ≢ Closed
  pub fe : w.fe_before ≢ [] → w.fe.connection ≢ Closed

-- If no caller closes an end, no end closes.
abbrev pub StaysLaw : Type 0
StaysLaw =
    (events : List Event) → Genuine events start → Timely events start → InOrder 0 0 events start
    → has_close events ≡ false →
    StaysOpen (run events start)

-- A list with one more event at its end.
pub record OneMore (es : List Event) (e : Event) : Type 0 where
  -- It leads to where the list leads, and one event further.
  pub leads : (w : World) → run (es ++ e ∷ []) w ≡ apply_event (run es w) e
  -- It is genuine if the list and the event are.
  pub genuine : (w : World) → Genuine es w → GenuineEvent (run es w) e → Genuine (es ++ e ∷ []) w
  -- It is timely if the list and the event are.
  pub timely : (w : World) → Timely es w → TimelyEvent (run es w) e → Timely (es ++ e ∷ []) w
  -- It is in order if the list and the event are.
  pub in_order : (il fe : ℕ) (w : World) → InOrder il fe es w
      → InOrderEvent (all_heard_by_il es il) (all_heard_by_fe es fe) (run es w) e
      → InOrder il fe (es ++ e ∷ []) w
  -- An arrival at the interlocking is counted.
  pub il_heard : (n : ℕ) → all_heard_by_il (es ++ e ∷ []) n ≡ heard_by_il e (all_heard_by_il es n)
  -- An arrival at the field element is counted.
  pub fe_heard : (n : ℕ) → all_heard_by_fe (es ++ e ∷ []) n ≡ heard_by_fe e (all_heard_by_fe es n)
  -- It has a close if the list has one or the event is one.
  pub closes : has_close (es ++ e ∷ []) ≡ (if has_close es then true else is_close e)

-- One more event, for every list.
abbrev pub OneMoreLaw : Type 0
OneMoreLaw = (es : List Event) (e : Event) → OneMore es e
