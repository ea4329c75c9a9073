-- Two sessions, each of which receives the telegrams of the other's queue in order.
use Rattle.std.specs.Prelude.{◌≡◌, ◌≢◌, ◌⊎◌, ◌==◌, ◌≤◌, ℕ, true, false, List, [], ◌∷◌, ◌++◌, length, Some, None, ⊤}
use Rattle.std.specs.List.{list_any}
use Rattle.octets.specs.Lists.{IsBeginning}
use Rattle.pdi_session.specs.declared.TheConstants.{CHECKSUM_MAX}
use Rattle.pdi_session.specs.declared.Phase.{Phase}
use Rattle.pdi_session.specs.declared.Phase.TheVariants.{Idle, Initialising, Established}
use Rattle.pdi_session.specs.Settings.{Addressing, Interlocking, Field}
use Rattle.pdi_session.specs.Tables.{is_early}
use Rattle.pdi_session.specs.SessionStep.{Event, Arrives}
use Rattle.pdi_session.specs.Histories.{History, new_history, add_event, add_events, is_ended}
use Rattle.pdi_session.specs.Laws.{was_established}

-- the histories of both sessions
pub record SessionPair : Type 0 where
  -- the interlocking's history
  pub il : History
  -- the field element's history
  pub fe : History

-- an event at one of the two sessions
pub data PairEvent : Type 0 where
  AtIl : (event : Event) → PairEvent
  AtFe : (event : Event) → PairEvent

-- the histories after an event
abbrev pub apply_event : PairEvent → SessionPair → SessionPair
apply_event (AtIl e) j = record { il = add_event e j.il; fe = j.fe }
apply_event (AtFe e) j = record { il = j.il; fe = add_event e j.fe }

-- the histories after a list of events
abbrev pub apply_events : List PairEvent → SessionPair → SessionPair
apply_events [] j = j
apply_events (e ∷ es) j = apply_events es (apply_event e j)

-- a telegram that arrives is the next one of the peer's queue, and the session is not over; other events are always
-- possible
abbrev pub IsNext : Event → History → History → Type 0
IsNext (Arrives t) h peer = (is_ended h.state.phase ≡ false) × IsBeginning (h.judged ++ t ∷ []) peer.queue
IsNext e h peer = ⊤

-- the same for an event at either session
abbrev pub IsNextAt : PairEvent → SessionPair → Type 0
IsNextAt (AtIl e) j = IsNext e j.il j.fe
IsNextAt (AtFe e) j = IsNext e j.fe j.il

-- two sessions are in turn: every event of the list is the next one when it happens
abbrev pub InTurn : List PairEvent → SessionPair → Type 0
InTurn [] j = ⊤
InTurn (e ∷ es) j = IsNextAt e j × InTurn es (apply_event e j)

-- if a telegram ended the session, it was in a phase before Initialising, and the peer has put nothing
abbrev pub EndsEarly : History → History → Type 0
EndsEarly h peer = (phase : Phase) → h.ended_in ≡ Some phase → (is_early phase ≡ true) × (peer.put ≡ [])

-- two new sessions, an interlocking and a field element
abbrev pub new_sessions : Addressing → ℕ → Addressing → List ℕ → List ℕ → SessionPair
new_sessions il version fe versions checksum =
    record { il = new_history il (Interlocking version); fe = new_history fe (Field versions checksum) }

-- this holds of both sessions
abbrev pub EndEarly : SessionPair → Type 0
EndEarly j = EndsEarly j.il j.fe × EndsEarly j.fe j.il

-- of two sessions in turn, a telegram ends one only before Initialising, and then its peer has put nothing; settings
-- need not match
abbrev pub PhaseLaw : Type 0
PhaseLaw = (il fe : Addressing) (version : ℕ) (versions checksum : List ℕ) → length checksum ≤ CHECKSUM_MAX
    → (es : List PairEvent)
    → InTurn es (new_sessions il version fe versions checksum)
    → EndEarly (apply_events es (new_sessions il version fe versions checksum))

-- of two sessions in turn, what each application takes is a prefix of what the other has put
abbrev pub TakesFrontLaw : Type 0
TakesFrontLaw = (il fe : Addressing) (version : ℕ) (versions checksum : List ℕ) → length checksum ≤ CHECKSUM_MAX
    → (es : List PairEvent)
    → InTurn es (new_sessions il version fe versions checksum) → let end =
    apply_events es (new_sessions il version fe versions checksum) in
    IsBeginning end.il.taken end.fe.put × IsBeginning end.fe.taken end.il.put

-- an event appended to a list extends the history by it; sessions in turn stay in turn if it is the next one
abbrev pub OneMoreLaw : Type 0
OneMoreLaw = ((es : List Event) (e : Event) (h : History) → add_events (es ++ e ∷ []) h ≡ add_event e (add_events es h))
    × ((es : List PairEvent) (e : PairEvent) (j : SessionPair)
    → apply_events (es ++ e ∷ []) j ≡ apply_event e (apply_events es j))
    × ((es : List PairEvent) (e : PairEvent) (j : SessionPair) → InTurn es j → IsNextAt e (apply_events es j)
    → InTurn (es ++ e ∷ []) j)

-- the settings of two sessions match: protocol type, names, and a version that the field element has
pub record Fits (il : Addressing) (version : ℕ) (fe : Addressing) (versions : List ℕ) : Type 0 where
  -- both have the same protocol type
  pub protocol : il.protocol ≡ fe.protocol
  -- the interlocking's own name is the field element's peer
  pub own : il.own ≡ fe.peer
  -- the interlocking's peer is the field element
  pub peer : il.peer ≡ fe.own
  -- the field element has the interlocking's version
  pub taken : list_any (λ v. v == version) versions ≡ true

-- if the settings match, no telegram ends either session, except one that reaches the field element while it is Idle
abbrev pub MatchingLaw : Type 0
MatchingLaw = (il fe : Addressing) (version : ℕ) (versions checksum : List ℕ) → length checksum ≤ CHECKSUM_MAX
    → Fits il version fe versions → (es : List PairEvent)
    → InTurn es (new_sessions il version fe versions checksum) → let end =
    apply_events es (new_sessions il version fe versions checksum) in
    (end.il.ended_in ≡ None) × ((phase : Phase) → end.fe.ended_in ≡ Some phase → phase ≡ Idle)

-- both are Initialising, or both are Established; the latter if the field element was Established before
abbrev pub AreInStep : History → History → Type 0
AreInStep il fe =
    ((was_established fe.phases ≡ false) × (il.state.phase ≡ Initialising) × (fe.state.phase ≡ Initialising))
    ⊎ ((was_established fe.phases ≡ true) × (il.state.phase ≡ Established) × (fe.state.phase ≡ Established))

-- a session that has begun and is not over
pub record IsRunning (h : History) : Type 0 where
  -- it is not Idle
  pub begun : h.state.phase ≢ Idle
  -- it is not Ended
  pub unended : is_ended h.state.phase ≡ false

-- two sessions in turn that run and have judged all of each other's queue are in step
abbrev pub InStepLaw : Type 0
InStepLaw = (il fe : Addressing) (version : ℕ) (versions checksum : List ℕ) → length checksum ≤ CHECKSUM_MAX
    → (es : List PairEvent)
    → InTurn es (new_sessions il version fe versions checksum) → let end =
    apply_events es (new_sessions il version fe versions checksum) in
    IsRunning end.il → IsRunning end.fe → end.il.judged ≡ end.fe.queue → end.fe.judged ≡ end.il.queue
    → AreInStep end.il end.fe
