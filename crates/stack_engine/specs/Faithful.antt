-- The premise faithful and the promise nothing lost, first form, event by event and by lists.
use Rattle.std.specs.Prelude.{ℕ, ◌<◌, ◌≤◌, ◌≡◌, ◌≢◌, ◌⊎◌, true, false, Option, Some, None, List, [], ◌∷◌, ◌++◌, drop, length}
use Rattle.std.specs.List.{AllByRecursion, list_any}
use Rattle.std.specs.Prelude.{◌==◌}
use Rattle.red_layer.specs.FiniteMap.{has_number}
use Rattle.red_layer.specs.Parts.{Part}
use Rattle.red_layer.specs.Redundancy.{Datagram}
use Rattle.red_layer.specs.Service.{arrivals, arrivals_of}
use Rattle.red_layer.specs.Masking.{QNear, NoDeadlineFalls, no_wait}
use Rattle.safe_machine.specs.declared.ConnectionState.TheVariants.{Up as IsUp}
use Rattle.safe_machine.specs.Made.{Made, units}
use Rattle.safe_machine.specs.State.{unconfirmed}
use Rattle.safe_machine.specs.InOrder.{AsksNothing, GuardHolds}
use Rattle.safe_machine.specs.World.Side.{Il, Fe}
use Rattle.pdi_session.specs.declared.Phase.TheVariants.{Initialising, Established}
use Rattle.pdi_session.specs.Settings.{first_version}
use Rattle.pdi_session.specs.Laws.{was_established}
use Rattle.end_settings.specs.EndSettings.{rule_of}
use Rattle.stack_end.specs.Dialogue.{phase_in}
use Rattle.stack_end.specs.Ends.{EndState, is_shut, Call}
use Rattle.stack_end.specs.Ends.Call.{Close, Tick, Deliver}
use Rattle.stack_end.specs.Datagrams.{upper_of}
use Rattle.stack_engine.specs.Pairs.{World, Event, start, present, refusal, apply_event, run}
use Rattle.stack_engine.specs.Pairs.Event.{Open, Calls}
use Rattle.stack_engine.specs.Premise.{AtCall, AtOpened, Genuine, AreTyped}
use Rattle.stack_engine.specs.Headline.{put_at, taken_at}
use Rattle.stack_engine.specs.Settled.{items_waiting}

-- a part with number k is the peer's PDU with index k
abbrev pub CarriesPdu : Option EndState → Part → Type 0
CarriesPdu None p = ⊥
CarriesPdu (Some peer) p = (m : Made) × (later : List Made) × (drop p.0 peer.machine.made ≡ m ∷ later)
    × (p.1 ≡ upper_of (rule_of peer.settings) m)

-- this of the part that a call brings
abbrev pub CarriesAll : Option EndState → Call → Type 0
CarriesAll peer (Deliver channel octets now) = AllByRecursion (CarriesPdu peer) (arrivals_of (Datagram octets now))
CarriesAll peer _ = Unit {0}

-- no timeout check disconnects: neither the first of a call nor that of a part
abbrev pub GuardsHold : Call → EndState → Type 0
GuardsHold (Tick now) x = GuardHolds x.machine now × AtCall (λ y octets. GuardHolds y.machine now) (Tick now) x
GuardsHold (Deliver channel octets now) x =
    GuardHolds x.machine now × AtCall (λ y part. GuardHolds y.machine now) (Deliver channel octets now) x
GuardsHold _ x = Unit {0}

-- the call is not a close
abbrev pub IsNoClose : Call → Type 0
IsNoClose (Close now) = ⊥
IsNoClose _ = Unit {0}

-- a faithful call: no close, each part under its index, and no timeout check disconnects
abbrev pub FaithfulCall : Option EndState → Call → EndState → Type 0
FaithfulCall peer c x = IsNoClose c × CarriesAll peer c × GuardsHold c x

-- a faithful event: each end is opened at most once, and each call is faithful
abbrev pub FaithfulEvent : Event → World → Type 0
FaithfulEvent (Open Il s first now) w = w.ils ≡ []
FaithfulEvent (Open Fe s first now) w = w.fes ≡ []
FaithfulEvent (Calls Il c) w = AtOpened (FaithfulCall (present Fe w) c) (present Il w)
FaithfulEvent (Calls Fe c) w = AtOpened (FaithfulCall (present Il w) c) (present Fe w)

-- every accepted event of a list is faithful
abbrev pub AllFaithful : List Event → World → Type 0
AllFaithful [] w = Unit {0}
AllFaithful (e ∷ es) w = (refusal e w ≡ None → FaithfulEvent e w) × AllFaithful es (apply_event w e)

-- no arrival is more than q ahead of the first missing one, and no T_seq deadline passes
abbrev pub IsNear : EndState → Type 0
IsNear x = QNear x.settings.q [] x.inputs × NoDeadlineFalls x.settings.t_seq no_wait x.inputs

-- P holds of both present ends, if both were opened
abbrev pub OfBoth : (EndState → EndState → Type 0) → Option EndState → Option EndState → Type 0
OfBoth P (Some il) (Some fe) = P il fe
OfBoth P _ _ = Unit {0}

-- both ends have the same code length and initial value
abbrev pub SameRule : EndState → EndState → Type 0
SameRule il fe = rule_of il.settings ≡ rule_of fe.settings

-- the stronger premise: genuine, and nothing late
pub record Faithful (es : List Event) : Type 0 where
  pub genuine : Genuine es start  -- the list is genuine
  pub events : AllFaithful es start  -- each accepted event is faithful
  pub il_near : AtOpened IsNear (present Il (run es start))  -- what comes to the interlocking is near and in time
  pub fe_near : AtOpened IsNear (present Fe (run es start))  -- what comes to the field element is near and in time
  -- both have the same safety code
  pub same_rule : OfBoth SameRule (present Il (run es start)) (present Fe (run es start))

-- every PDU that the peer made has arrived
abbrev pub AllArrived : EndState → EndState → Type 0
AllArrived x peer = (k : ℕ) → k < length peer.machine.made → has_number k (arrivals x.inputs) ≡ true

-- settings with which two ends can connect
pub record Match (il fe : EndState) : Type 0 where
  -- the same code length and initial value
  pub rule : rule_of il.settings ≡ rule_of fe.settings
  -- the same protocol type
  pub protocol : il.settings.addressing.protocol ≡ fe.settings.addressing.protocol
  -- the field element knows the interlocking's version
  pub version : list_any (λ v. v == first_version il.settings.versions) fe.settings.versions ≡ true
  -- the field element's peer is the interlocking
  pub il_identifier : il.settings.connection.own ≡ fe.settings.connection.peer
  -- the interlocking's peer is the field element
  pub fe_identifier : fe.settings.connection.own ≡ il.settings.connection.peer
  -- the same for the names
  pub il_name : il.settings.addressing.own ≡ fe.settings.addressing.peer
  -- in both directions
  pub fe_name : fe.settings.addressing.own ≡ il.settings.addressing.peer

-- a message waits only while the window is full
abbrev pub WaitsForWindow : EndState → Type 0
WaitsForWindow x = x.session.waiting ≢ [] → x.machine.window ≤ length (unconfirmed x.machine)

-- both are Initialising, or both are Established once init_done was accepted
abbrev pub InStep : EndState → EndState → Type 0
InStep il fe =
    ((was_established fe.session.history.phases ≡ false) × (phase_in il.session ≡ Initialising)
    × (phase_in fe.session ≡ Initialising))
    ⊎ ((was_established fe.session.history.phases ≡ true) × (phase_in il.session ≡ Established)
    × (phase_in fe.session ≡ Established))

-- the interlocking, open or closed, lets a message wait only while its window is full
abbrev pub IlWaits : EndState → EndState → Type 0
IlWaits il fe = WaitsForWindow il

-- the field element, open or closed, lets a message wait only while its window is full
abbrev pub FeWaits : EndState → EndState → Type 0
FeWaits il fe = WaitsForWindow fe

-- at a closed end no message waits
abbrev pub KeepsNothing : EndState → Type 0
KeepsNothing x = is_shut x ≡ true → x.session.waiting ≡ []

-- at a closed interlocking no message waits
abbrev pub IlKeeps : EndState → EndState → Type 0
IlKeeps il fe = KeepsNothing il

-- at a closed field element no message waits
abbrev pub FeKeeps : EndState → EndState → Type 0
FeKeeps il fe = KeepsNothing fe

-- the commands put are those taken, then those that wait
abbrev pub CommandsThere : EndState → EndState → Type 0
CommandsThere il fe = put_at il ≡ taken_at fe ++ items_waiting il

-- the status put is the status taken, then the status that waits
abbrev pub StatusThere : EndState → EndState → Type 0
StatusThere il fe = put_at fe ≡ taken_at il ++ items_waiting fe

-- with matching settings the interlocking is Up
abbrev pub IlUp : EndState → EndState → Type 0
IlUp il fe = Match il fe → il.machine.connection ≡ IsUp

-- with matching settings the field element is Up
abbrev pub FeUp : EndState → EndState → Type 0
FeUp il fe = Match il fe → fe.machine.connection ≡ IsUp

-- with matching settings, if no message waits at either, both are in step
abbrev pub StayInStep : EndState → EndState → Type 0
StayInStep il fe = Match il fe → il.session.waiting ≡ [] → fe.session.waiting ≡ [] → InStep il fe

-- what holds if every PDU has arrived
pub record AllThere (il fe : EndState) : Type 0 where
  pub il_waits : IlWaits il fe  -- the interlocking lets messages wait only for the window
  pub fe_waits : FeWaits il fe  -- so does the field element
  pub il_keeps : IlKeeps il fe  -- closed, the interlocking keeps no message
  pub fe_keeps : FeKeeps il fe  -- nor does the field element
  pub commands : CommandsThere il fe  -- commands put were taken or wait
  pub status : StatusThere il fe  -- status put was taken or waits
  pub il_up : IlUp il fe  -- the interlocking is Up, if the settings match
  pub fe_up : FeUp il fe  -- the field element is Up, if the settings match
  pub in_step : StayInStep il fe  -- both are in step, if no message waits

-- if every PDU has arrived at each open end, all this holds; a closed end ignores what comes, so nothing is asked of it
abbrev pub IfAllArrived : EndState → EndState → Type 0
IfAllArrived il fe = (is_shut il ≡ false → AllArrived il fe) → (is_shut fe ≡ false → AllArrived fe il) → AllThere il fe

-- the promise nothing lost, of a world
pub record NothingLost (w : World) : Type 0 where
  -- the interlocking requested no retransmission
  pub il_asks_nothing : AtOpened (λ x. AsksNothing x.machine.made) (present Il w)
  -- the field element requested no retransmission
  pub fe_asks_nothing : AtOpened (λ x. AsksNothing x.machine.made) (present Fe w)
  pub all_there : OfBoth IfAllArrived (present Il w) (present Fe w)  -- what holds if every PDU has arrived

-- nothing lost holds after every faithful list of events
abbrev pub NothingLostLaw : Type 0
NothingLostLaw = (es : List Event) → AreTyped es → Faithful es → NothingLost (run es start)

-- the identifiers of two ends are crossed
pub record Crossed (il fe : EndState) : Type 0 where
  -- the field element's peer is the interlocking
  pub il_identifier : il.settings.connection.own ≡ fe.settings.connection.peer
  -- the interlocking's peer is the field element
  pub fe_identifier : fe.settings.connection.own ≡ il.settings.connection.peer

-- what order alone gives two open ends with crossed identifiers at which every PDU has arrived
pub record UnitsThere (il fe : EndState) : Type 0 where
  pub il_up : il.machine.connection ≡ IsUp  -- the interlocking is Up
  pub fe_up : fe.machine.connection ≡ IsUp  -- the field element is Up
  -- the interlocking took every unit that the field element sent
  pub il_taken : il.machine.taken ≡ units fe.machine.made
  -- the field element took every unit that the interlocking sent
  pub fe_taken : fe.machine.taken ≡ units il.machine.made
  pub il_waits : WaitsForWindow il  -- the interlocking lets messages wait only for the window
  pub fe_waits : WaitsForWindow fe  -- so does the field element
  pub commands : CommandsThere il fe  -- commands put were taken or wait
  pub status : StatusThere il fe  -- status put was taken or waits

-- this of two open ends at which every PDU has arrived
abbrev pub IfOpen : EndState → EndState → Type 0
IfOpen il fe = AllArrived il fe → AllArrived fe il → is_shut il ≡ false → is_shut fe ≡ false → UnitsThere il fe

-- what order alone gives, of a world
pub record Orderly (w : World) : Type 0 where
  -- the interlocking requested no retransmission
  pub il_asks_nothing : AtOpened (λ x. AsksNothing x.machine.made) (present Il w)
  -- the field element requested no retransmission
  pub fe_asks_nothing : AtOpened (λ x. AsksNothing x.machine.made) (present Fe w)
  pub units_there : OfBoth IfOpen (present Il w) (present Fe w)  -- what holds if every PDU has arrived

-- this holds after every faithful list of events, of ends with crossed identifiers
abbrev pub OrderlyLaw : Type 0
OrderlyLaw = (es : List Event) → AreTyped es → Faithful es
    → OfBoth Crossed (present Il (run es start)) (present Fe (run es start)) → Orderly (run es start)

-- nothing lost of ends with crossed identifiers: the greater half of the proof
abbrev pub NothingLostCrossedLaw : Type 0
NothingLostCrossedLaw =
    (es : List Event) → AreTyped es → Faithful es
    → OfBoth Crossed (present Il (run es start)) (present Fe (run es start)) → NothingLost (run es start)
