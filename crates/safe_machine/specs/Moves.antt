-- The moves of one machine, for any input.
use Rattle.std.specs.Prelude.{ℕ, ◌≡◌, ◌≤◌, ◌⊎◌, true, false, List, [], ◌∷◌, ◌++◌, length, if◌then◌else◌}
use Rattle.safe_pdu.specs.declared.CodeRule.{CodeRule}
use Rattle.safe_pdu.specs.declared.Kind.TheVariants.{ConnReq}
use Rattle.safe_pdu.specs.Pdu.{Pdu}
use Rattle.safe_pdu.specs.SafeText.{SafeText, HasNumbers, safe_text}
use Rattle.octets.specs.declared.limits.TheConstants.{UNIT_MIN, UNIT_MAX}
use Rattle.safe_pdu.specs.declared.reasons.Reason.{Reason}
use Rattle.safe_pdu.specs.declared.reasons.Detail.{Detail}
use Rattle.safe_machine.specs.declared.ConnectionState.{ConnectionState}
use Rattle.safe_machine.specs.declared.ConnectionState.TheVariants.{Closed, Down, Start, Up}
use Rattle.safe_machine.specs.Made.{Made, units}
use Rattle.safe_machine.specs.Settings.{Settings, is_legal}
use Rattle.safe_machine.specs.State.{State, unconfirmed}
use Rattle.safe_machine.specs.Decision.{is_stranger, is_ours}
use Rattle.safe_machine.specs.Step.{guard, arrive, leave, new_state, tick, send, may_send}
use Rattle.safe_machine.specs.Ring.{by_carriers}
use Rattle.safe_machine.specs.Connections.{is_connected}

-- What can happen to a machine.
pub data Move : Type 0 where
  -- A timeout check.
  Guards : (now : ℕ) → Move
  -- A PDU arrives.
  Hears : Pdu → (now : ℕ) → Move
  -- Time passes.
  Ticks : (now : ℕ) → Move
  -- The layer above sends a unit, if that is allowed.
  Sends : (unit : List ℕ) → (now : ℕ) → Move
  -- The end is closed.
  Leaves : Reason → Detail → (now : ℕ) → Move

-- The state after a move.
abbrev pub move : Move → State → State
move (Guards now) s = guard now s
move (Hears p now) s = arrive p now s
move (Ticks now) s = tick now s
move (Sends unit now) s = send unit now s
move (Leaves reason detail now) s = leave reason detail now s

-- The state after a list of moves, in order.
abbrev pub make_moves : List Move → State → State
make_moves [] s = s
make_moves (m ∷ ms) s = make_moves ms (move m s)

-- The units that a move sends: one if it is a send that is allowed.
abbrev pub sent_by : Move → State → List (List ℕ)
sent_by (Sends unit now) s = if may_send s then unit ∷ [] else []
sent_by _ s = []

-- The units that a move takes: none, or the unit of the PDU that arrives.
abbrev pub IsTakenBy : Move → List (List ℕ) → Type 0
IsTakenBy (Hears p now) more = (more ≡ []) ⊎ (more ≡ p.body ∷ [])
IsTakenBy _ more = more ≡ []

-- The move is an arrival with the end's own identifiers.
abbrev pub HearsOwn : Move → State → Type 0
HearsOwn (Hears p now) s = is_stranger s p ≡ false
HearsOwn _ s = ⊥

-- What holds for every move in every state.
pub record OneMove (m : Move) (s : State) : Type 0 where
  -- No move leads to Down from another state.
  pub never_down : (move m s).connection ≡ Down → s.connection ≡ Down
  -- A connection starts only by an arrival with the end's own identifiers.
  pub starts : s.connection ≡ Down → (move m s).connection ≡ Start → HearsOwn m s
  -- The PDUs that the move makes.
  pub more_made : List Made
  -- They are appended to those made before.
  pub made : (move m s).made ≡ s.made ++ more_made
  -- A send that is allowed appends its unit to those sent.
  pub sent : units (move m s).made ≡ units s.made ++ sent_by m s
  -- The units that the move takes.
  pub more_taken : List (List ℕ)
  -- They are appended to those taken before.
  pub taken : (move m s).taken ≡ s.taken ++ more_taken
  -- At most one is taken, that of the PDU that arrives.
  pub one_taken : IsTakenBy m more_taken
  -- A closed machine does not change.
  pub closed : s.connection ≡ Closed → move m s ≡ s

-- The number of bytes is that of a unit, 45 to 1,206.
abbrev pub IsUnitSized : List ℕ → Type 0
IsUnitSized unit = (UNIT_MIN ≤ length unit) × (length unit ≤ UNIT_MAX)

-- The numbers of a PDU that arrives have 32 bits, and a unit to send has the size of a unit.
abbrev pub IsSoundMove : Move → Type 0
IsSoundMove (Hears p now) = HasNumbers p
IsSoundMove (Sends unit now) = IsUnitSized unit
IsSoundMove _ = Unit {0}

-- Every move of a list is sound.
abbrev pub AreSoundMoves : List Move → Type 0
AreSoundMoves [] = Unit {0}
AreSoundMoves (m ∷ ms) = IsSoundMove m × AreSoundMoves ms

-- The PDU has an encoding, whatever the settings of the safety code.
abbrev pub HasText : Pdu → Type 0
HasText p = (rule : CodeRule) → SafeText p rule (safe_text rule p)

-- Each PDU of a list has an encoding.
abbrev pub HaveTexts : List Made → Type 0
HaveTexts [] = Unit {0}
HaveTexts (m ∷ ms) = HasText m.pdu × HaveTexts ms

-- What holds for every state reached from an opening.
pub record ReachedState (s : State) : Type 0 where
  -- The unconfirmed units are those whose carrier was made after the last PDU confirmed.
  pub by_carriers : unconfirmed s ≡ by_carriers s
  -- The units sent that are confirmed.
  pub confirmed_before : List (List ℕ)
  -- The unconfirmed units are the last of the units sent.
  pub ends : confirmed_before ++ unconfirmed s ≡ units s.made

-- Every move, in every state.
abbrev pub MovesLaw : Type 0
MovesLaw = (m : Move) (s : State) → OneMove m s

-- Every state reached from an opening.
abbrev pub ReachedLaw : Type 0
ReachedLaw = (settings : Settings) (first now : ℕ) (ms : List Move)
    → ReachedState (make_moves ms (new_state settings first now))

-- Every PDU made has an encoding if settings and moves are sound.
abbrev pub TextsLaw : Type 0
TextsLaw =
    (settings : Settings) (first now : ℕ) (ms : List Move) → is_legal settings ≡ true → AreSoundMoves ms →
    HaveTexts (make_moves ms (new_state settings first now)).made

-- No move changes the settings.
abbrev pub SettingsLaw : Type 0
SettingsLaw = (m : Move) (s : State) → (move m s).settings ≡ s.settings

-- A stranger's PDU has the effect of the timeout check only.
abbrev pub StrangersLaw : Type 0
StrangersLaw = (p : Pdu) (now : ℕ) (s : State) → is_stranger s p ≡ true → move (Hears p now) s ≡ guard now s

-- Before the connection is up, nothing is taken.
abbrev pub WaitsLaw : Type 0
WaitsLaw = (m : Move) (s : State) → (s.connection ≡ Down) ⊎ (s.connection ≡ Start) → (move m s).taken ≡ s.taken

-- Each PDU of a list is from the end with these settings to its peer.
abbrev pub AreFrom : Settings → List Made → Type 0
AreFrom settings [] = Unit {0}
AreFrom settings (m ∷ ms) = ((m.pdu.receiver ≡ settings.peer) × (m.pdu.sender ≡ settings.own)) × AreFrom settings ms

-- The move is the arrival of a ConnReq with the version of this profile.
abbrev pub HearsRequest : Move → Type 0
HearsRequest (Hears p now) = (p.kind ≡ ConnReq) × (is_ours p.body ≡ true)
HearsRequest _ = ⊥

-- An end starts a connection only by such a ConnReq.
abbrev pub RequestsLaw : Type 0
RequestsLaw = (m : Move) (s : State) → s.connection ≡ Down → (move m s).connection ≡ Start → HearsRequest m

-- Every PDU made has the identifiers of its end and of the peer.
abbrev pub IdentifiedLaw : Type 0
IdentifiedLaw = (settings : Settings) (first now : ℕ) (ms : List Move)
    → AreFrom settings (make_moves ms (new_state settings first now)).made

-- The states that can follow a state: the same, Closed, Start after Down, Up after Start, and any connected state after
-- a connected one.
abbrev pub GoesOn : (before after : ConnectionState) → Type 0
GoesOn before after =
    (after ≡ before)
    ⊎ ((after ≡ Closed)
    ⊎ (((before ≡ Down) × (after ≡ Start)) ⊎
    (((before ≡ Start) × (after ≡ Up)) ⊎ ((is_connected before ≡ true) × (is_connected after ≡ true)))))

-- The move is not an arrival.
abbrev pub HearsNothing : Move → Type 0
HearsNothing (Hears p now) = ⊥
HearsNothing _ = Unit {0}

-- Every move leads to a state that can follow. Without an arrival, the state stays or is Closed.
abbrev pub ConnectionsLaw : Type 0
ConnectionsLaw =
    ((m : Move) (s : State) → GoesOn s.connection (move m s).connection)
    × ((m : Move) (s : State) → HearsNothing m
    → ((move m s).connection ≡ s.connection) ⊎ ((move m s).connection ≡ Closed))
