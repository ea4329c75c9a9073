-- The connection between what a machine keeps and its history: what is kept of a history takes the turn, and the
-- history grows by what the turn made and handed up.
use Rattle.std.specs.Prelude.{◌≡◌, ◌<◌, ℕ, true, List, [], ◌++◌, length}
use Rattle.safe_machine.specs.Connections.{in_turn}
use Rattle.safe_machine.specs.Moves.{Move, move}
use Rattle.safe_machine.specs.Moves.Move.{Guards, Hears, Ticks, Sends, Leaves}
use Rattle.safe_machine.specs.Settings.{Settings}
use Rattle.safe_machine.specs.State.{State, unconfirmed}
use Rattle.safe_machine.specs.Step.{may_send, new_state}
use Rattle.safe_machine.specs.Turns.{Turn, arrival_turn, guard_turn, handed_units, has_room, leave_turn, opening_turn, send_turn, tick_turn}
use Rattle.safe_machine.specs.View.{View, StandsFor}

-- The turn of a move.
abbrev pub turn : Move → View → Turn
turn (Guards now) v = guard_turn now v
turn (Hears p now) v = arrival_turn p now v
turn (Ticks now) v = tick_turn now v
turn (Sends unit now) v = send_turn unit now v
turn (Leaves reason detail now) v = leave_turn reason detail now v

-- The units that a move hands up.
abbrev pub units_of_move : Move → View → List (List ℕ)
units_of_move (Hears p now) v = handed_units p now v
units_of_move _ v = []

-- If units are sent and taken in order, the PDU last confirmed was made.
abbrev pub HasMade : View → Type 0
HasMade v = in_turn v.connection ≡ true → v.confirmed < v.made

-- The condition for the turn of a move: before a send, the PDU last confirmed was made.
abbrev pub MaySend : Move → View → Type 0
MaySend (Sends unit now) v = HasMade v
MaySend _ v = Unit {0}

-- The history after a turn.
pub record LeadsByTurn (t : Turn) (units : List (List ℕ)) (s u : State) : Type 0 where
  -- What the turn left is what is kept of the later history.
  pub stands : StandsFor t.left u
  -- The history has grown by the PDUs that the turn made.
  pub made : u.made ≡ s.made ++ t.made
  -- The history has grown by these units.
  pub taken : u.taken ≡ s.taken ++ units

-- Every move, in every state, takes the turn of what is kept.
abbrev pub TurnsLaw : Type 0
TurnsLaw = (m : Move) (v : View) (s : State) → MaySend m v → StandsFor v s
    → LeadsByTurn (turn m v) (units_of_move m v) s (move m s)

-- Every move keeps that the PDU last confirmed was made.
abbrev pub MadeLaw : Type 0
MadeLaw = (m : Move) (v : View) (s : State) → HasMade v → StandsFor v s → HasMade (turn m v).left

-- The history after an opening.
pub record OpenedTurn (settings : Settings) (first now : ℕ) : Type 0 where
  -- What the opening left is what is kept of the history.
  pub stands : StandsFor (opening_turn settings first now).left (new_state settings first now)
  -- The history has the PDUs that the opening made.
  pub made : (new_state settings first now).made ≡ (opening_turn settings first now).made

-- Every opening.
abbrev pub OpeningLaw : Type 0
OpeningLaw = (settings : Settings) (first now : ℕ) → OpenedTurn settings first now

-- What the view says of the unconfirmed units.
pub record DeterminesUnits (v : View) (s : State) : Type 0 where
  -- The ring has as many units as are unconfirmed.
  pub awaiting : length v.ring ≡ length (unconfirmed s)
  -- The view and the history agree on whether a unit may be sent.
  pub room : has_room v ≡ may_send s

-- Every state and what is kept of it.
abbrev pub TellsLaw : Type 0
TellsLaw = (v : View) (s : State) → StandsFor v s → DeterminesUnits v s
