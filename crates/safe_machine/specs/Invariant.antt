-- The invariant of every machine: it is in a state that moves lead to from a legal opening.
use Rattle.std.specs.Prelude.{◌≡◌, ◌+◌, ◌≤◌, ℕ, true, length, List, [], ◌∷◌}
use Rattle.safe_pdu.specs.Bodies.{IsBody}
use Rattle.safe_pdu.specs.SafeText.{HasNumbers}
use Rattle.safe_machine.specs.Settings.{Settings, is_legal}
use Rattle.safe_machine.specs.State.{State, unconfirmed}
use Rattle.safe_machine.specs.Moves.{Move, move, make_moves, IsUnitSized}
use Rattle.safe_machine.specs.Moves.Move.{Hears, Sends}
use Rattle.safe_machine.specs.View.{View, StandsFor}
use Rattle.octets.specs.declared.limits.TheConstants.{WINDOW_MAX}
use Rattle.safe_machine.specs.Step.{may_send, new_state, send}

-- A PDU that arrives has numbers of 32 bits and a body that fits its type, and a unit to send has the size of a unit.
abbrev pub IsRead : Move → Type 0
IsRead (Hears p now) = HasNumbers p × IsBody p.kind p.body
IsRead (Sends unit now) = IsUnitSized unit
IsRead _ = Unit {0}

-- This for every move of a list.
abbrev pub AreRead : List Move → Type 0
AreRead [] = Unit {0}
AreRead (m ∷ ms) = IsRead m × AreRead ms

-- What is kept is that of a state reached by moves from an opening.
pub record IsReached (v : View) : Type 0 where
  pub settings : Settings
  -- The first sequence number.
  pub first : ℕ
  -- The time of the opening.
  pub began : ℕ
  -- The moves since then.
  pub moves : List Move
  -- The settings are legal.
  pub legal : is_legal settings ≡ true
  -- The moves are well formed.
  pub read : AreRead moves
  -- What is kept is that of the state after the moves.
  pub stands : StandsFor v (make_moves moves (new_state settings first began))

-- How much a move adds to a state with few unconfirmed units.
pub record FewMade (m : Move) (s : State) : Type 0 where
  -- At most 32 units are unconfirmed.
  pub few : length (unconfirmed s) ≤ WINDOW_MAX
  -- At most 36 PDUs are made: the DiscReq of the timeout check, a RetrResp, 32 RetrData, a heartbeat and a RetrReq.
  pub made : length (move m s).made ≤ length s.made + (WINDOW_MAX + 4)
  -- A send that is allowed adds one unconfirmed unit.
  pub sending : (unit : List ℕ) (now : ℕ) → may_send s ≡ true
      → length (unconfirmed (send unit now s)) ≡ length (unconfirmed s) + 1

-- This for every state that well-formed moves lead to from a legal opening.
abbrev pub FewLaw : Type 0
FewLaw =
    (settings : Settings) (first now : ℕ) (ms : List Move) (m : Move) → is_legal settings ≡ true → AreRead ms → IsRead m
    →
    FewMade m (make_moves ms (new_state settings first now))
