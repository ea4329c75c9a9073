-- The arrival of bytes: that of the PDU that they encode, or only the timeout check if they do not encode one.
use Rattle.std.specs.Prelude.{ℕ, ◌≢◌, List, [], Result, Ok, Err, if◌then◌else◌}
use Rattle.safe_pdu.specs.declared.SafeFault.{SafeFault}
use Rattle.safe_pdu.specs.Pdu.{Pdu}
use Rattle.safe_pdu.specs.Places.{safe_seen}
use Rattle.safe_machine.specs.declared.DropCause.TheVariants.{Fault}
use Rattle.safe_machine.specs.declared.Step.{Step as Outcome}
use Rattle.safe_machine.specs.declared.Step.TheVariants.{Dropped, Nothing as NoAnswer}
use Rattle.safe_machine.specs.State.{State}
use Rattle.safe_machine.specs.View.{View, StandsFor}
use Rattle.safe_machine.specs.Turns.{Turn, arrive_answer, unless_guarded}
use Rattle.safe_machine.specs.TurnLaws.{LeadsByTurn, turn, units_of_move}
use Rattle.safe_machine.specs.Moves.{Move, move}
use Rattle.safe_machine.specs.Moves.Move.{Guards, Hears}
use Rattle.safe_machine.specs.Connections.{is_closed}
use Rattle.safe_machine.specs.Properties.{IsRecent}

-- The move of bytes with this result of decoding.
abbrev pub move_of : Result Pdu SafeFault → ℕ → Move
move_of (Ok p) now = Hears p now
move_of (Err fault) now = Guards now

-- The step that is reported: timeout check, closed end, fault of the bytes, or decision on the PDU.
abbrev pub decoded_answer : Result Pdu SafeFault → ℕ → View → Outcome
decoded_answer (Ok p) now v = arrive_answer p now v
decoded_answer (Err fault) now v =
    unless_guarded now v (if is_closed v.connection then NoAnswer else Dropped (Fault fault))

-- The result of decoding under the end's own settings of the safety code.
abbrev pub seen_by : State → List ℕ → Result Pdu SafeFault
seen_by s octets = safe_seen s.settings.rule octets

-- The state after the arrival of bytes.
abbrev pub arrive_octets : List ℕ → ℕ → State → State
arrive_octets octets now s = move (move_of (seen_by s octets) now) s

-- The turn of received bytes, by what is kept.
abbrev pub octets_turn : List ℕ → ℕ → View → Turn
octets_turn octets now v = turn (move_of (safe_seen v.settings.rule octets) now) v

-- The units that received bytes hand up.
abbrev pub octets_units : List ℕ → ℕ → View → List (List ℕ)
octets_units octets now v = units_of_move (move_of (safe_seen v.settings.rule octets) now) v

-- In every state, the arrival of bytes takes the turn of what is kept.
abbrev pub OctetsLaw : Type 0
OctetsLaw =
    (octets : List ℕ) (now : ℕ) (v : View) (s : State) → StandsFor v s →
    LeadsByTurn (octets_turn octets now v) (octets_units octets now v) s (arrive_octets octets now s)

-- If bytes hand up a unit, the end reads their confirmed timestamp as recent.
abbrev pub RecentLaw : Type 0
RecentLaw = (octets : List ℕ) (now : ℕ) (v : View) → octets_units octets now v ≢ []
    → IsRecent (safe_seen v.settings.rule octets) now v
