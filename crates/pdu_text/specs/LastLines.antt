-- The last line of an end: its state at the end of a run, and why.
use Rattle.std.specs.Prelude.{ℕ, nat_eq, List, [], ◌∷◌, ◌++◌, codes, Option, Some, None, if◌then◌else◌}
use Rattle.std.specs.Fmt.{decimal}
use Rattle.pdu_text.specs.Lines.{join_pieces}
use Rattle.pdu_text.specs.Names.{state_name, phase_name}
use Rattle.pdu_text.specs.Causes.{cause_text}
use Rattle.pdu_text.specs.DisconnectReasons.{leaving_text}
use Rattle.pdu_text.specs.declared.causes.Cause.{Cause}
use Rattle.pdu_text.specs.declared.last_lines.Departure.{Departure}
use Rattle.pdu_text.specs.declared.last_lines.Departure.TheVariants.{Own, Peer}
use Rattle.pdu_text.specs.declared.last_lines.FinalState.{FinalState}

-- who disconnected, and why; empty if nobody did
abbrev pub departure_text : Option Departure → List ℕ
departure_text None = []
departure_text (Some (Own leaving)) = leaving_text (codes "; it disconnected with ") leaving
departure_text (Some (Peer leaving)) = leaving_text (codes "; its peer disconnected with ") leaving

-- why the last dropped datagram was dropped; empty if there is none
abbrev pub last_text : Option Cause → List ℕ
last_text None = []
last_text (Some cause) = cause_text cause

-- how many datagrams came, none of them the peer's
unfoldable pub datagram_count_text : ℕ → List ℕ
datagram_count_text came =
    join_pieces (codes "; none of " ∷ decimal came ∷ codes " datagrams was the peer's, the last one: " ∷ [])

-- how many datagrams came, and why the last one was dropped
unfoldable pub untaken_text : ℕ → Option Cause → List ℕ
untaken_text came last = datagram_count_text came ++ last_text last

-- what came, if nothing of it was the peer's
abbrev pub strangers_text : ℕ → ℕ → Option Cause → List ℕ
strangers_text came taken last =
    if nat_eq came 0
    then codes "; nothing received on any channel: is the peer running, and do local and remote match its settings?"
    else if nat_eq taken 0 then untaken_text came last
    else []

-- the state of the connection and the phase of the session
unfoldable pub state_and_phase_text : FinalState → List ℕ
state_and_phase_text e = join_pieces (codes "ends " ∷ state_name e.state ∷ codes " " ∷ phase_name e.phase ∷ [])

-- the text of the last line: state and phase, who disconnected, and what came
unfoldable pub final_state_text : FinalState → List ℕ
final_state_text e =
    join_pieces (state_and_phase_text e ∷ departure_text e.departure ∷ strangers_text e.came e.taken e.last ∷ [])
