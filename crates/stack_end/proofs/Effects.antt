-- What the steps of an end do to its history, change by change: the vocabulary of the laws' proofs. `TurnSteps` proves
-- that a step is these changes.
use Rattle.stack_end.proofs.Words.{Closes, Completes, Dialogue, drop, if◌then◌else◌, Input, judge_units, Leaving, length, List, process_event, None, Option, Puts}
use Rattle.stack_end.proofs.Words.{comes_up, request_after, bring_up, Some, take, unit_text, ℕ}
use Rattle.safe_machine.specs.Moves.{Move, move}
use Rattle.safe_machine.specs.Octets.{arrive_octets}
use Rattle.safe_machine.specs.State.{State}
use Rattle.safe_machine.specs.Step.{leave, send}
use Rattle.safe_machine.specs.World.{is_joining}
use Rattle.stack_end.specs.Ends.{Call, EndState, is_shut}
use Rattle.stack_end.specs.Steps.{by_steps, whole_way}
use Rattle.stack_end.specs.Turns.{call_by, input_and_send_by, pack_by, send_by}

-- the end with this state of its machine
abbrev pub with_machine : State → EndState → EndState
with_machine s x = record x { machine = s }

-- the end with this session
abbrev pub with_session : Dialogue → EndState → EndState
with_session d x = record x { session = d }

-- if the machine is closed, the session ends
abbrev pub settle : EndState → EndState
settle x = if is_shut x then with_session (process_event Closes x.session) x else x

-- a move of the machine only, after which a closed machine ends the session
abbrev pub moved : Move → EndState → EndState
moved m x = settle (with_machine (move m x.machine) x)

-- the units that a step of the machine to this state delivered
abbrev pub handed_up : EndState → State → List (List ℕ)
handed_up x s = drop (length x.machine.taken) s.taken

-- a step of the machine to this state at a part: the session judges the units delivered, and goes up with the
-- connection
abbrev pub answered : List ℕ → EndState → State → EndState
answered octets x s =
    record {
      settings = x.settings;
      red = x.red;
      inputs = x.inputs;
      machine = s;
      session = bring_up (comes_up x.machine.connection s.connection) (judge_units (handed_up x s) x.session).left;
      request = request_after (is_joining x.machine.connection s.connection) octets x.request;
      time = x.time;
    }

-- the end disconnects if the unit or the session asks for it
abbrev pub leaves : ℕ → Option Leaving → EndState → EndState
leaves now None x = x
leaves now (Some why) x = with_machine (leave why.0 why.1 now x.machine) x

-- a part that goes up, before a closed machine ends the session
abbrev pub heard : ℕ → List ℕ → EndState → EndState
heard now octets x =
    let s = arrive_octets octets now x.machine in
    leaves now (judge_units (handed_up x s) x.session).leaving (answered octets x s)

-- a telegram that is put
abbrev pub put_in : ℕ → List ℕ → EndState → EndState
put_in kind payload x = with_session (process_event (Puts kind payload (length x.session.waiting)) x.session) x

-- the end of the initialisation
abbrev pub put_done : EndState → EndState
put_done x = with_session (process_event (Completes (length x.session.waiting)) x.session) x

-- one unit of the first waiting messages is sent
abbrev pub packed : ℕ → EndState → EndState
packed now x =
    let n = x.settings.n_maxpacket in
    record x {
      machine = send (unit_text (take n x.session.waiting)) now x.machine;
      session = record { history = x.session.history; waiting = drop n x.session.waiting };
    }

-- short names of the steps
abbrev pub goes_on : ℕ → Input → EndState → EndState
goes_on now i x = input_and_send_by whole_way now i x

abbrev pub packed_up_to : ℕ → ℕ → EndState → EndState
packed_up_to n now x = pack_by by_steps n now x

abbrev pub sends : ℕ → EndState → EndState
sends now x = send_by by_steps now x

abbrev pub did : Call → EndState → EndState
did c x = call_by whole_way c x
