-- The words for ends, states, phases and causes, as they are printed.
use Rattle.std.specs.Prelude.{codes, List, ℕ, Option, Some, None}
use Rattle.end_settings.specs.declared.Side.{Side}
use Rattle.end_settings.specs.declared.Side.TheVariants as side
use Rattle.safe_machine.specs.declared.ConnectionState.{ConnectionState}
use Rattle.safe_machine.specs.declared.ConnectionState.TheVariants as state
use Rattle.pdi_session.specs.declared.Phase.{Phase}
use Rattle.pdi_session.specs.declared.Phase.TheVariants as phase
use Rattle.red_layer.specs.declared.RedEvent.{RedEvent}
use Rattle.red_layer.specs.declared.RedEvent.TheVariants as event
use Rattle.red_layer.specs.declared.pdu.RedFault.TheVariants as red_fault
use Rattle.safe_machine.specs.declared.DropCause.{DropCause}
use Rattle.safe_machine.specs.declared.DropCause.TheVariants as cause
use Rattle.safe_machine.specs.declared.Step.{Step}
use Rattle.safe_machine.specs.declared.Step.TheVariants as step
use Rattle.safe_pdu.specs.Names.{safe_name}

-- the word for an end
abbrev pub side_name : Side → List ℕ
side_name side.Interlocking = codes "il"
side_name side.FieldElement = codes "fe"

-- the first letter of an end's labels
abbrev pub side_letter : Side → List ℕ
side_letter side.Interlocking = codes "i"
side_letter side.FieldElement = codes "f"

-- the name of a connection's state
abbrev pub state_name : ConnectionState → List ℕ
state_name state.Closed = codes "Closed"
state_name state.Down = codes "Down"
state_name state.Start = codes "Start"
state_name state.Up = codes "Up"
state_name state.RetrReq = codes "RetrReq"
state_name state.RetrRun = codes "RetrRun"

-- the name of a session's phase
abbrev pub phase_name : Phase → List ℕ
phase_name phase.Idle = codes "Idle"
phase_name phase.Checking = codes "Checking"
phase_name phase.Requesting = codes "Requesting"
phase_name phase.AwaitCheck = codes "AwaitCheck"
phase_name phase.AwaitRequest = codes "AwaitRequest"
phase_name phase.Refused = codes "Refused"
phase_name phase.Initialising = codes "Initialising"
phase_name phase.Established = codes "Established"
phase_name phase.Ended = codes "Ended"

-- the word for why the redundancy layer dropped a datagram; None if it did not
abbrev pub red_cause : RedEvent → Option (List ℕ)
red_cause event.Passed = None
red_cause event.Wait = None
red_cause event.Old = Some (codes "old")
red_cause event.Far = Some (codes "far")
red_cause event.Full = Some (codes "full")
red_cause event.Again = Some (codes "again")
red_cause (event.Fault red_fault.Short) = Some (codes "red-Short")
red_cause (event.Fault red_fault.Length) = Some (codes "red-Length")
red_cause (event.Fault red_fault.Reserve) = Some (codes "red-Reserve")

-- the word for a cause of the safety machine
abbrev pub drop_cause : DropCause → List ℕ
drop_cause (cause.Fault fault) = safe_name fault
drop_cause cause.Stranger = codes "stranger"
drop_cause cause.NotOpened = codes "down"
drop_cause cause.Number = codes "number"
drop_cause cause.Request = codes "request"
drop_cause cause.Answered = codes "answered"
drop_cause cause.Below = codes "below"

-- the word for why the safety machine dropped a part; None if it did not
abbrev pub step_cause : Step → Option (List ℕ)
step_cause (step.Dropped why) = Some (drop_cause why)
step_cause step.Gap = Some (codes "gap")
step_cause step.Taken = None
step_cause (step.Left reason detail) = None
step_cause step.Nothing = None
