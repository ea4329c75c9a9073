-- The notes of an end in numbers.
use Rattle.std.specs.Prelude.{ℕ, ℤ, pos, Option, unwrap_or}
use Rattle.pdi_session.specs.declared.Phase.{Phase}
use Rattle.red_layer.specs.declared.RedEvent.{RedEvent}
use Rattle.red_layer.specs.declared.RedEvent.TheVariants as event
use Rattle.red_layer.specs.pdu.FaultNames.{red_number}
use Rattle.safe_machine.specs.declared.DropCause.{DropCause}
use Rattle.safe_machine.specs.declared.DropCause.TheVariants as cause
use Rattle.safe_machine.specs.declared.Step.{Step}
use Rattle.safe_machine.specs.declared.Step.TheVariants as step
use Rattle.safe_pdu.specs.Names.{safe_number}
use Rattle.end_for_callers.specs.declared.notes.StationNote.{StationNote}
use Rattle.end_for_callers.specs.declared.notes.StationNote.TheVariants as note
use Rattle.bekwidas.specs.Codes.{code_of_phase, code_of_state}
use Rattle.bekwidas.specs.declared.notes.PlainNote.{PlainNote}

-- what the redundancy layer did with a datagram
abbrev pub code_of_event : RedEvent → ℤ
code_of_event event.Passed = pos 0
code_of_event event.Wait = pos 1
code_of_event event.Old = pos 2
code_of_event event.Again = pos 3
code_of_event event.Far = pos 4
code_of_event event.Full = pos 5
code_of_event (event.Fault fault) = pos 6

-- the test that a datagram failed, or 0
abbrev pub fault_of_event : RedEvent → ℕ
fault_of_event (event.Fault fault) = red_number fault
fault_of_event other = 0

-- why the safety machine dropped a part
abbrev pub code_of_cause : DropCause → ℤ
code_of_cause (cause.Fault fault) = pos 4
code_of_cause cause.Stranger = pos 5
code_of_cause cause.NotOpened = pos 6
code_of_cause cause.Number = pos 7
code_of_cause cause.Request = pos 8
code_of_cause cause.Answered = pos 9
code_of_cause cause.Below = pos 10

-- what the safety machine did with a part
abbrev pub code_of_step : Step → ℤ
code_of_step step.Taken = pos 0
code_of_step step.Gap = pos 1
code_of_step (step.Left reason detail) = pos 2
code_of_step step.Nothing = pos 3
code_of_step (step.Dropped why) = code_of_cause why

-- the test that a part failed, or 0
abbrev pub fault_of_step : Step → ℕ
fault_of_step (step.Dropped (cause.Fault fault)) = safe_number fault
fault_of_step other = 0

-- a note in numbers
abbrev pub note_in : StationNote → PlainNote
note_in (note.State state) = record { count = 0; what = 1; value = code_of_state state; number = 0; fault = 0 }
note_in (note.Phase phase) = record { count = 0; what = 2; value = code_of_phase phase; number = 0; fault = 0 }
note_in (note.Datagram number event) =
    record {
      count = 0;
      what = 3;
      value = code_of_event event;
      number = unwrap_or number 0;
      fault = fault_of_event event;
    }
note_in (note.Part number step) =
    record { count = 0; what = 4; value = code_of_step step; number = number; fault = fault_of_step step }
note_in (note.Take kind) = record { count = 0; what = 5; value = pos kind; number = 0; fault = 0 }
note_in (note.LeftOut count) = record { count = count; what = 6; value = pos 0; number = 0; fault = 0 }
