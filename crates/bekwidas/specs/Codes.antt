-- The codes for C of the results of a station.
use Rattle.std.specs.Prelude.{ℕ, ℤ, pos, ◌==◌, not, if◌then◌else◌, Option, Some, None, Result, Ok, Err}
use Rattle.std.specs.Option.{option_map_or}
use Rattle.safe_machine.specs.declared.ConnectionState.{ConnectionState}
use Rattle.safe_machine.specs.declared.ConnectionState.TheVariants as state
use Rattle.pdi_session.specs.declared.Phase.{Phase}
use Rattle.pdi_session.specs.declared.Phase.TheVariants as phase
use Rattle.end_for_callers.specs.declared.CallFault.{CallFault}
use Rattle.end_for_callers.specs.declared.CallFault.TheVariants as fault
use Rattle.end_for_callers.specs.declared.Outcome.{Outcome}
use Rattle.end_for_callers.specs.declared.Outcome.TheVariants as outcome
use Rattle.end_for_callers.specs.declared.StationFault.{StationFault}
use Rattle.end_for_callers.specs.declared.StationFault.TheVariants as opening
use Rattle.pdi_session.specs.declared.PutFault.{PutFault}
use Rattle.pdi_session.specs.declared.PutFault.TheVariants as put
use Rattle.pdi_session.specs.declared.InitFault.{InitFault}
use Rattle.pdi_session.specs.declared.InitFault.TheVariants as init
use Rattle.end_for_callers.specs.Calls.{refusal_to_open}
use Rattle.end_for_callers.specs.Plain.{opening_of}
use Rattle.end_for_callers.specs.declared.plain.PlainSettings.{PlainSettings}
use Rattle.end_for_callers.specs.declared.plain.TheConstants.{PLAIN_SETTINGS_SIZE}
use Rattle.stack_end.specs.declared.departure.Leaver.{Leaver}
use Rattle.stack_end.specs.declared.departure.Leaver.TheVariants as leaver
use Rattle.bekwidas.specs.declared.codes.TheConstants.{OK, UNSENT, SETTINGS_SIZE, BAD_SETTINGS, ROOMS, NO_MEMORY, TIME, TAKE_FIRST, SEND_FIRST, LOST, NOT_ESTABLISHED, FULL, RESERVED_KIND, TOO_LONG, NOT_INITIALISING}

-- the code of an accepted call
abbrev pub code_of_outcome : Outcome → ℤ
code_of_outcome outcome.Whole = OK
code_of_outcome outcome.Unsent = UNSENT
code_of_outcome outcome.Lost = LOST

-- the code of a put that the session refuses
abbrev pub code_of_put : PutFault → ℤ
code_of_put put.NotEstablished = NOT_ESTABLISHED
code_of_put put.Full = FULL
code_of_put put.ReservedType = RESERVED_KIND
code_of_put put.TooLong = TOO_LONG

-- the code of an end of the initialisation that the session refuses
abbrev pub code_of_init : InitFault → ℤ
code_of_init init.NotInitialising = NOT_INITIALISING
code_of_init init.Full = FULL

-- the code of a refused call
abbrev pub code_of_fault : CallFault → ℤ
code_of_fault fault.Time = TIME
code_of_fault fault.Lost = LOST
code_of_fault fault.TakeFirst = TAKE_FIRST
code_of_fault fault.SendFirst = SEND_FIRST
code_of_fault (fault.Put why) = code_of_put why
code_of_fault (fault.Init why) = code_of_init why

-- the code of a refused opening
abbrev pub code_of_opening : StationFault → ℤ
code_of_opening opening.Time = TIME
code_of_opening opening.BadConfig = BAD_SETTINGS
code_of_opening opening.Rooms = ROOMS
code_of_opening opening.Memory = NO_MEMORY

-- the code of an opening, if no allocation fails
abbrev pub code_to_open : PlainSettings → ℕ → ℤ
code_to_open s now =
    if not (s.size == PLAIN_SETTINGS_SIZE) then SETTINGS_SIZE
    else option_map_or (λ o. option_map_or code_of_opening (refusal_to_open o.side o.config o.rooms now) OK)
    (opening_of s) BAD_SETTINGS

-- the code of a call
abbrev pub code_of_answer : Result Outcome CallFault → ℤ
code_of_answer (Ok o) = code_of_outcome o
code_of_answer (Err f) = code_of_fault f

-- the number of a connection state
abbrev pub code_of_state : ConnectionState → ℤ
code_of_state state.Closed = pos 0
code_of_state state.Down = pos 1
code_of_state state.Start = pos 2
code_of_state state.Up = pos 3
code_of_state state.RetrReq = pos 4
code_of_state state.RetrRun = pos 5

-- the number of a session phase
abbrev pub code_of_phase : Phase → ℤ
code_of_phase phase.Idle = pos 0
code_of_phase phase.Checking = pos 1
code_of_phase phase.Requesting = pos 2
code_of_phase phase.AwaitCheck = pos 3
code_of_phase phase.AwaitRequest = pos 4
code_of_phase phase.Refused = pos 5
code_of_phase phase.Initialising = pos 6
code_of_phase phase.Established = pos 7
code_of_phase phase.Ended = pos 8

-- the number of the side that ended a connection
abbrev pub code_of_leaver : Leaver → ℕ
code_of_leaver leaver.Own = 1
code_of_leaver leaver.Peer = 2

-- the number of a version; no version is 256
abbrev pub code_of_version : Option ℕ → ℕ
code_of_version (Some version) = version
code_of_version None = 256
