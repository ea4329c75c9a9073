-- The events that are recorded for the log.
use Rattle.std.specs.Prelude.{ℕ, Bool, true, false, not, ◌&&◌, ◌||◌, ◌+◌, ◌-◌, ◌^◌, ◌%◌, min, nat_eq, nat_le, nat_lt, List, [], ◌∷◌, slice_index_or, Option, Some, None, if◌then◌else◌}
use Rattle.end_settings.specs.declared.Side.{Side}
use Rattle.end_settings.specs.declared.Side.TheVariants.{Interlocking, FieldElement}
use Rattle.red_layer.specs.declared.RedEvent.{RedEvent}
use Rattle.red_layer.specs.declared.RedEvent.TheVariants as event
use Rattle.safe_machine.specs.declared.DropCause.{DropCause}
use Rattle.safe_machine.specs.declared.DropCause.TheVariants as cause
use Rattle.safe_pdu.specs.declared.Leaving.{Leaving}
use Rattle.safe_pdu.specs.declared.SafeFault.{SafeFault}
use Rattle.pdu_text.specs.declared.causes.Cause.{Cause}
use Rattle.pdu_text.specs.declared.causes.Cause.TheVariants.{Early, OtherCode, Part, Stranger}
use Rattle.pdu_text.specs.declared.lines.EndEvent.{EndEvent}
use Rattle.pdu_text.specs.declared.lines.EndEvent.TheVariants.{State, Phase, Anew, Left, PeerLeft, Asked, Resent, PutRefused, InitRefused, Silent, Heard, Dropped}
use Rattle.end_settings.specs.EndSettings.{EndSettings}
use Rattle.pdu_text.specs.Lines.{join_pieces}
use Rattle.pdu_text.specs.MessageText.{unit_lines}
use Rattle.settings_text.specs.InForce.{expected_lines}
use Rattle.rasta_run.specs.Headers.{body_seen}
use Rattle.rasta_run.specs.ExpectedStates.{is_up}
use Rattle.rasta_words.specs.declared.status.LogLevel.{LogLevel}
use Rattle.rasta_words.specs.declared.status.LogLevel.TheVariants as level
use Rattle.pdu_text.specs.declared.last_lines.Departure.{Departure}
use Rattle.pdu_text.specs.declared.last_lines.Departure.TheVariants.{Own, Peer}
use Rattle.safe_machine.specs.declared.ConnectionState.{ConnectionState}
use Rattle.safe_machine.specs.declared.ConnectionState.TheVariants as state
use Rattle.safe_pdu.specs.declared.Kind.{Kind}
use Rattle.safe_pdu.specs.declared.Kind.TheVariants.{ConnReq, ConnResp, RetrReq, RetrResp, DiscReq, Heartbeat, Data, RetrData}
use Rattle.stack_end.specs.declared.departure.Departure.{Departure as Stated}
use Rattle.stack_end.specs.declared.departure.Leaver.{Leaver}
use Rattle.stack_end.specs.declared.departure.Leaver.TheVariants as by
use Rattle.rasta_run.specs.declared.header.Header.{Header}
use Rattle.rasta_run.specs.declared.notices.Notice.{Notice}
use Rattle.rasta_run.specs.declared.recorder.ExpectedHeader.{ExpectedHeader}
use Rattle.rasta_run.specs.declared.notices.Notice.TheVariants.{Drops, OtherVersion, Unanswered, WrongRequest}

-- why the redundancy layer dropped a datagram; none if it did not
abbrev pub event_cause : RedEvent → Option Cause
event_cause event.Passed = None
event_cause event.Wait = None
event_cause event.Old = Some (Early event.Old)
event_cause event.Far = Some (Early event.Far)
event_cause event.Full = Some (Early event.Full)
event_cause event.Again = Some (Early event.Again)
event_cause (event.Fault why) = Some (Early (event.Fault why))

-- why a part with a fault was dropped, if its safety code has this length: that length, if it is another one
abbrev pub fault_cause : SafeFault → (found : Option ℕ) → (own : ℕ) → Cause
fault_cause why None own = Part (cause.Fault why)
fault_cause why (Some found) own = if nat_eq found own then Part (cause.Fault why) else OtherCode found own

-- the length of the safety code, if the header of the datagram is known and tells it
abbrev pub code_in : Option Header → Option ℕ
code_in None = None
code_in (Some header) = header.code

-- why the safety machine dropped a part, with what its datagram shows and what was expected, if that is known
abbrev pub drop_cause : DropCause → Option Header → ExpectedHeader → Cause
drop_cause cause.Stranger (Some header) wanted = Stranger header.sender header.receiver wanted.peer_id wanted.id
drop_cause cause.Stranger None wanted = Part cause.Stranger
drop_cause (cause.Fault why) header wanted = fault_cause why (code_in header) wanted.code
drop_cause cause.NotOpened header wanted = Part cause.NotOpened
drop_cause cause.Number header wanted = Part cause.Number
drop_cause cause.Request header wanted = Part cause.Request
drop_cause cause.Answered header wanted = Part cause.Answered
drop_cause cause.Below header wanted = Part cause.Below

-- the datagram is a copy of an earlier one, which is not a cause
abbrev pub is_repeat : Cause → Bool
is_repeat (Early event.Old) = true
is_repeat (Early event.Again) = true
is_repeat (Early event.Passed) = false
is_repeat (Early event.Wait) = false
is_repeat (Early event.Far) = false
is_repeat (Early event.Full) = false
is_repeat (Early (event.Fault why)) = false
is_repeat (Part why) = false
is_repeat (Stranger sender receiver peer_id id) = false
is_repeat (OtherCode found own) = false

-- which of two causes explains that nothing was taken: a copy explains nothing
abbrev pub last_of : Option Cause → Cause → Cause
last_of None cause = cause
last_of (Some before) cause = if is_repeat cause then before else cause

-- the event of a PDU of this type that the end made
abbrev pub made_event : Option Kind → Option EndEvent
made_event (Some RetrReq) = Some Asked
made_event (Some RetrResp) = Some Resent
made_event (Some ConnReq) = None
made_event (Some ConnResp) = None
made_event (Some DiscReq) = None
made_event (Some Heartbeat) = None
made_event (Some Data) = None
made_event (Some RetrData) = None
made_event None = None

-- the event of a departure: the end or its peer disconnects
abbrev pub departure_event : Option Departure → Option EndEvent
departure_event None = None
departure_event (Some (Own leaving)) = Some (Left leaving)
departure_event (Some (Peer leaving)) = Some (PeerLeft leaving)

-- the event that explains that a connection is in this state: the departure, if it is closed
abbrev pub state_explanation : ConnectionState → Option Departure → Option EndEvent
state_explanation state.Closed d = departure_event d
state_explanation state.Down d = None
state_explanation state.Start d = None
state_explanation state.Up d = None
state_explanation state.RetrReq d = None
state_explanation state.RetrRun d = None

-- the event that explains another one: only that of a closed connection is explained
abbrev pub explain : EndEvent → Option Departure → Option EndEvent
explain (State s) d = state_explanation s d
explain _ d = None

-- a departure by this end or its peer, as the log states it
abbrev pub departure_by : Leaver → Leaving → Departure
departure_by by.Own leaving = Own leaving
departure_by by.Peer leaving = Peer leaving

-- the departure that an end states, as the log states it
abbrev pub logged_departure : Option Stated → Option Departure
logged_departure None = None
logged_departure (Some d) = Some (departure_by d.by (record { detail = d.detail; reason = d.reason }))

-- the departure of an end of this side, as the log states it: a field element that has accepted no ConnReq had no
-- connection
abbrev pub departure_of : Side → (request : Option (List ℕ)) → Option Stated → Option Departure
departure_of Interlocking request d = logged_departure d
departure_of FieldElement None d = None
departure_of FieldElement (Some octets) d = logged_departure d

-- the event with this number, if it is one of the last 256, which are kept at the places of their numbers
abbrev pub event_at : List EndEvent → ℕ → ℕ → Option EndEvent
event_at kept happened number =
    if nat_le happened number then None
    else if nat_lt 256 (happened - number) then None
    else Some (slice_index_or kept (number % 256) Asked)

-- the cause of a drop, if the event is one
abbrev pub cause_of_drop : EndEvent → Option Cause
cause_of_drop (Dropped channel why) = Some why
cause_of_drop (State s) = None
cause_of_drop (Phase p) = None
cause_of_drop (Anew number) = None
cause_of_drop (Left leaving) = None
cause_of_drop (PeerLeft leaving) = None
cause_of_drop Asked = None
cause_of_drop Resent = None
cause_of_drop (PutRefused fault) = None
cause_of_drop (InitRefused fault) = None
cause_of_drop (Silent channel) = None
cause_of_drop (Heard channel) = None

-- the event is one of an opening that is only counted
abbrev pub is_of_opening : EndEvent → Bool
is_of_opening (State s) = true
is_of_opening (Phase p) = not (is_up p)
is_of_opening (Anew number) = true
is_of_opening (Left leaving) = true
is_of_opening (PeerLeft leaving) = true
is_of_opening Asked = false
is_of_opening Resent = false
is_of_opening (PutRefused fault) = false
is_of_opening (InitRefused fault) = false
is_of_opening (Silent channel) = false
is_of_opening (Heard channel) = false
is_of_opening (Dropped channel why) = false

-- an event is logged at the level of states: a drop if its cause is new, and one of an opening unless openings are only
-- counted
abbrev pub is_logged_by : Option Cause → (quiet new : Bool) → EndEvent → Bool
is_logged_by (Some why) quiet new h = new
is_logged_by None quiet new h = not (quiet && is_of_opening h)

-- an event is logged
abbrev pub is_logged : LogLevel → (quiet new : Bool) → EndEvent → Bool
is_logged level.Off quiet new h = false
is_logged level.State quiet new h = is_logged_by (cause_of_drop h) quiet new h
is_logged level.All quiet new h = true

-- the number of datagrams dropped for known causes, after one more was dropped
abbrev pub drops_after : (new : Bool) → Cause → ℕ → ℕ
drops_after new why drops = if new || is_repeat why then drops else min (drops + 1) (2 ^ 64 - 1)

-- the same after an event, if its cause is known or none
abbrev pub drops_with : Option Cause → (new : Bool) → ℕ → ℕ
drops_with None new drops = drops
drops_with (Some why) new drops = drops_after new why drops

-- the same after any event: only the level of states leaves drops out
abbrev pub drops_by : LogLevel → (new : Bool) → EndEvent → ℕ → ℕ
drops_by level.State new h drops = drops_with (cause_of_drop h) new drops
drops_by level.Off new h drops = drops
drops_by level.All new h drops = drops

-- datagrams dropped for known causes are to be logged: there are some, and the last count is a minute ago
abbrev pub are_drops_due : (drops at now : ℕ) → Bool
are_drops_due drops at now = nat_lt 0 drops && nat_le 60_000 (now - at)

-- the notice of them
abbrev pub drops_notice : (due : Bool) → (drops : ℕ) → Option Notice
drops_notice true drops = Some (Drops drops)
drops_notice false drops = None

-- the time so far, or now
abbrev pub since : Option ℕ → ℕ → ℕ
since None now = now
since (Some at) now = at

-- since when a retransmission is awaited
abbrev pub request_since : Option ℕ → ConnectionState → ℕ → Option ℕ
request_since before state.RetrReq now = Some (since before now)
request_since before state.Closed now = None
request_since before state.Down now = None
request_since before state.Start now = None
request_since before state.Up now = None
request_since before state.RetrRun now = None

-- the notice of a retransmission that was awaited when the connection ended
abbrev pub retransmission_notice : Option ℕ → ℕ → Option Notice
retransmission_notice None now = None
retransmission_notice (Some at) now = Some (Unanswered (now - at))

-- the same, if the connection is closed
abbrev pub request_notice : Option ℕ → ConnectionState → ℕ → Option Notice
request_notice asked state.Closed now = retransmission_notice asked now
request_notice asked state.Down now = None
request_notice asked state.Start now = None
request_notice asked state.Up now = None
request_notice asked state.RetrReq now = None
request_notice asked state.RetrRun now = None

-- a connection request that came is one that no peer may make: that at an interlocking
abbrev pub is_wrong_request : Side → (came : Bool) → Bool
is_wrong_request Interlocking came = came
is_wrong_request FieldElement came = false

-- the notice of the first one
abbrev pub wrong_request_notice : (first : Bool) → Option Notice
wrong_request_notice true = Some WrongRequest
wrong_request_notice false = None

-- a version of the peer is the one that was told
abbrev pub is_logged_version : (told : Option ℕ) → (found : ℕ) → Bool
is_logged_version None found = false
is_logged_version (Some told) found = nat_eq told found

-- the notice of a version of the peer for which the end disconnected, if one was found that was not told
abbrev pub version_notice : (told found : Option ℕ) → Option Notice
version_notice told None = None
version_notice told (Some found) = if is_logged_version told found then None else Some (OtherVersion found)

-- the end itself disconnects for a fault of the session
abbrev pub is_session_fault : EndEvent → Bool
is_session_fault (Left leaving) = nat_eq leaving.reason 4
is_session_fault (State s) = false
is_session_fault (Phase p) = false
is_session_fault (Anew number) = false
is_session_fault (PeerLeft leaving) = false
is_session_fault Asked = false
is_session_fault Resent = false
is_session_fault (PutRefused fault) = false
is_session_fault (InitRefused fault) = false
is_session_fault (Silent channel) = false
is_session_fault (Heard channel) = false
is_session_fault (Dropped channel why) = false

-- the messages in the body of a Data, and what an end of this side with these settings expects in them
unfoldable pub mismatch_lines : (body : List ℕ) → Side → EndSettings → List ℕ
mismatch_lines body side c = join_pieces (unit_lines Data body ∷ expected_lines side c ∷ [])

-- the same of a Data with a safety code of this length, if they are shown
abbrev pub data_lines : (shown : Bool) → (octets : List ℕ) → (code : ℕ) → Side → EndSettings → List ℕ
data_lines true octets code side c = mismatch_lines (body_seen octets code) side c
data_lines false octets code side c = []

-- nothing is logged
abbrev pub is_off : LogLevel → Bool
is_off level.Off = true
is_off level.State = false
is_off level.All = false
