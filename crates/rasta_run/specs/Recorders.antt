-- What the recorder of an end keeps of the datagrams that are sent and received, and of the end's notes.
use Rattle.std.specs.Prelude.{ℕ, ◌%◌, ◌==◌, nat_eq, Bool, true, false, List, slice_set, Option, Some, None, if◌then◌else◌}
use Rattle.pdu_text.specs.declared.causes.Cause.{Cause}
use Rattle.pdu_text.specs.declared.lines.EndEvent.{EndEvent}
use Rattle.pdu_text.specs.declared.lines.EndEvent.TheVariants as happening
use Rattle.red_layer.specs.declared.RedEvent.{RedEvent}
use Rattle.safe_machine.specs.declared.DropCause.{DropCause}
use Rattle.safe_pdu.specs.declared.Kind.{Kind}
use Rattle.safe_pdu.specs.declared.Kind.TheVariants.{ConnReq, ConnResp, RetrReq, RetrResp, DiscReq, Heartbeat, Data, RetrData}
use Rattle.safe_pdu.specs.declared.reasons.Reason.{Reason}
use Rattle.safe_pdu.specs.declared.reasons.Reason.TheVariants as reason
use Rattle.safe_machine.specs.declared.Step.{Step}
use Rattle.safe_machine.specs.declared.Step.TheVariants as step
use Rattle.rasta_run.specs.Counters.{channel_under, closing_count_after, count_dropped_on, count_sent_on}
use Rattle.stack_end.specs.Statistics.{one_more}
use Rattle.rasta_run.specs.Headers.{header_seen, kind_seen}
use Rattle.rasta_run.specs.LogEvents.{drop_cause, event_cause, last_of, made_event}
use Rattle.rasta_run.specs.declared.header.Header.{Header}
use Rattle.rasta_run.specs.declared.recorder.Recorder.{Recorder}
use Rattle.rasta_run.specs.declared.recorder.ExpectedHeader.{ExpectedHeader}
use Rattle.end_settings.specs.declared.EndConfig.{EndConfig}

-- what an end with these settings expects of its peer
abbrev pub expected_header_of : EndConfig → ExpectedHeader
expected_header_of c = record { peer_id = c.peer_id; id = c.id; code = c.code }

-- a datagram of this type requests a connection
abbrev pub is_request : Option Kind → Bool
is_request (Some ConnReq) = true
is_request (Some ConnResp) = false
is_request (Some RetrReq) = false
is_request (Some RetrResp) = false
is_request (Some DiscReq) = false
is_request (Some Heartbeat) = false
is_request (Some Data) = false
is_request (Some RetrData) = false
is_request None = false

-- the last datagram with the type of a Data, after one more of this type
abbrev pub data_after : Option Kind → (datagram before : List ℕ) → List ℕ
data_after (Some Data) datagram before = datagram
data_after (Some ConnReq) datagram before = before
data_after (Some ConnResp) datagram before = before
data_after (Some RetrReq) datagram before = before
data_after (Some RetrResp) datagram before = before
data_after (Some DiscReq) datagram before = before
data_after (Some Heartbeat) datagram before = before
data_after (Some RetrData) datagram before = before
data_after None datagram before = before

-- an event is kept at the place of its number
abbrev pub with_event : EndEvent → Recorder → Recorder
with_event h r = record r { kept = slice_set r.kept (r.happened % 256) h; happened = one_more r.happened }

-- the same, if there is one
abbrev pub with_some : Option EndEvent → Recorder → Recorder
with_some None r = r
with_some (Some h) r = with_event h r

-- the event of a datagram that was to be sent: only the first channel has one, since all carry the same
abbrev pub sent_event : (channel : ℕ) → List ℕ → Option EndEvent
sent_event channel datagram = if channel == 1 then made_event (kind_seen datagram) else None

-- a datagram was to be sent on a channel, and was or was not
abbrev pub after_send : (channel : ℕ) → List ℕ → Bool → Recorder → Recorder
after_send channel datagram went r =
    with_some (sent_event channel datagram) (record r { channels = count_sent_on channel went r.channels })

-- a datagram of a channel was dropped
abbrev pub after_drop : (channel : ℕ) → Cause → Recorder → Recorder
after_drop channel cause r =
    with_event (happening.Dropped channel cause) (record r { last_cause = Some (last_of r.last_cause cause) })

-- the last datagram was dropped, if there is a cause
abbrev pub after_cause : Option Cause → Recorder → Recorder
after_cause None r = r
after_cause (Some cause) r = after_drop r.came.0 cause r

-- the redundancy layer handled the last datagram
abbrev pub after_event : RedEvent → Recorder → Recorder
after_event event r = after_cause (event_cause event) r

-- the header of the part with this number, if it is that of the last datagram
abbrev pub header_under : (number : ℕ) → Option Header → Option Header
header_under number None = None
header_under number (Some h) = if nat_eq h.number number then Some h else None

-- the safety machine dropped the part with this number; one that is not of the last datagram has no known channel
abbrev pub after_part : (number : ℕ) → DropCause → Recorder → Recorder
after_part number cause r =
    let channel = channel_under number r.came.0 r.came.1 in
    after_drop channel (drop_cause cause (header_under number r.came.1) r.wanted)
    (record r { channels = count_dropped_on channel cause r.channels })

-- the version for which the end last disconnected, after it disconnected for this reason because of a part with this
-- header
abbrev pub version_after : Reason → Option Header → (before : Option ℕ) → Option ℕ
version_after reason.WrongVersion (Some header) before = header.version
version_after reason.WrongVersion None before = before
version_after reason.ClosedByUser header before = before
version_after reason.UnexpectedPdu header before = before
version_after reason.SequenceError header before = before
version_after reason.Timeout header before = before
version_after reason.ServiceNotAllowed header before = before
version_after reason.RetransmissionImpossible header before = before
version_after reason.ProtocolError header before = before

-- the end disconnected because of the part with this number
abbrev pub after_disconnect : (number : ℕ) → Reason → Recorder → Recorder
after_disconnect number why r =
    record r { closing = one_more r.closing; version = version_after why (header_under number r.came.1) r.version }

-- the safety machine handled the part with this number
abbrev pub after_step : (number : ℕ) → Step → Recorder → Recorder
after_step number (step.Dropped cause) r = after_part number cause r
after_step number (step.Left why detail) r = after_disconnect number why r
after_step number step.Nothing r = record r { closing = one_more r.closing }
after_step number step.Taken r = r
after_step number step.Gap r = r
