-- The log of an end: one line for each thing that happened to it.
use Rattle.std.specs.Prelude.{ℕ, nat_eq, List, [], ◌∷◌, ◌++◌, codes, if◌then◌else◌}
use Rattle.std.specs.Fmt.{decimal}
use Rattle.pdu_text.specs.Lines.{join_pieces}
use Rattle.pdu_text.specs.Names.{state_name, phase_name}
use Rattle.pdi_session.specs.FaultNames.{put_fault_name, init_fault_name}
use Rattle.pdu_text.specs.Causes.{cause_text}
use Rattle.pdu_text.specs.DisconnectReasons.{leaving_text}
use Rattle.pdu_text.specs.declared.causes.Cause.{Cause}
use Rattle.pdu_text.specs.declared.lines.EndEvent.{EndEvent}
use Rattle.pdu_text.specs.declared.lines.EndEvent.TheVariants.{State, Phase, Anew, Left, PeerLeft, Asked, Resent, PutRefused, InitRefused, Silent, Heard, Dropped}

-- the connection has entered the state of this name
unfoldable pub state_text : List ℕ → List ℕ
state_text name = join_pieces (codes "connection " ∷ name ∷ [])

-- the session has entered the phase of this name
unfoldable pub phase_text : List ℕ → List ℕ
phase_text name = join_pieces (codes "session " ∷ name ∷ [])

-- the end was opened again, with this first sequence number
unfoldable pub reopened_text : ℕ → List ℕ
reopened_text number = join_pieces (codes "reopened, first sequence number " ∷ decimal number ∷ [])

-- a telegram was not accepted, because of the fault of this name
unfoldable pub refusal_text : List ℕ → List ℕ
refusal_text name = join_pieces (codes "telegram not accepted: " ∷ name ∷ [])

-- the end of the initialisation was not accepted, because of the fault of this name
unfoldable pub not_ended_text : List ℕ → List ℕ
not_ended_text name = join_pieces (codes "end of initialisation not accepted: " ∷ name ∷ [])

-- nothing came on this channel for longer than T_max
unfoldable pub silent_text : ℕ → List ℕ
silent_text channel =
    join_pieces (codes "channel " ∷ decimal channel ∷ codes " is silent: nothing received for longer than T_max" ∷ [])

-- something came on this channel again
unfoldable pub recovered_text : ℕ → List ℕ
recovered_text channel = join_pieces (codes "channel " ∷ decimal channel ∷ codes " receives again" ∷ [])

-- a datagram of this channel was dropped
unfoldable pub channel_front : ℕ → List ℕ
channel_front channel = join_pieces (codes "dropped a datagram of channel " ∷ decimal channel ∷ codes ": " ∷ [])

-- a datagram of this channel, counted from 1, was dropped; 0 for a deferred datagram, whose channel is unknown
unfoldable pub drop_front : ℕ → List ℕ
drop_front channel = if nat_eq channel 0 then codes "dropped a deferred datagram: " else channel_front channel

-- which datagram was dropped, and why
unfoldable pub drop_text : ℕ → Cause → List ℕ
drop_text channel cause = drop_front channel ++ cause_text cause

-- the text of an event
abbrev pub end_event_text : EndEvent → List ℕ
end_event_text (State state) = state_text (state_name state)
end_event_text (Phase phase) = phase_text (phase_name phase)
end_event_text (Anew number) = reopened_text number
end_event_text (Left leaving) = leaving_text (codes "disconnects with ") leaving
end_event_text (PeerLeft leaving) = leaving_text (codes "peer disconnected with ") leaving
end_event_text Asked = codes "requests a retransmission: a PDU was lost on all channels"
end_event_text Resent = codes "resends what the peer has missed"
end_event_text (PutRefused fault) = refusal_text (put_fault_name fault)
end_event_text (InitRefused fault) = not_ended_text (init_fault_name fault)
end_event_text (Silent channel) = silent_text channel
end_event_text (Heard channel) = recovered_text channel
end_event_text (Dropped channel cause) = drop_text channel cause

-- a channel of an end that is opened: own address, and the peer's
unfoldable pub channel_text : ℕ → List ℕ → List ℕ → List ℕ
channel_text channel local remote =
    join_pieces (codes "opens channel " ∷ decimal channel ∷ codes ": own " ∷ local ∷ codes ", peer " ∷ remote ∷ [])

-- how many lines were left out of the log
unfoldable pub missing_lines_text : ℕ → List ℕ
missing_lines_text count =
    join_pieces (codes "log: " ∷ decimal count ∷ codes " lines left out, too many events in one turn" ∷ [])
