-- Why a datagram was dropped, in words, with what may have caused it.
use Rattle.std.specs.Prelude.{ℕ, List, ◌∷◌, [], codes}
use Rattle.std.specs.Fmt.{decimal}
use Rattle.pdu_text.specs.Lines.{join_pieces}
use Rattle.red_layer.specs.declared.RedEvent.{RedEvent}
use Rattle.red_layer.specs.declared.RedEvent.TheVariants as event
use Rattle.safe_machine.specs.declared.DropCause.{DropCause}
use Rattle.safe_machine.specs.declared.DropCause.TheVariants as cause
use Rattle.safe_pdu.specs.declared.SafeFault.{SafeFault}
use Rattle.safe_pdu.specs.declared.SafeFault.TheVariants as fault
use Rattle.pdu_text.specs.declared.causes.Cause.{Cause}
use Rattle.pdu_text.specs.declared.causes.Cause.TheVariants.{Early, OtherCode, Part, Stranger}

-- the words for an event of the redundancy layer
abbrev pub event_text : RedEvent → List ℕ
event_text event.Passed = codes "passed on"
event_text event.Wait = codes "waits"
event_text event.Old = codes "its number was already received, on this or another channel"
event_text event.Far = codes "its number is too far ahead"
event_text event.Full = codes "it came early, and every place is taken"
event_text event.Again = codes "its number is already deferred"
event_text (event.Fault why) = codes "it is not a redundancy PDU: damage, or not RaSTA"

-- the words for a fault of a safety PDU
abbrev pub fault_text : SafeFault → List ℕ
fault_text fault.Short = codes "it is too short for a safety PDU: another length of code, or damage"
fault_text fault.Length = codes "its length differs from its length field: another length of code, or damage"
fault_text fault.Code =
    codes "its safety code is not that of these settings: another code or initial value (iv), or damage"
fault_text fault.BadType = codes "its type is unknown"
fault_text fault.Body = codes "its body does not fit its type"

-- the words for a cause of the safety machine
abbrev pub part_text : DropCause → List ℕ
part_text (cause.Fault why) = fault_text why
part_text cause.Stranger = codes "a stranger's: another id or peer_id"
part_text cause.NotOpened = codes "it is not a connection request, and there is no connection"
part_text cause.Number = codes "its sequence number is too far ahead"
part_text cause.Request = codes "it is not the requested retransmission"
part_text cause.Answered = codes "a retransmission request that was already answered"
part_text cause.Below = codes "a retransmission request that confirms less than an earlier PDU"

-- the words for a PDU of other ends, with the identifiers of its sender and receiver, and those of the peer and this
-- end
unfoldable pub stranger_text : (sender receiver peer_id id : ℕ) → List ℕ
stranger_text sender receiver peer_id id =
    join_pieces
    (codes "a stranger's: from id " ∷ decimal sender ∷ codes " for id " ∷ decimal receiver
    ∷ codes ", not from " ∷ decimal peer_id ∷ codes " (peer_id) for " ∷ decimal id ∷ codes " (id)" ∷ [])

-- the words for a PDU with another safety code, with its length in bytes and that of this end
unfoldable pub other_code_text : (found own : ℕ) → List ℕ
other_code_text found own =
    join_pieces
    (codes "its length is that of a PDU with a safety code of " ∷ decimal found ∷ codes " bytes, not " ∷ decimal own
    ∷ codes " (code): another code, or damage" ∷ [])

-- the words for why a datagram was dropped
abbrev pub cause_text : Cause → List ℕ
cause_text (Early why) = event_text why
cause_text (Part why) = part_text why
cause_text (Stranger sender receiver peer_id id) = stranger_text sender receiver peer_id id
cause_text (OtherCode found own) = other_code_text found own
