-- What an end does, by its state, with a PDU that is within reach and not a DiscReq.
use Rattle.std.specs.Prelude.{Bool, true, false}
use Rattle.safe_pdu.specs.declared.Kind.{Kind}
use Rattle.safe_pdu.specs.declared.Kind.TheVariants.{RetrReq, RetrResp, Heartbeat, Data, RetrData}
use Rattle.safe_machine.specs.declared.ConnectionState.{ConnectionState}
use Rattle.safe_machine.specs.declared.ConnectionState.TheVariants.{Start, Up, RetrReq as Requesting, RetrRun}
use Rattle.safe_machine.specs.declared.arrival.Cell.{Cell}
use Rattle.safe_machine.specs.declared.arrival.Cell.TheVariants.{Take, Ask, Answer, Resume, Refuse, Skip}
use Rattle.safe_pdu.specs.declared.reasons.Reason.TheVariants.{UnexpectedPdu, SequenceError}

-- The row of a server in Start. The flag says that the PDU is the next one.
abbrev pub start_row : Bool → Kind → Cell
start_row true Heartbeat = Take Up
start_row false Heartbeat = Refuse SequenceError
start_row false Data = Refuse SequenceError
start_row _ _ = Refuse UnexpectedPdu

-- The row of Up.
abbrev pub up_row : Bool → Kind → Cell
up_row true Heartbeat = Take Up
up_row true Data = Take Up
up_row false Heartbeat = Ask
up_row false Data = Ask
up_row _ RetrReq = Answer
up_row _ _ = Refuse UnexpectedPdu

-- The row of RetrRun, while a retransmission is running.
abbrev pub run_row : Bool → Kind → Cell
run_row true Heartbeat = Take Up
run_row true Data = Take Up
run_row true RetrData = Take RetrRun
run_row false Heartbeat = Ask
run_row false Data = Ask
run_row false RetrData = Ask
run_row _ RetrReq = Answer
run_row _ _ = Refuse UnexpectedPdu

-- The row of RetrReq, while a retransmission is requested; the distance does not matter.
abbrev pub request_row : Kind → Cell
request_row Heartbeat = Skip
request_row Data = Skip
request_row RetrData = Skip
request_row RetrReq = Answer
request_row RetrResp = Resume
request_row _ = Refuse UnexpectedPdu

-- The table.
abbrev pub cell : ConnectionState → Bool → Kind → Cell
cell Start next kind = start_row next kind
cell Up next kind = up_row next kind
cell RetrRun next kind = run_row next kind
cell Requesting next kind = request_row kind
cell _ next kind = Skip
