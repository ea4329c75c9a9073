-- The numbers of the reasons and details in a DiscReq.
use Rattle.std.specs.Prelude.{ℕ, ◌==◌, if◌then◌else◌, Option, Some, None}
use Rattle.safe_pdu.specs.declared.reasons.Reason.{Reason}
use Rattle.safe_pdu.specs.declared.reasons.Reason.TheVariants.{ClosedByUser, UnexpectedPdu, SequenceError, Timeout, ServiceNotAllowed, WrongVersion, RetransmissionImpossible, ProtocolError}
use Rattle.safe_pdu.specs.declared.reasons.Detail.{Detail}
use Rattle.safe_pdu.specs.declared.reasons.Detail.TheVariants.{Unspecified, VersionDiffers, OutOfOrder, NotWellFormed, Limit, BadUnit, ConfirmedNumber, ConfirmedTimestamp}

-- the number of a reason
abbrev pub reason_number : Reason → ℕ
reason_number ClosedByUser = 0
reason_number UnexpectedPdu = 1
reason_number SequenceError = 2
reason_number Timeout = 3
reason_number ServiceNotAllowed = 4
reason_number WrongVersion = 5
reason_number RetransmissionImpossible = 6
reason_number ProtocolError = 7

-- the reason with a number, if a reason has it
abbrev pub reason_numbered : ℕ → Option Reason
reason_numbered number =
    if number == 0 then Some ClosedByUser
    else if number == 1 then Some UnexpectedPdu
    else if number == 2 then Some SequenceError
    else if number == 3 then Some Timeout
    else if number == 4 then Some ServiceNotAllowed
    else if number == 5 then Some WrongVersion
    else if number == 6 then Some RetransmissionImpossible
    else if number == 7 then Some ProtocolError
    else None

-- the number of a detail; the first three after `Unspecified` belong to reason 4, the others to reason 7
abbrev pub detail_number : Detail → ℕ
detail_number Unspecified = 0
detail_number VersionDiffers = 1
detail_number OutOfOrder = 2
detail_number NotWellFormed = 3
detail_number Limit = 1
detail_number BadUnit = 2
detail_number ConfirmedNumber = 3
detail_number ConfirmedTimestamp = 4

-- the detail with a number beside reason 4: why the session refuses
abbrev pub service_numbered : ℕ → Option Detail
service_numbered number =
    if number == 1 then Some VersionDiffers
    else if number == 2 then Some OutOfOrder
    else if number == 3 then Some NotWellFormed
    else None

-- the detail with a number beside reason 7: the protocol error
abbrev pub protocol_numbered : ℕ → Option Detail
protocol_numbered number =
    if number == 1 then Some Limit
    else if number == 2 then Some BadUnit
    else if number == 3 then Some ConfirmedNumber
    else if number == 4 then Some ConfirmedTimestamp
    else None

-- the detail with a number other than 0 beside a reason; only reasons 4 and 7 have details
abbrev pub detail_beside : Reason → ℕ → Option Detail
detail_beside ServiceNotAllowed number = service_numbered number
detail_beside ProtocolError number = protocol_numbered number
detail_beside _ number = None

-- the detail with a number beside a reason, if a detail of the reason has it
abbrev pub detail_numbered : Reason → ℕ → Option Detail
detail_numbered reason number = if number == 0 then Some Unspecified else detail_beside reason number
