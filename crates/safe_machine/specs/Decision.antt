-- The decision of an end on an arrival, from what it keeps, the PDU and its own time.
use Rattle.std.specs.Prelude.{ℕ, ◌+◌, ◌-◌, ◌*◌, ◌==◌, ◌&&◌, nat_lt, nat_le, Bool, true, false, List, if◌then◌else◌}
use Rattle.octets.specs.declared.limits.TheConstants.{REACH}
use Rattle.safe_pdu.specs.declared.Kind.{Kind}
use Rattle.safe_pdu.specs.declared.Kind.TheVariants.{ConnReq, ConnResp, DiscReq}
use Rattle.safe_machine.specs.declared.ConnectionState.{ConnectionState}
use Rattle.safe_machine.specs.declared.ConnectionState.TheVariants.{Closed, Down, Start}
use Rattle.safe_machine.specs.declared.DropCause.TheVariants.{Stranger, NotOpened, Number, Request, Answered, Below}
use Rattle.safe_machine.specs.declared.arrival.Decision.{Decision}
use Rattle.safe_machine.specs.declared.arrival.Decision.TheVariants.{Nothing, Drops, Shuts, Leaves, Rejects, Accepts, Connects, Takes, Asks, Resumes, AnswersNext, AnswersEarly}
use Rattle.safe_machine.specs.declared.Step.{Step as Outcome}
use Rattle.safe_machine.specs.declared.Step.TheVariants.{Taken, Dropped, Gap, Left, Nothing as NoAnswer}
use Rattle.safe_machine.specs.Made.{our_version}
use Rattle.safe_machine.specs.Numbers.{sn_of, ahead}
use Rattle.std.specs.Str.{bytes_eq}
use Rattle.safe_pdu.specs.Pdu.{Pdu}
use Rattle.safe_pdu.specs.Bodies.{version_of}
use Rattle.safe_machine.specs.Settings.{Settings}
use Rattle.safe_machine.specs.State.{State}
use Rattle.safe_machine.specs.View.{View}
use Rattle.safe_machine.specs.Connections.{in_turn, is_closed}
pub use Rattle.safe_machine.specs.Connections.{in_turn, is_closed}
use Rattle.safe_machine.specs.declared.arrival.Cell.{Cell}
use Rattle.safe_machine.specs.Table.{cell}
use Rattle.safe_machine.specs.declared.arrival.Cell.TheVariants.{Take, Ask, Answer, Resume, Refuse, Skip}
use Rattle.safe_pdu.specs.declared.reasons.Reason.TheVariants.{UnexpectedPdu, WrongVersion, RetransmissionImpossible, ProtocolError}
use Rattle.safe_pdu.specs.declared.reasons.Detail.TheVariants.{Unspecified, ConfirmedNumber, ConfirmedTimestamp}

-- The body of a ConnReq or ConnResp has the version of this profile.
abbrev pub is_ours : List ℕ → Bool
is_ours body = bytes_eq (version_of body) our_version

-- The receiver is not this end, or the sender is not its peer.
abbrev pub is_foreign : Settings → Pdu → Bool
is_foreign settings p = if (p.receiver == settings.own) && (p.sender == settings.peer) then false else true

-- The PDU is foreign to an end in this state.
abbrev pub is_stranger : State → Pdu → Bool
is_stranger s p = is_foreign s.settings p

-- How far the PDU is ahead of the expected one.
abbrev pub distance : View → Pdu → ℕ
distance v p = ahead (v.last_sn + 1) p.sn

-- How many PDUs it confirms after the last one confirmed.
abbrev pub cs_step : View → Pdu → ℕ
cs_step v p = ahead (sn_of v.first v.confirmed) p.cs

-- By how many milliseconds its confirmed timestamp is after the time last confirmed.
abbrev pub cts_step : View → Pdu → ℕ
cts_step v p = ahead v.confirmed_at p.cts

-- The number test: the confirmed number is that of a PDU made, and not before the last one confirmed.
abbrev pub cs_fits : View → Pdu → Bool
cs_fits v p = nat_lt (cs_step v p) (v.made - v.confirmed)

-- The timestamp test: the confirmed timestamp is not after the own time.
abbrev pub cts_fits : View → Pdu → ℕ → Bool
cts_fits v p now = nat_le (cts_step v p) (now - v.confirmed_at)

-- The decision if both tests pass: first the number, then the timestamp.
abbrev pub decide_by_tests : View → Pdu → ℕ → Decision → Decision
decide_by_tests v p now decision =
    if cs_fits v p then (if cts_fits v p now then decision else Leaves ProtocolError ConfirmedTimestamp)
    else Leaves ProtocolError ConfirmedNumber

-- The decision of a server before a connection, by PDU type.
abbrev pub in_down : Pdu → Kind → Decision
in_down p ConnReq = if is_ours p.body then Accepts else Rejects
in_down p _ = Drops NotOpened

-- The decision of a client in Start, by PDU type.
abbrev pub as_client : View → Pdu → ℕ → Kind → Decision
as_client v p now ConnResp =
    if is_ours p.body then decide_by_tests v p now Connects else Leaves WrongVersion Unspecified
as_client v p now _ = Leaves UnexpectedPdu Unspecified

-- The decision on a RetrReq that fails the number test: dropped if it confirms less than before, otherwise the end
-- disconnects.
abbrev pub decide_unconfirming_request : View → Pdu → Decision
decide_unconfirming_request v p =
    if nat_le 0x8000_0000 (cs_step v p) then Drops Below else Leaves RetransmissionImpossible Unspecified

-- The decision on a RetrReq, by its distance: handled before, failing the number test, the next PDU, or early.
abbrev pub decide_request : View → Pdu → ℕ → ℕ → Decision
decide_request v p now d =
    if nat_le (v.expected + d) v.answered then Drops Answered
    else if cs_fits v p
    then (if (d == 0) && in_turn v.connection
    then (if cts_fits v p now then AnswersNext else Leaves ProtocolError ConfirmedTimestamp)
    else AnswersEarly)
    else decide_unconfirming_request v p

-- The decision that a cell of the table leads to.
abbrev pub by_cell : View → Pdu → ℕ → ℕ → Cell → Decision
by_cell v p now d (Take connection) = decide_by_tests v p now (Takes connection)
by_cell v p now d Ask = Asks
by_cell v p now d Answer = decide_request v p now d
by_cell v p now d Resume = decide_by_tests v p now Resumes
by_cell v p now d (Refuse reason) = Leaves reason Unspecified
by_cell v p now d Skip = Drops Request

-- The decision by the table, if the PDU is at most 10 times the own window ahead.
abbrev pub by_table : View → Pdu → ℕ → ℕ → Decision
by_table v p now d =
    if nat_le d (REACH * v.settings.n_sendmax) then by_cell v p now d (cell v.connection (d == 0) p.kind)
    else Drops Number

-- The decision in Start, by the role.
abbrev pub in_start : View → Pdu → ℕ → Decision
in_start v p now = if v.settings.client then as_client v p now p.kind else by_table v p now (distance v p)

-- The PDU is a DiscReq.
abbrev pub is_goodbye : Kind → Bool
is_goodbye DiscReq = true
is_goodbye _ = false

-- The decision by the state of the connection.
abbrev pub by_connection : View → Pdu → ℕ → ConnectionState → Decision
by_connection v p now Closed = Nothing
by_connection v p now Down = in_down p p.kind
by_connection v p now Start = if is_goodbye p.kind then Shuts else in_start v p now
by_connection v p now _ = if is_goodbye p.kind then Shuts else by_table v p now (distance v p)

-- The decision of an end that is not closed: a stranger's PDU is dropped.
abbrev pub by_sender : View → Pdu → ℕ → Decision
by_sender v p now = if is_foreign v.settings p then Drops Stranger else by_connection v p now v.connection

-- The decision: closed first, then strangers, then the state.
abbrev pub decide : View → Pdu → ℕ → Decision
decide v p now = if is_closed v.connection then Nothing else by_sender v p now

-- The step as which a decision is reported.
abbrev pub answer_of : Decision → Outcome
answer_of Nothing = NoAnswer
answer_of (Drops cause) = Dropped cause
answer_of Shuts = NoAnswer
answer_of (Leaves reason detail) = Left reason detail
answer_of Rejects = Left WrongVersion Unspecified
answer_of Accepts = Taken
answer_of Connects = Taken
answer_of (Takes connection) = Taken
answer_of Asks = Gap
answer_of Resumes = Taken
answer_of AnswersNext = Taken
answer_of AnswersEarly = Taken
