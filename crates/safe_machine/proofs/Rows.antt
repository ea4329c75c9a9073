-- The definitions computed for worked cases: the table, each drop cause, each reason for disconnecting.
use Rattle.safe_machine.proofs.Words.{inl, inr, Some, ◌≡◌, ℕ, List, [], ◌∷◌, drop, true, false, refl, Err, Eight, Short, Kind, ConnReq, ConnResp, RetrReq}
use Rattle.safe_machine.proofs.Words.{RetrResp, DiscReq, Heartbeat, Data, RetrData, Pdu, kind_number, Start, Up, Requesting, RetrRun, Fault, Stranger}
use Rattle.safe_machine.proofs.Words.{NotOpened, Number, Request, Answered, Below, Dropped, Gap, Left, Taken, NoAnswer, ClosedByUser, UnexpectedPdu}
use Rattle.safe_machine.proofs.Words.{SequenceError, Timeout, ServiceNotAllowed, WrongVersion, RetransmissionImpossible, ProtocolError, Unspecified}
use Rattle.safe_machine.proofs.Words.{VersionDiffers, OutOfOrder, NotWellFormed, Limit, BadUnit, ConfirmedNumber, ConfirmedTimestamp, Made, opening_body}
use Rattle.safe_machine.proofs.Words.{leaving_body, Settings, State, new_state, leave, Decision, decide, Nothing, Drops, Shuts, Leaves, Rejects, Accepts, Connects}
use Rattle.safe_machine.proofs.Words.{Takes, Asks, Resumes, AnswersNext, AnswersEarly, arrive, send, tick, arrive_answer, Il, Fe, Event, start, run, Genuine}
use Rattle.safe_machine.proofs.Words.{Open, Send, Arrive, decoded_answer, kept_of, Bool}
use Rattle.safe_machine.specs.Numbers.{sn_of, ahead}

abbrev set_of : (client : Bool) (own peer pdu_limit : ℕ) → Settings
set_of client own peer pdu_limit = record {
  client = client;
  own = own;
  peer = peer;
  n_sendmax = 20;
  t_max = 1800;
  t_h = 300;
  mwa = 10;
  pdu_limit = pdu_limit;
  rule = record { length = Eight; initial_value = [] };
}

settings : Settings
settings = set_of false 2 1 4294901760

client_settings : Settings
client_settings = set_of true 1 2 4294901760

-- PDUs from the interlocking (1) and from the field element (2).
from_il : Kind → ℕ → ℕ → ℕ → List ℕ → Pdu
from_il kind sn cs cts body =
    record { kind = kind; receiver = 2; sender = 1; sn = sn; cs = cs; ts = 0; cts = cts; body = body }

from_fe : Kind → ℕ → ℕ → List ℕ → Pdu
from_fe kind sn cs body =
    record { kind = kind; receiver = 1; sender = 2; sn = sn; cs = cs; ts = 0; cts = 0; body = body }

-- A server with first number 500: in Down; after ConnReq 100; after HB 101; after a gap; after its RetrResp.
down : State
down = new_state settings 500 0

starting : State
starting = arrive (from_il ConnReq 100 0 0 (opening_body 20)) 0 down

up : State
up = arrive (from_il Heartbeat 101 500 0 []) 0 starting

requesting : State
requesting = arrive (from_il Data 103 500 0 (7 ∷ [])) 0 up

running : State
running = arrive (from_il RetrResp 104 500 0 []) 0 requesting

-- A client in Start.
client : State
client = new_state client_settings 100 0

-- PDUs as type, number and confirmed number.
seen : List Made → List (ℕ × ℕ × ℕ)
seen [] = []
seen (m ∷ ms) = (kind_number m.pdu.kind, m.pdu.sn, m.pdu.cs) ∷ seen ms

opening_seen : (seen up.made ≡ (6201, 500, 100) ∷ []) × (up.connection ≡ Up) × (starting.connection ≡ Start)
    × (requesting.connection ≡ Requesting)
    × (running.connection ≡ RetrRun)
unfolding seen up starting requesting running down from_il settings sn_of ahead
opening_seen = (refl, refl, refl, refl, refl)

-- A row of the table: the decisions on HB, Data, RetrData, RetrReq, RetrResp, ConnReq and ConnResp with this number.
row : State → ℕ → List Decision
row s sn =
    decide (kept_of s) (from_il Heartbeat sn 500 0 []) 0 ∷ decide (kept_of s) (from_il Data sn 500 0 (7 ∷ [])) 0 ∷
    decide (kept_of s)
    (from_il RetrData sn 500 0 (7 ∷ [])) 0
    ∷ decide (kept_of s) (from_il RetrReq sn 500 0 []) 0 ∷ decide (kept_of s) (from_il RetrResp sn 500 0 []) 0
    ∷ decide (kept_of s) (from_il ConnReq sn 500 0 (opening_body 20)) 0 ∷
    decide (kept_of s) (from_il ConnResp sn 500 0 (opening_body 20)) 0 ∷ []

unexpected : Decision
unexpected = Leaves UnexpectedPdu Unspecified

sequence : Decision
sequence = Leaves SequenceError Unspecified

start_rows : (row starting 101 ≡ Takes Up ∷ unexpected ∷ unexpected ∷ unexpected ∷ unexpected ∷ unexpected ∷
    unexpected ∷ [])
    × (row starting 102 ≡ sequence ∷ sequence ∷ unexpected ∷ unexpected ∷ unexpected ∷ unexpected ∷ unexpected ∷ [])
unfolding row unexpected sequence starting down from_il settings sn_of ahead
start_rows = (refl, refl)

up_rows : (row up 102 ≡ Takes Up ∷ Takes Up ∷ unexpected ∷ AnswersNext ∷ unexpected ∷ unexpected ∷ unexpected ∷ [])
    × (row up 103 ≡ Asks ∷ Asks ∷ unexpected ∷ AnswersEarly ∷ unexpected ∷ unexpected ∷ unexpected ∷ [])
unfolding row unexpected up starting down from_il settings sn_of ahead
up_rows = (refl, refl)

run_rows : (row running 105 ≡ Takes Up ∷ Takes Up ∷ Takes RetrRun ∷ AnswersNext ∷ unexpected ∷ unexpected ∷ unexpected ∷
    [])
    × (row running 106 ≡ Asks ∷ Asks ∷ Asks ∷ AnswersEarly ∷ unexpected ∷ unexpected ∷ unexpected ∷ [])
unfolding row unexpected running requesting up starting down from_il settings sn_of ahead
run_rows = (refl, refl)

request_rows : (row requesting 102 ≡ Drops Request ∷ Drops Request ∷ Drops Request ∷ AnswersEarly ∷ Resumes ∷
    unexpected ∷ unexpected ∷ [])
    × (row requesting 104 ≡ Drops Request ∷ Drops Request ∷ Drops Request ∷ AnswersEarly ∷ Resumes ∷ unexpected ∷
    unexpected ∷ [])
unfolding row unexpected requesting up starting down from_il settings sn_of ahead
request_rows = (refl, refl)

-- A DiscReq closes at any distance; in Down it is dropped.
goodbye_seen : (decide (kept_of starting) (from_il DiscReq 900 1 1 []) 0 ≡ Shuts)
    × (decide (kept_of up) (from_il DiscReq 900 1 1 []) 0 ≡ Shuts)
    × (decide (kept_of requesting) (from_il DiscReq 900 1 1 []) 0 ≡ Shuts)
    × (decide (kept_of running) (from_il DiscReq 900 1 1 []) 0 ≡ Shuts)
    × (decide (kept_of client) (from_fe DiscReq 900 1 []) 0 ≡ Shuts)
    × (decide (kept_of down) (from_il DiscReq 100 0 0 []) 0 ≡ Drops NotOpened)
unfolding starting up requesting running down client from_il from_fe settings client_settings sn_of ahead
goodbye_seen = (refl, refl, refl, refl, refl, refl)

-- The server in Down, and the client in Start, with the own version and with "0304".
other_version : List ℕ
other_version = 0x30 ∷ 0x33 ∷ 0x30 ∷ 0x34 ∷ 20 ∷ 0 ∷ 0 ∷ 0 ∷ 0 ∷ 0 ∷ 0 ∷ 0 ∷ 0 ∷ 0 ∷ []

version_seen : (decide (kept_of down) (from_il ConnReq 100 0 0 (opening_body 20)) 0 ≡ Accepts)
    × (decide (kept_of down) (from_il ConnReq 100 0 0 other_version) 0 ≡ Rejects)
    × (decide (kept_of client) (from_fe ConnResp 500 100 (opening_body 20)) 0 ≡ Connects)
    × (decide (kept_of client) (from_fe ConnResp 500 100 other_version) 0 ≡ Leaves WrongVersion Unspecified)
    × (decide (kept_of client) (from_fe Heartbeat 500 100 []) 0 ≡ unexpected)
    × (seen (arrive (from_il ConnReq 100 0 0 other_version) 0 down).made ≡ (6216, 500, 100) ∷ [])
unfolding seen unexpected down client other_version from_il from_fe settings client_settings sn_of ahead
version_seen = (refl, refl, refl, refl, refl, refl)

-- One arrival at a server in Up: Data 302 is the last in reach, and out of turn: RetrReq 501, CS 101; Data 303 is out
-- of reach.
gap_seen : (seen (drop 1 (arrive (from_il Data 302 500 0 (7 ∷ [])) 0 up).made) ≡ (6212, 501, 101) ∷ [])
    × ((arrive (from_il Data 302 500 0 (7 ∷ [])) 0 up).connection ≡ Requesting)
    × (arrive_answer (from_il Data 302 500 0 (7 ∷ [])) 0 (kept_of up) ≡ Gap)
    × (arrive_answer (from_il Data 303 500 0 (7 ∷ [])) 0 (kept_of up) ≡ Dropped Number)
unfolding seen up starting down from_il settings sn_of ahead
gap_seen = (refl, refl, refl, refl)

-- RetrData: reason 1. CS 501: reason 7, detail 3. CTS 1: reason 7, detail 4. At time 1800: reason 3; at time 1799:
-- taken. Then a stranger's PDU.
one_arrival : (arrive (from_il RetrData 102 500 0 (7 ∷ [])) 0 up ≡ leave UnexpectedPdu Unspecified 0 up)
    × (arrive (from_il Heartbeat 102 501 0 []) 0 up ≡ leave ProtocolError ConfirmedNumber 0 up)
    × (arrive (from_il Heartbeat 102 500 1 []) 0 up ≡ leave ProtocolError ConfirmedTimestamp 0 up)
    × (arrive (from_il Heartbeat 102 500 0 []) 1800 up ≡ leave Timeout Unspecified 1800 up)
    × (arrive_answer (from_il Heartbeat 102 500 0 []) 1800 (kept_of up) ≡ Left Timeout Unspecified)
    × (arrive_answer (from_il Heartbeat 102 500 0 []) 1799 (kept_of up) ≡ Taken)
    × (arrive_answer (record {
      kind = Heartbeat;
      receiver = 2;
      sender = 9;
      sn = 102;
      cs = 500;
      ts = 0;
      cts = 0;
      body = [];
    }) 0 (kept_of up) ≡ Dropped Stranger)
unfolding up starting down from_il settings sn_of ahead
one_arrival = (refl, refl, refl, refl, refl, refl, refl)

-- The server has sent two units, as 501 and 502.
sending : State
sending = send (8 ∷ []) 0 (send (7 ∷ []) 0 up)

after : Pdu → State
after p = arrive p 0 sending

-- A request with the next number is answered with all units again. The same request again is out of reach, and CS 499
-- is below the last one confirmed.
answer_seen : (seen (drop 3 (after (from_il RetrReq 102 500 0 [])).made) ≡ (6213, 503, 102) ∷ (6241, 504, 102) ∷
    (6241, 505, 102) ∷ (6220, 506, 102) ∷ [])
    × (decide (kept_of (after (from_il RetrReq 102 500 0 []))) (from_il RetrReq 102 500 0 []) 0 ≡ Drops Number)
    × (decide (kept_of sending) (from_il RetrReq 102 499 0 []) 0 ≡ Drops Below)
unfolding seen sending after up starting down from_il settings sn_of ahead
answer_seen = (refl, refl, refl)

-- CS 503 confirms a PDU that was not made: reason 6, and nothing is confirmed.
beyond_seen : (seen (drop 3 (after (from_il RetrReq 102 503 0 [])).made) ≡ (6216, 503, 101) ∷ [])
    × (decide (kept_of sending) (from_il RetrReq 102 503 0 []) 0 ≡ Leaves RetransmissionImpossible Unspecified)
unfolding seen sending after up starting down from_il settings sn_of ahead
beyond_seen = (refl, refl)

-- An early request is answered with the units after its CS, and with a request of the end's own; a second time it is
-- dropped.
early_seen : (seen (drop 3 (after (from_il RetrReq 105 501 0 [])).made) ≡ (6213, 503, 101) ∷ (6241, 504, 101) ∷
    (6220, 505, 101) ∷ (6212, 506, 101) ∷ [])
    × (decide (kept_of (after (from_il RetrReq 105 501 0 []))) (from_il RetrReq 105 501 0 []) 0 ≡ Drops Answered)
    × ((after (from_il RetrReq 105 501 0 [])).connection ≡ Requesting)
unfolding seen sending after up starting down from_il settings sn_of ahead
early_seen = (refl, refl, refl)

-- A closed end does nothing for any sender, and bytes that do not decode cause only the timeout check.
closed_seen : (decide (kept_of (leave ClosedByUser Unspecified 0 up))
    (record { kind = Heartbeat; receiver = 2; sender = 9; sn = 102; cs = 500; ts = 0; cts = 0; body = [] }) 0 ≡ Nothing)
    × (decoded_answer (Err Short) 0 (kept_of (leave ClosedByUser Unspecified 0 up)) ≡ NoAnswer)
    × (decoded_answer (Err Short) 0 (kept_of up) ≡ Dropped (Fault Short))
    × (decoded_answer (Err Short) 1800 (kept_of up) ≡ Left Timeout Unspecified)
unfolding up starting down from_il settings sn_of ahead
closed_seen = (refl, refl, refl, refl)

-- If the limit of PDUs is reached: reason 7, detail 1. (Here the limit is one PDU.)
short_settings : Settings
short_settings = set_of false 2 1 1

limit_seen : arrive_answer (from_il Heartbeat 101 500 0 []) 0
    (kept_of (arrive (from_il ConnReq 100 0 0 (opening_body 20)) 0 (new_state short_settings 500 0)))
    ≡ Left ProtocolError Limit
unfolding from_il short_settings sn_of ahead
limit_seen = refl

-- The numbers in a DiscReq: detail, then reason.
numbers_seen : (leaving_body ClosedByUser Unspecified ≡ 0 ∷ 0 ∷ 0 ∷ 0 ∷ [])
    × (leaving_body ServiceNotAllowed VersionDiffers ≡ 1 ∷ 0 ∷ 4 ∷ 0 ∷ [])
    × (leaving_body ServiceNotAllowed OutOfOrder ≡ 2 ∷ 0 ∷ 4 ∷ 0 ∷ [])
    × (leaving_body ServiceNotAllowed NotWellFormed ≡ 3 ∷ 0 ∷ 4 ∷ 0 ∷ [])
    × (leaving_body ProtocolError Limit ≡ 1 ∷ 0 ∷ 7 ∷ 0 ∷ [])
    × (leaving_body ProtocolError BadUnit ≡ 2 ∷ 0 ∷ 7 ∷ 0 ∷ [])
    × (leaving_body ProtocolError ConfirmedNumber ≡ 3 ∷ 0 ∷ 7 ∷ 0 ∷ [])
    × (leaving_body ProtocolError ConfirmedTimestamp ≡ 4 ∷ 0 ∷ 7 ∷ 0 ∷ [])
numbers_seen = (refl, refl, refl, refl, refl, refl, refl, refl)

-- A heartbeat is due 300 ms after the last sending, but not in Start.
heartbeat_seen : (seen (tick 299 up).made ≡ (6201, 500, 100) ∷ [])
    × (seen (tick 300 up).made ≡ (6201, 500, 100) ∷ (6220, 501, 101) ∷ [])
    × (seen (tick 300 starting).made ≡ (6201, 500, 100) ∷ [])
unfolding seen up starting down from_il settings sn_of ahead
heartbeat_seen = (refl, refl, refl)

-- A genuine list of events in which a unit is taken, which shows that the law is not vacuous.
one_unit : List Event
one_unit =
    Open Fe settings 500 0 ∷ Open Il client_settings 100 0
    ∷ Arrive Fe (from_il ConnReq 100 0 0 (opening_body 20)) 0 ∷ Arrive Il (from_fe ConnResp 500 100 (opening_body 20)) 0
    ∷ Arrive Fe (from_il Heartbeat 101 500 0 []) 0 ∷ Send Il (7 ∷ []) 0 ∷
    Arrive Fe (from_il Data 102 500 0 (7 ∷ [])) 0 ∷ []

one_unit-genuine : Genuine one_unit start
unfolding one_unit settings client_settings from_il from_fe sn_of ahead
one_unit-genuine = (
  tt,
  (
    tt,
    (
      (λ on meant. inl refl),
      (
        (λ on meant. inl refl),
        ((λ on meant. inr (inl refl)), (tt, ((λ on meant. inr (inr (inl refl))), tt))),
      ),
    ),
  ),
)

one_unit-taken : ((run one_unit start).fe.taken ≡ (7 ∷ []) ∷ []) × ((run one_unit start).joined ≡ Some 1)
unfolding one_unit settings client_settings from_il from_fe sn_of ahead
one_unit-taken = (refl, refl)
