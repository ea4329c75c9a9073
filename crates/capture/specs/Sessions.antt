-- The sessions of a connection. One lasts from its opening to the next one.
use Rattle.circular_buffer.specs.Buffer.{keep_last}
use Rattle.std.specs.Prelude.{ℕ, ◌+◌, ◌-◌, ◌^◌, min, [], ◌∷◌, ◌++◌, ◌==◌, ◌&&◌, ◌||◌, Bool, true, false, not, nat_eq, nat_lt, List, fold, slice_index, slice_set, replicate, if◌then◌else◌, Option, Some, None, is_none, is_some}
use Rattle.safe_pdu.specs.declared.Kind.{Kind}
use Rattle.safe_pdu.specs.declared.Leaving.{Leaving}
use Rattle.capture.specs.declared.direction.TheConstants.{CHANNELS}
use Rattle.capture.specs.declared.direction.Remarks.{Remarks}
use Rattle.capture.specs.declared.sessions.TheConstants.{SESSIONS, TIMEOUT}
use Rattle.capture.specs.declared.sessions.SessionRequest.{SessionRequest}
use Rattle.capture.specs.declared.sessions.SessionRequest.TheVariants.{NotRecorded, Recorded}
use Rattle.capture.specs.declared.sessions.Disconnection.{Disconnection}
use Rattle.capture.specs.declared.sessions.Disconnection.TheVariants.{NotSent, Sent}
use Rattle.capture.specs.declared.sessions.Session.{Session}
use Rattle.capture.specs.declared.sessions.SessionTotals.{SessionTotals}
use Rattle.capture.specs.declared.sessions.Sessions.{Sessions}
use Rattle.capture.specs.declared.sessions.Side.{Side}
use Rattle.capture.specs.declared.window.NumberOrder.{NumberOrder}
use Rattle.capture.specs.declared.window.NumberOrder.TheVariants.{Ahead, Late, Repeat}
use Rattle.capture.specs.Directions.{greatest_of, is_new, is_request}
use Rattle.capture.specs.Numbers.{limited_sum}

-- An end that has sent nothing in a session.
abbrev pub open_side : Side
open_side = record { left = NotSent; longest = 0; missing = replicate CHANNELS 0; lost = 0; resent = 0; repeats = 0 }

-- A session with this number before its first PDU.
abbrev pub open_session : ℕ → SessionRequest → Option ℕ → Session
open_session number asked up = record { number = number; asked = asked; up = up; low = open_side; high = open_side }

-- Sums over no session.
abbrev pub no_session_totals : SessionTotals
no_session_totals = record { up = 0; unanswered = 0; left = 0; timeouts = 0; alone = 0 }

-- The sessions of a connection before its first PDU.
abbrev pub open_sessions : Sessions
open_sessions = record { past = []; ended = no_session_totals; current = open_session 0 NotRecorded None }

-- 1 if it holds, else 0.
abbrev pub one_if : Bool → ℕ
one_if true = 1
one_if false = 0

-- A sum of counts of a session, limited to 2^32 - 1.
abbrev pub limited_count : ℕ → ℕ → ℕ
limited_count count more = min (count + more) (2 ^ 32 - 1)

-- The numbers that are missing, after a number that followed in this way: a gap adds those it skips, and a late number
-- takes itself away.
abbrev pub missing_after : ℕ → NumberOrder → ℕ
missing_after missing (Ahead passed) = limited_count missing passed
missing_after missing Late = missing - 1
missing_after missing _ = missing

-- The numbers that are missing on the channel of a PDU, after it; a further channel has none.
abbrev pub missing_on : List ℕ → ℕ → Option NumberOrder → List ℕ
missing_on counts route None = counts
missing_on counts route (Some judged) =
    if nat_lt route CHANNELS then slice_set counts route (missing_after (slice_index counts route) judged) else counts

-- The channel had this number before, with the same bytes.
abbrev pub is_doubled : Option NumberOrder → Bool
is_doubled (Some (Repeat line)) = true
is_doubled _ = false

-- The DiscReq of a PDU.
abbrev pub disconnection_in : ℕ → Bool → Option Leaving → Disconnection
disconnection_in time follows None = NotSent
disconnection_in time follows (Some leaving) = Sent follows leaving time

-- The DiscReq of a PDU, if the PDU is new.
abbrev pub disconnection_if : Bool → ℕ → Bool → Option Leaving → Disconnection
disconnection_if true time follows leaving = disconnection_in time follows leaving
disconnection_if false time follows leaving = NotSent

-- The first DiscReq of an end in a session. Copies of it do not count.
abbrev pub first_disconnection : Disconnection → ℕ → Bool → Remarks → Disconnection
first_disconnection (Sent first leaving start) time follows m = Sent first leaving start
first_disconnection NotSent time follows m = disconnection_if (is_new m.together) time follows m.leaving

-- An end has sent a DiscReq.
abbrev pub has_left : Disconnection → Bool
has_left NotSent = false
has_left (Sent follows leaving time) = true

-- What an end did in a session, after one more of its PDUs.
abbrev pub side_after : Side → ℕ → Bool → Remarks → Side
side_after s time follows m =
    record {
      left = first_disconnection s.left time follows m;
      longest = greatest_of m.waits s.longest;
      missing = missing_on s.missing m.route m.channel;
      lost = missing_after s.lost m.together;
      resent = limited_count s.resent (one_if (is_new m.together && m.resent));
      repeats = limited_count s.repeats (one_if (is_doubled m.channel));
    }

-- The session after a PDU of the end with the lower identifier (`true`), or of the other end.
abbrev pub session_after : Bool → Session → ℕ → Remarks → Session
session_after true s time m = record s { low = side_after s.low time (has_left s.high.left) m }
session_after false s time m = record s { high = side_after s.high time (has_left s.low.left) m }

-- A sum with the datagrams that one channel lost, apart from the numbers that all channels lost.
abbrev pub with_alone : ℕ → ℕ → ℕ → ℕ
with_alone lost sum missing = limited_sum sum (missing - lost)

-- How many datagrams of an end single channels lost whose PDU came on another channel.
abbrev pub alone_of : Side → ℕ
alone_of s = fold (λ sum missing. with_alone s.lost sum missing) 0 s.missing

-- The same of both ends of a session.
abbrev pub alone_in : Session → ℕ
alone_in s = limited_sum (alone_of s.low) (alone_of s.high)

-- How many PDUs of both ends came on no channel.
abbrev pub lost_in_session : Session → ℕ
lost_in_session s = limited_sum s.low.lost s.high.lost

-- The end that did not ask has sent no DiscReq.
abbrev pub is_other_silent : Bool → Session → Bool
is_other_silent by_low s = if by_low then not (has_left s.high.left) else not (has_left s.low.left)

-- An opening was recorded, and neither a ConnResp nor a DiscReq of the other end after it.
abbrev pub is_unanswered_by : SessionRequest → Session → Bool
is_unanswered_by NotRecorded s = false
is_unanswered_by (Recorded by_low time) s = is_none s.up && is_other_silent by_low s

-- Nobody answered the opening of the session.
abbrev pub is_unanswered_in : Session → Bool
is_unanswered_in s = is_unanswered_by s.asked s

-- An end left because nothing recent was confirmed in time.
abbrev pub is_timeout : Disconnection → Bool
is_timeout NotSent = false
is_timeout (Sent follows leaving time) = leaving.reason == TIMEOUT

-- The sums with one more session.
abbrev pub count_session : SessionTotals → Session → SessionTotals
count_session t s =
    record {
      up = limited_sum t.up (one_if (is_some s.up));
      unanswered = limited_sum t.unanswered (one_if (is_unanswered_in s));
      left = limited_sum t.left (one_if (has_left s.low.left || has_left s.high.left));
      timeouts = limited_sum t.timeouts (one_if (is_timeout s.low.left || is_timeout s.high.left));
      alone = limited_sum t.alone (alone_in s);
    }

-- The sums over all sessions of a connection.
abbrev pub session_sums : Sessions → SessionTotals
session_sums ss = if nat_eq ss.current.number 0 then ss.ended else count_session ss.ended ss.current

-- The sessions with the current one among those that have ended; the oldest kept one gives way to it.
abbrev pub end_current : Sessions → Sessions
end_current ss =
    if nat_eq ss.current.number 0 then ss
    else
    record ss {
      past = keep_last SESSIONS (ss.past ++ ss.current ∷ []);
      ended = count_session ss.ended ss.current;
    }

-- The sessions after the start of the next one.
abbrev pub start_session : Sessions → SessionRequest → Option ℕ → Sessions
start_session ss asked up =
    record (end_current ss) { current = open_session (limited_sum ss.current.number 1) asked up }

-- The session was asked for by the other end.
abbrev pub is_asked_by_other : SessionRequest → Bool → Bool
is_asked_by_other NotRecorded from_low = false
is_asked_by_other (Recorded by_low time) from_low = if from_low then not by_low else by_low

-- The session awaits the ConnResp of this end.
abbrev pub is_awaited_in : Session → Bool → Bool
is_awaited_in s from_low = is_none s.up && is_asked_by_other s.asked from_low

-- The sessions after an opening: a ConnReq starts one, and so does a ConnResp that the current one does not await.
abbrev pub sessions_after_opening : Sessions → Bool → ℕ → Kind → Sessions
sessions_after_opening ss from_low time kind =
    if is_request kind then start_session ss (Recorded from_low time) None
    else if is_awaited_in ss.current from_low then record ss { current = record ss.current { up = Some time } }
    else start_session ss NotRecorded (Some time)

-- The sessions before a PDU is counted; the first PDU of a connection starts one, even if it is not an opening.
abbrev pub begin_sessions : Bool → Sessions → Bool → ℕ → Kind → Sessions
begin_sessions true ss from_low time kind = sessions_after_opening ss from_low time kind
begin_sessions false ss from_low time kind = if nat_eq ss.current.number 0 then start_session ss NotRecorded None else ss

-- The sessions with a PDU counted in the current one.
abbrev pub count_in_sessions : Sessions → Bool → ℕ → Remarks → Sessions
count_in_sessions ss from_low time m = record ss { current = session_after from_low ss.current time m }

-- The sessions of a connection after a PDU with these remarks.
abbrev pub sessions_after : Sessions → Bool → ℕ → Kind → Remarks → Sessions
sessions_after ss from_low time kind m =
    count_in_sessions (begin_sessions m.opens ss from_low time kind) from_low time m
