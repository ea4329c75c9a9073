-- The table of a connection's sessions, one line each.
use Rattle.std.specs.Prelude.{ℕ, ◌&&◌, Bool, true, false, List, [], ◌∷◌, ◌++◌, codes, if◌then◌else◌, not, Option, Some, None}
use Rattle.std.specs.Fmt.{decimal}
use Rattle.std.specs.List.{flat_map}
use Rattle.capture.specs.declared.connections.Route.{Route}
use Rattle.safe_pdu.specs.declared.Leaving.{Leaving}
use Rattle.capture.specs.declared.sessions.SessionRequest.{SessionRequest}
use Rattle.capture.specs.declared.sessions.SessionRequest.TheVariants.{NotRecorded, Recorded}
use Rattle.capture.specs.declared.sessions.Disconnection.{Disconnection}
use Rattle.capture.specs.declared.sessions.Disconnection.TheVariants.{NotSent, Sent}
use Rattle.capture.specs.declared.sessions.Session.{Session}
use Rattle.capture.specs.declared.sessions.Sessions.{Sessions}
use Rattle.capture.specs.Numbers.{limited_sum}
use Rattle.capture.specs.Sessions.{alone_in, has_left, is_unanswered_in, lost_in_session}
use Rattle.pdu_text.specs.Lines.{join_pieces}
use Rattle.capture_text.specs.declared.pieces.Clock.{Clock}
use Rattle.capture_text.specs.Pieces.{address_text, since_text}
use Rattle.capture_text.specs.Reasons.{leaving_words}

-- The number of a session, and its connection.
unfoldable pub number_text : ℕ → ℕ → ℕ → List ℕ
number_text number low high =
    join_pieces (codes "session " ∷ decimal number ∷ codes " of " ∷ decimal low ∷ codes "-" ∷ decimal high ∷ [])

-- The addresses of a connection, the lower end's first.
unfoldable pub at_text : Route → List ℕ
at_text route = join_pieces (codes " at " ∷ address_text route.low ∷ codes "-" ∷ address_text route.high ∷ [])

-- The addresses of a connection, if other connections have its identifiers.
abbrev pub maybe_at_text : Option Route → List ℕ
maybe_at_text None = []
maybe_at_text (Some route) = at_text route

-- The end that asked for a session.
abbrev pub asker_of : ℕ → ℕ → Bool → ℕ
asker_of low high by_low = if by_low then low else high

-- The ConnReq of a session: end and time.
unfoldable pub request_text : Clock → ℕ → ℕ → List ℕ
request_text clock end time = join_pieces (codes ", " ∷ decimal end ∷ codes " asked at " ∷ []) ++ since_text clock time

-- The ConnReq of a session, or that it was not recorded.
abbrev pub maybe_request_text : Clock → ℕ → ℕ → SessionRequest → List ℕ
maybe_request_text clock low high NotRecorded = codes ", its ConnReq was not recorded"
maybe_request_text clock low high (Recorded by_low time) = request_text clock (asker_of low high by_low) time

-- The time at which a session came up.
unfoldable pub up_text : Clock → ℕ → List ℕ
up_text clock time = codes ", came up at " ++ since_text clock time

-- A session that did not come up: if nobody answered, that.
abbrev pub down_text : Bool → List ℕ
down_text true = codes ", nobody answered"
down_text false = codes ", was not seen to come up"

-- The time at which a session came up, or that it did not.
abbrev pub outcome_text : Clock → Option ℕ → Bool → List ℕ
outcome_text clock (Some time) unanswered = up_text clock time
outcome_text clock None unanswered = down_text unanswered

-- How a session began: number, addresses if they are needed, ConnReq, ConnResp.
unfoldable pub start_text : Clock → ℕ → ℕ → Option Route → Session → List ℕ
start_text clock low high at x =
    number_text x.number low high ++ maybe_at_text at ++ maybe_request_text clock low high x.asked
    ++ outcome_text clock x.up (is_unanswered_in x)

-- Whose leaving was the first.
abbrev pub own_text : Bool → List ℕ
own_text true = codes " after the other"
own_text false = codes " by itself"

-- The DiscReq of an end: who and when.
unfoldable pub departure_text : Clock → ℕ → ℕ → List ℕ
departure_text clock end time = join_pieces (codes ", " ∷ decimal end ∷ codes " left at " ∷ []) ++ since_text clock time

-- The DiscReq of an end: own or after that of the other end, reason.
unfoldable pub manner_text : Bool → Leaving → List ℕ
manner_text follows leaving = own_text follows ++ leaving_words leaving

-- The DiscReq of an end, if it sent one.
abbrev pub maybe_disconnect_text : Clock → ℕ → Disconnection → List ℕ
maybe_disconnect_text clock end NotSent = []
maybe_disconnect_text clock end (Sent follows leaving time) = departure_text clock end time ++ manner_text follows leaving

-- Neither end left.
abbrev pub is_kept : Session → Bool
is_kept x = not (has_left x.low.left) && not (has_left x.high.left)

-- That neither end left.
abbrev pub no_disconnect_text : Bool → List ℕ
no_disconnect_text true = codes ", nobody left"
no_disconnect_text false = []

-- How a session ended.
unfoldable pub end_text : Clock → ℕ → ℕ → Session → List ℕ
end_text clock low high x = maybe_disconnect_text clock low x.low.left ++ maybe_disconnect_text clock high x.high.left
    ++ no_disconnect_text (is_kept x)

-- The longest wait of each end.
unfoldable pub waits_text : ℕ → ℕ → ℕ → ℕ → List ℕ
waits_text low high one other =
    join_pieces
    (codes ", " ∷ decimal low ∷ codes " waited " ∷ decimal one ∷ codes " ms, " ∷ decimal high ∷ codes " waited " ∷
    decimal other ∷ codes " ms" ∷ [])

-- The losses, in words that name what is counted.
unfoldable pub session_losses_text : ℕ → ℕ → List ℕ
session_losses_text everywhere alone =
    join_pieces
    (codes ", PDUs lost on every channel " ∷ decimal everywhere ∷
    codes ", datagrams lost on one channel whose PDU came on another " ∷ decimal alone
    ∷ [])

-- What was sent again, and what came twice on one channel.
unfoldable pub again_text : ℕ → ℕ → List ℕ
again_text resent repeats =
    join_pieces (codes ", sent again " ∷ decimal resent ∷ codes ", repeats on one channel " ∷ decimal repeats ∷
    codes "\n" ∷ [])

-- The units that both ends sent again.
abbrev pub resent_in : Session → ℕ
resent_in x = limited_sum x.low.resent x.high.resent

-- The PDUs of both ends that came twice on one channel.
abbrev pub repeats_in : Session → ℕ
repeats_in x = limited_sum x.low.repeats x.high.repeats

-- What happened in a session, and the end of its line.
unfoldable pub session_events_text : ℕ → ℕ → Session → List ℕ
session_events_text low high x =
    waits_text low high x.low.longest x.high.longest ++ session_losses_text (lost_in_session x) (alone_in x)
    ++ again_text (resent_in x) (repeats_in x)

-- The line of a session.
unfoldable pub session_text : Clock → ℕ → ℕ → Option Route → Session → List ℕ
session_text clock low high at x =
    start_text clock low high at x ++ end_text clock low high x ++ session_events_text low high x

-- The lines of sessions that have ended.
abbrev pub past_text : Clock → ℕ → ℕ → Option Route → List Session → List ℕ
past_text clock low high at xs = flat_map (λ x. session_text clock low high at x) xs

-- The lines of all kept sessions of a connection, the oldest one first, then that of the current one.
unfoldable pub sessions_text : Clock → ℕ → ℕ → Option Route → Sessions → List ℕ
sessions_text clock low high at ss =
    past_text clock low high at ss.past ++ session_text clock low high at ss.current
