-- The table of a connection's sessions as JSON; docs/captures.md has the members.
use Rattle.std.specs.Prelude.{ℕ, Bool, true, false, List, [], ◌∷◌, ◌++◌, codes, Option, Some, None}
use Rattle.std.specs.Fmt.{decimal}
use Rattle.std.specs.List.{flat_map}
use Rattle.safe_pdu.specs.declared.Leaving.{Leaving}
use Rattle.capture.specs.declared.sessions.SessionRequest.{SessionRequest}
use Rattle.capture.specs.declared.sessions.SessionRequest.TheVariants.{NotRecorded, Recorded}
use Rattle.capture.specs.declared.sessions.Disconnection.{Disconnection}
use Rattle.capture.specs.declared.sessions.Disconnection.TheVariants.{NotSent, Sent}
use Rattle.capture.specs.declared.sessions.Session.{Session}
use Rattle.capture.specs.declared.sessions.SessionTotals.{SessionTotals}
use Rattle.capture.specs.declared.sessions.Sessions.{Sessions}
use Rattle.capture.specs.declared.sessions.Side.{Side}
use Rattle.capture.specs.Sessions.{alone_of, is_unanswered_in, session_sums}
use Rattle.pdu_text.specs.Lines.{join_pieces}
use Rattle.capture_text.specs.TableText.{asker_of}

-- A truth.
abbrev pub truth_json : Bool → List ℕ
truth_json true = codes "true"
truth_json false = codes "false"

-- A time, or null.
abbrev pub maybe_time_json : Option ℕ → List ℕ
maybe_time_json None = codes "null"
maybe_time_json (Some time) = decimal time

-- The time and the end of a ConnReq.
unfoldable pub request_json : ℕ → ℕ → List ℕ
request_json end time = join_pieces (codes ",\"asked\":" ∷ decimal time ∷ codes ",\"asked_by\":" ∷ decimal end ∷ [])

-- The ConnReq of a session, or that it was not recorded.
abbrev pub maybe_request_json : ℕ → ℕ → SessionRequest → List ℕ
maybe_request_json low high NotRecorded = codes ",\"asked\":null,\"asked_by\":null"
maybe_request_json low high (Recorded by_low time) = request_json (asker_of low high by_low) time

-- The number of a session, at the start of its object.
unfoldable pub number_json : ℕ → List ℕ
number_json number = join_pieces (codes "{\"session\":" ∷ decimal number ∷ [])

-- The time of coming up, and if nobody answered.
unfoldable pub outcome_json : Option ℕ → Bool → List ℕ
outcome_json up unanswered =
    codes ",\"up\":" ++ maybe_time_json up ++ codes ",\"unanswered\":" ++ truth_json unanswered

-- The object of a DiscReq.
unfoldable pub disconnect_json : Bool → Leaving → ℕ → List ℕ
disconnect_json follows leaving time =
    join_pieces
    (codes "{\"time\":" ∷ decimal time ∷ codes ",\"reason\":" ∷ decimal leaving.reason ∷ codes ",\"detail\":" ∷
    decimal leaving.detail
    ∷ codes ",\"follows\":" ∷ truth_json follows ∷ codes "}" ∷ [])

-- The DiscReq of an end, or null.
abbrev pub maybe_disconnect_json : Disconnection → List ℕ
maybe_disconnect_json NotSent = codes "null"
maybe_disconnect_json (Sent follows leaving time) = disconnect_json follows leaving time

-- The longest wait and the losses of an end.
unfoldable pub losses_json : ℕ → ℕ → ℕ → List ℕ
losses_json waits lost alone =
    join_pieces
    (codes ",\"waits\":" ∷ decimal waits ∷ codes ",\"lost_on_every_channel\":" ∷ decimal lost ∷
    codes ",\"lost_on_one_channel\":" ∷ decimal alone
    ∷ [])

-- What an end sent again, what came twice on one channel, and the end of its object.
unfoldable pub again_json : ℕ → ℕ → List ℕ
again_json resent repeats =
    join_pieces (codes ",\"resent\":" ∷ decimal resent ∷ codes ",\"repeats\":" ∷ decimal repeats ∷ codes "}" ∷ [])

-- What an end did in a session.
unfoldable pub side_json : Side → List ℕ
side_json s =
    codes "{\"left\":" ++ maybe_disconnect_json s.left ++ losses_json s.longest s.lost (alone_of s)
    ++ again_json s.resent s.repeats

-- How a session began.
unfoldable pub start_json : ℕ → ℕ → Session → List ℕ
start_json low high x =
    number_json x.number ++ maybe_request_json low high x.asked ++ outcome_json x.up (is_unanswered_in x)

-- What both ends did in a session, and the end of its object.
unfoldable pub sides_json : Session → List ℕ
sides_json x = codes ",\"low\":" ++ side_json x.low ++ codes ",\"high\":" ++ side_json x.high ++ codes "}"

-- The object of a session.
unfoldable pub session_json : ℕ → ℕ → Session → List ℕ
session_json low high x = start_json low high x ++ sides_json x

-- A session before a comma.
abbrev pub item_json : ℕ → ℕ → Session → List ℕ
item_json low high x = session_json low high x ++ codes ","

-- Sessions that have ended, each before a comma.
abbrev pub past_json : ℕ → ℕ → List Session → List ℕ
past_json low high xs = flat_map (λ x. item_json low high x) xs

-- The sums over all sessions: how many there were, came up, and were not answered.
unfoldable pub session_counts_json : ℕ → SessionTotals → List ℕ
session_counts_json number t =
    join_pieces
    (codes ",\"sessions\":{\"number\":" ∷ decimal number ∷ codes ",\"up\":" ∷ decimal t.up ∷ codes ",\"unanswered\":" ∷
    decimal t.unanswered
    ∷ [])

-- The sums over all sessions: how many an end left, and by a timeout; and the start of the table.
unfoldable pub disconnect_counts_json : SessionTotals → List ℕ
disconnect_counts_json t =
    join_pieces (codes ",\"left\":" ∷ decimal t.left ∷ codes ",\"timeouts\":" ∷ decimal t.timeouts ∷
    codes ",\"table\":[" ∷ [])

-- The sessions that have ended, the oldest kept one first, then the current one, and the end of the table.
unfoldable pub table_json : ℕ → ℕ → Sessions → List ℕ
table_json low high ss =
    past_json low high ss.past ++ session_json low high ss.current ++ codes "]}"

-- The sums over all sessions of a connection, and its table.
unfoldable pub sessions_json : ℕ → ℕ → Sessions → List ℕ
sessions_json low high ss = session_counts_json ss.current.number (session_sums ss) ++ disconnect_counts_json
    (session_sums ss) ++ table_json low high ss
