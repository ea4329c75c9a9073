-- The sentence about a connection after its sums.
use Rattle.std.specs.Prelude.{ℕ, max, ◌&&◌, Bool, true, false, nat_le, List, [], ◌∷◌, ◌++◌, codes, if◌then◌else◌, Option, Some, None}
use Rattle.std.specs.Fmt.{decimal}
use Rattle.safe_pdu.specs.declared.Kind.{Kind}
use Rattle.safe_pdu.specs.declared.Kind.TheVariants.{ConnResp}
use Rattle.capture.specs.declared.connections.Connection.{Connection}
use Rattle.capture.specs.declared.direction.Direction.{Direction}
use Rattle.capture.specs.declared.direction.SessionOpening.{SessionOpening}
use Rattle.capture.specs.declared.sessions.SessionTotals.{SessionTotals}
use Rattle.capture.specs.Directions.{is_request}
use Rattle.capture.specs.Numbers.{limited_sum}
use Rattle.capture.specs.Sessions.{session_sums}
use Rattle.pdu_text.specs.Lines.{join_pieces}
use Rattle.capture_text.specs.declared.summary.Scale.{Scale}
use Rattle.capture_text.specs.declared.pieces.Clock.{Clock}
use Rattle.capture_text.specs.Pieces.{t_max_remark, since_text}
use Rattle.capture_text.specs.TableText.{session_losses_text}

-- The last opening is a ConnReq.
abbrev pub has_asked : Option SessionOpening → Bool
has_asked None = false
has_asked (Some opening) = is_request opening.kind

-- The PDU type is ConnResp.
abbrev pub is_response : Kind → Bool
is_response ConnResp = true
is_response _ = false

-- The last opening is a ConnResp.
abbrev pub has_answered : Option SessionOpening → Bool
has_answered None = false
has_answered (Some opening) = is_response opening.kind

-- The last opening of one end is a ConnReq, and that of the other a ConnResp at that time or later.
abbrev pub is_answered : Direction → Direction → Bool
is_answered d e = has_asked d.opening && (has_answered e.opening && nat_le d.tally.opened e.tally.opened)

-- When a connection came up: the time of the ConnResp to its last ConnReq, if that was recorded.
abbrev pub up_of : Direction → Direction → Option ℕ
up_of d e =
    if is_answered d e then Some e.tally.opened
    else if is_answered e d then Some d.tally.opened
    else None

-- The time of the last PDU.
unfoldable pub last_pdu_text : Clock → ℕ → List ℕ
last_pdu_text clock last = codes ", last PDU at " ++ since_text clock last

-- How many sessions a connection had, how many came up, and how many nobody answered.
unfoldable pub session_counts_text : ℕ → SessionTotals → List ℕ
session_counts_text number t =
    join_pieces
    (codes " sessions " ∷ decimal number ∷ codes ", came up " ∷ decimal t.up ∷ codes ", nobody answered " ∷
    decimal t.unanswered ∷ [])

-- How many sessions an end left, and how many by a timeout.
unfoldable pub disconnect_counts_text : SessionTotals → List ℕ
disconnect_counts_text t =
    join_pieces (codes ", ended by a DiscReq " ∷ decimal t.left ∷ codes ", by timeout " ∷ decimal t.timeouts ∷ [])

-- The losses on all channels.
abbrev pub losses_on_all : Connection → ℕ
losses_on_all c = limited_sum c.from_low.together.missing c.from_high.together.missing

-- The greatest age of a confirmed timestamp of either end.
abbrev pub oldest_in : Connection → ℕ
oldest_in c = max c.from_low.tally.oldest c.from_high.tally.oldest

-- The longest wait for a confirmation of either end.
abbrev pub longest_in : Connection → ℕ
longest_in c = max c.from_low.tally.longest c.from_high.tally.longest

-- The longest wait beside T_max, and the end of the line.
unfoldable pub near_text : ℕ → ℕ → List ℕ
near_text t_max longest =
    join_pieces (codes ", waits " ∷ decimal longest ∷ codes " of " ∷ decimal t_max ∷ t_max_remark t_max longest ∷
    codes "\n" ∷ [])

-- The name of a connection: both identifiers.
unfoldable pub name_text : ℕ → ℕ → List ℕ
name_text low high = join_pieces (codes "connection " ∷ decimal low ∷ codes "-" ∷ decimal high ∷ [])

-- The sums over all sessions of a connection.
unfoldable pub course_text : Connection → List ℕ
course_text c = session_counts_text c.sessions.current.number (session_sums c.sessions) ++ disconnect_counts_text
    (session_sums c.sessions)

-- The losses of a connection.
abbrev pub losses_text : Connection → List ℕ
losses_text c = session_losses_text (losses_on_all c) (session_sums c.sessions).alone

-- How close a connection came to T_max.
abbrev pub nearness_text : ℕ → Connection → List ℕ
nearness_text t_max c = near_text t_max (longest_in c)

-- The whole sentence.
unfoldable pub sentence_text : Scale → Connection → List ℕ
sentence_text s c =
    name_text c.low c.high ++ course_text c ++ last_pdu_text s.clock c.last ++ losses_text c ++ nearness_text s.t_max c
