-- The sums as lines.
use Rattle.std.specs.Prelude.{ℕ, nat_eq, nat_lt, Bool, List, [], ◌∷◌, ◌++◌, codes, slice_index, slice_index_or, if◌then◌else◌, Option, Some, None}
use Rattle.std.specs.Fmt.{decimal}
use Rattle.std.specs.List.{count_by, flat_map}
use Rattle.safe_pdu.specs.declared.Leaving.{Leaving}
use Rattle.safe_pdu.specs.Names.{kind_name}
use Rattle.capture.specs.declared.connections.Connection.{Connection}
use Rattle.capture.specs.declared.connections.Route.{Route}
use Rattle.capture.specs.declared.direction.Direction.{Direction}
use Rattle.capture.specs.declared.direction.SessionOpening.{SessionOpening}
use Rattle.capture.specs.declared.direction.Tally.{Tally}
use Rattle.capture.specs.declared.follower.Totals.{Totals}
use Rattle.capture.specs.declared.window.Window.{Window}
use Rattle.capture.specs.Connections.{has_identifiers}
use Rattle.capture.specs.Directions.{silence_of}
use Rattle.capture.specs.Numbers.{limited_sum, open_window}
use Rattle.capture_text.specs.declared.summary.Scale.{Scale}
use Rattle.capture_text.specs.declared.summary.CaptureCounts.{CaptureCounts}
use Rattle.pdu_text.specs.Lines.{join_pieces}
use Rattle.capture_text.specs.Pieces.{address_text, channel_text, duration_text, ends_text, t_max_remark, since_text, utc_text}
use Rattle.capture_text.specs.declared.pieces.Clock.{Clock}
use Rattle.capture_text.specs.Skips.{skips_lines}
use Rattle.capture_text.specs.Reasons.{leaving_words}
use Rattle.capture_text.specs.Sentence.{sentence_text}
use Rattle.capture_text.specs.TableText.{sessions_text}

-- How often an end opened, and by what.
abbrev pub opening_text : Option SessionOpening → ℕ → List ℕ
opening_text None times = codes " opening not seen"
opening_text (Some opening) times =
    join_pieces (codes " opened by " ∷ kind_name opening.kind ∷ codes " times " ∷ decimal times ∷ [])

-- The repeated, late, differing and stale numbers of a window.
unfoldable pub others_text : Window → List ℕ
others_text w =
    join_pieces
    (codes " repeats " ∷ decimal w.repeats ∷ codes " late " ∷ decimal w.late ∷ codes " differs " ∷ decimal w.differing ∷
    codes " stale "
    ∷ decimal w.stale ∷ [])

-- The counts of a window.
unfoldable pub numbers_text : Window → List ℕ
numbers_text w =
    join_pieces (codes " PDUs " ∷ decimal w.heard ∷ codes " missing " ∷ decimal w.missing ∷ []) ++ others_text w

-- The counts of types.
unfoldable pub kinds_text : Tally → List ℕ
kinds_text t =
    join_pieces
    (codes " heartbeats " ∷ decimal t.heartbeats ∷ codes " requests " ∷ decimal t.requests ∷ codes " resent " ∷
    decimal t.resent ∷ codes " disconnects "
    ∷ decimal t.disconnects ∷ [])

-- The longest silence.
unfoldable pub silence_text : ℕ → List ℕ
silence_text silence = join_pieces (codes " silence " ∷ duration_text silence ∷ [])

-- The greatest age, and if it reached T_max.
unfoldable pub oldest_text : ℕ → ℕ → List ℕ
oldest_text t_max oldest =
    join_pieces (codes " age " ∷ decimal oldest ∷ codes " of " ∷ decimal t_max ∷ t_max_remark t_max oldest ∷ [])

-- The longest wait for a confirmation, and if it reached T_max.
unfoldable pub longest_text : ℕ → ℕ → List ℕ
longest_text t_max longest =
    join_pieces (codes " waits " ∷ decimal longest ∷ codes " of " ∷ decimal t_max ∷ t_max_remark t_max longest ∷ [])

-- The time of the last PDU.
abbrev pub last_text : Clock → ℕ → List ℕ
last_text clock last = if nat_eq last 0 then codes " not heard" else codes " last " ++ since_text clock last

-- The disconnect of a direction.
abbrev pub disconnect_text : Option Leaving → List ℕ
disconnect_text None = codes " no DiscReq"
disconnect_text (Some leaving) = codes " DiscReq" ++ leaving_words leaving

-- The tally of a direction; silence lasts up to this time.
unfoldable pub tally_text : Scale → ℕ → Tally → List ℕ
tally_text s until t =
    kinds_text t ++ silence_text (silence_of t until) ++ oldest_text s.t_max t.oldest ++ longest_text s.t_max t.longest
    ++ last_text s.clock t.last ++ disconnect_text t.leaving

-- The line of a direction.
unfoldable pub direction_text : Scale → ℕ → ℕ → ℕ → Direction → List ℕ
direction_text s until from to d =
    codes "sum " ++ ends_text from to ++ opening_text d.opening d.tally.openings ++ numbers_text d.together
    ++ tally_text s until d.tally ++ codes "\n"

-- How many datagrams came on a channel; each is in one of these counts.
abbrev pub datagrams_of : Window → ℕ → ℕ
datagrams_of w damaged =
    limited_sum (limited_sum (limited_sum (limited_sum (limited_sum w.heard w.repeats) w.late) w.differing) w.stale)
    damaged

-- The addresses of a channel.
unfoldable pub route_text : Route → List ℕ
route_text route = join_pieces (codes " " ∷ address_text route.low ∷ codes "-" ∷ address_text route.high ∷ [])

-- The number of datagrams on a channel.
unfoldable pub datagrams_text : Window → ℕ → List ℕ
datagrams_text w damaged = join_pieces (codes " datagrams " ∷ decimal (datagrams_of w damaged) ∷ [])

-- The ends and the number of a channel.
unfoldable pub sum_text : ℕ → ℕ → ℕ → List ℕ
sum_text from to place = codes "sum " ++ ends_text from to ++ channel_text place

-- The number of damaged datagrams, and the end of the line.
unfoldable pub damaged_count_text : ℕ → List ℕ
damaged_count_text damaged = join_pieces (codes " damaged " ∷ decimal damaged ∷ codes "\n" ∷ [])

-- The line of a channel.
unfoldable pub known_channel_text : ℕ → ℕ → ℕ → Route → Window → ℕ → List ℕ
known_channel_text from to place route w damaged =
    sum_text from to place ++ route_text route ++ datagrams_text w damaged ++ numbers_text w
    ++ damaged_count_text damaged

-- The line of a channel, if there is one.
abbrev pub maybe_channel_text : ℕ → ℕ → ℕ → Option Route → Window → ℕ → List ℕ
maybe_channel_text from to place None w damaged = []
maybe_channel_text from to place (Some route) w damaged = known_channel_text from to place route w damaged

-- The line of a direction's channel at a place.
unfoldable pub place_text : ℕ → ℕ → List (Option Route) → Direction → ℕ → List ℕ
place_text from to routes d place =
    maybe_channel_text from to place (slice_index_or routes place None) (slice_index_or d.channels place open_window)
    (slice_index d.damaged place)

-- The lines of a direction's channels.
unfoldable pub places_text : ℕ → ℕ → List (Option Route) → Direction → List ℕ
places_text from to routes d =
    place_text from to routes d 0 ++ place_text from to routes d 1 ++ place_text from to routes d 2
    ++ place_text from to routes d 3

-- The line of a direction, and those of its channels.
unfoldable pub half_text : Scale → ℕ → ℕ → Connection → Direction → List ℕ
half_text s from to c d = direction_text s c.last from to d ++ places_text from to c.routes d

-- Several of these connections have the identifiers of this one.
abbrev pub is_ambiguous : List Connection → Connection → Bool
is_ambiguous cs c = nat_lt 1 (count_by (λ x. has_identifiers c.low c.high x) cs)

-- The addresses that distinguish a connection: those of its first channel, if its identifiers are ambiguous.
abbrev pub telling_route : List Connection → Connection → Option Route
telling_route cs c = if is_ambiguous cs c then slice_index_or c.routes 0 None else None

-- The lines of a connection: both directions, then its sessions, with its addresses if they are needed, and its
-- sentence.
unfoldable pub connection_text : Scale → Option Route → Connection → List ℕ
connection_text s at c =
    half_text s c.low c.high c c.from_low ++ half_text s c.high c.low c c.from_high
    ++ sessions_text s.clock c.low c.high at c.sessions
    ++ sentence_text s c

-- The lines of some of all connections; the one with the latest PDU is the last.
abbrev pub connections_text : Scale → List Connection → List Connection → List ℕ
connections_text s all cs = flat_map (λ c. connection_text s (telling_route all c) c) cs

-- The number of datagrams in the whole capture.
unfoldable pub datagram_count_text : ℕ → List ℕ
datagram_count_text datagrams = join_pieces (codes "sum all datagrams " ∷ decimal datagrams ∷ [])

-- The repeated, late, differing and stale numbers of all connections.
unfoldable pub other_totals_text : Totals → List ℕ
other_totals_text t =
    join_pieces
    (codes " repeats " ∷ decimal t.repeats ∷ codes " late " ∷ decimal t.late ∷ codes " differs " ∷ decimal t.differing ∷
    codes " stale "
    ∷ decimal t.stale ∷ [])

-- The sums of all connections.
unfoldable pub totals_text : Totals → List ℕ
totals_text t =
    join_pieces (codes " PDUs " ∷ decimal t.heard ∷ codes " missing " ∷ decimal t.missing ∷ []) ++ other_totals_text t

-- The counts over the whole capture.
unfoldable pub counts_text : CaptureCounts → List ℕ
counts_text c =
    join_pieces (codes " damaged " ∷ decimal c.damaged ∷ codes " forgotten " ∷ decimal c.forgotten ∷
    codes " unreadable " ∷ decimal c.unreadable ∷ [])

-- The line of all sums.
unfoldable pub all_text : Totals → CaptureCounts → List ℕ
all_text t c = datagram_count_text c.datagrams ++ totals_text t ++ counts_text c ++ codes "\n"

-- The date and time of the first datagram.
unfoldable pub date_text : ℕ → List ℕ
date_text first = codes "sum first datagram at " ++ utc_text first ++ codes "\n"

-- The line of the first datagram, if its time is known.
abbrev pub first_lines : ℕ → List ℕ
first_lines first = if nat_eq first 0 then [] else date_text first

-- All lines of the sums.
abbrev pub summary_text : Scale → List Connection → Totals → CaptureCounts → List ℕ
summary_text s cs t c = first_lines s.clock.first ++ connections_text s cs cs ++ skips_lines c.passed ++ all_text t c
