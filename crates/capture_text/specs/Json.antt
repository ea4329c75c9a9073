-- The sums as one JSON object in one line (RFC 8259). Times are microseconds since 1970, ages and waits milliseconds;
-- docs/captures.md has the members.
use Rattle.std.specs.Prelude.{ℕ, ◌+◌, Bool, nat_eq, List, [], ◌∷◌, ◌++◌, codes, slice_index, slice_index_or, if◌then◌else◌, Option, Some, None}
use Rattle.std.specs.Fmt.{decimal}
use Rattle.std.specs.List.{flat_map}
use Rattle.safe_pdu.specs.declared.Leaving.{Leaving}
use Rattle.safe_pdu.specs.Names.{kind_name}
use Rattle.capture.specs.declared.connections.Connection.{Connection}
use Rattle.capture.specs.declared.connections.Route.{Route}
use Rattle.capture.specs.declared.direction.Direction.{Direction}
use Rattle.capture.specs.declared.direction.SessionOpening.{SessionOpening}
use Rattle.capture.specs.declared.direction.Tally.{Tally}
use Rattle.capture.specs.declared.follower.Totals.{Totals}
use Rattle.capture.specs.declared.line.Address.{Address}
use Rattle.capture.specs.declared.window.Window.{Window}
use Rattle.capture.specs.Directions.{silence_of}
use Rattle.capture.specs.Numbers.{open_window}
use Rattle.capture.specs.Sessions.{session_sums}
use Rattle.pdu_text.specs.Lines.{join_pieces}
use Rattle.capture_text.specs.declared.summary.CaptureCounts.{CaptureCounts}
use Rattle.capture_text.specs.declared.summary.Scale.{Scale}
use Rattle.capture_text.specs.AdviceJson.{end_json}
use Rattle.capture_text.specs.Skips.{skips_json}
use Rattle.capture_text.specs.Pieces.{address_text}
use Rattle.capture_text.specs.Sentence.{longest_in, losses_on_all, oldest_in, up_of}
use Rattle.capture_text.specs.SummaryText.{datagrams_of}
use Rattle.capture_text.specs.TableJson.{sessions_json}

-- A time; an unknown one is null.
abbrev pub time_json : ℕ → List ℕ
time_json time = if nat_eq time 0 then codes "null" else decimal time

-- A time of coming up, or null.
abbrev pub up_json : Option ℕ → List ℕ
up_json None = codes "null"
up_json (Some time) = decimal time

-- The time at which a connection came up.
abbrev pub up_time_json : Connection → List ℕ
up_time_json c = up_json (up_of c.from_low c.from_high)

-- The type of an opening in quotes, or null.
abbrev pub opening_json : Option SessionOpening → List ℕ
opening_json None = codes "null"
opening_json (Some opening) = join_pieces (codes "\"" ∷ kind_name opening.kind ∷ codes "\"" ∷ [])

-- The object of a disconnect: time, reason, detail.
unfoldable pub reasons_json : ℕ → Leaving → List ℕ
reasons_json left l =
    join_pieces
    (codes "{\"time\":" ∷ decimal left ∷ codes ",\"reason\":" ∷ decimal l.reason ∷ codes ",\"detail\":" ∷
    decimal l.detail ∷ codes "}" ∷ [])

-- A disconnect, or null.
abbrev pub leaving_json : ℕ → Option Leaving → List ℕ
leaving_json left None = codes "null"
leaving_json left (Some leaving) = reasons_json left leaving

-- The counts of a window as sums.
abbrev pub totals_in : Window → Totals
totals_in w =
    record {
      heard = w.heard;
      missing = w.missing;
      late = w.late;
      repeats = w.repeats;
      differing = w.differing;
      stale = w.stale;
    }

-- Late, differing and stale ones.
unfoldable pub others_json : Totals → List ℕ
others_json t =
    join_pieces
    (codes ",\"late\":" ∷ decimal t.late ∷ codes ",\"differs\":" ∷ decimal t.differing ∷ codes ",\"stale\":" ∷
    decimal t.stale ∷ [])

-- All sums of redundancy numbers.
unfoldable pub numbers_json : Totals → List ℕ
numbers_json t =
    join_pieces
    (codes ",\"PDUs\":" ∷ decimal t.heard ∷ codes ",\"missing\":" ∷ decimal t.missing ∷ codes ",\"repeats\":" ∷
    decimal t.repeats ∷ [])
    ++ others_json t

-- The sums of a window.
abbrev pub window_json : Window → List ℕ
window_json w = numbers_json (totals_in w)

-- The number of a channel, from 1, at the start of its object.
unfoldable pub place_number_json : ℕ → List ℕ
place_number_json place = join_pieces (codes "{\"channel\":" ∷ decimal (place + 1) ∷ [])

-- The address of the end with the lower identifier.
unfoldable pub low_json : Address → List ℕ
low_json address = join_pieces (codes ",\"low\":\"" ∷ address_text address ∷ codes "\"" ∷ [])

-- The address of the other end.
unfoldable pub high_json : Address → List ℕ
high_json address = join_pieces (codes ",\"high\":\"" ∷ address_text address ∷ codes "\"" ∷ [])

-- The number and addresses of a channel.
unfoldable pub route_json : ℕ → Route → List ℕ
route_json place route = place_number_json place ++ low_json route.low ++ high_json route.high

-- The number of datagrams on a channel.
unfoldable pub datagrams_json : ℕ → List ℕ
datagrams_json datagrams = join_pieces (codes ",\"datagrams\":" ∷ decimal datagrams ∷ [])

-- The number of damaged datagrams, at the end of a channel's object.
unfoldable pub damaged_count_json : ℕ → List ℕ
damaged_count_json damaged = join_pieces (codes ",\"damaged\":" ∷ decimal damaged ∷ codes "}" ∷ [])

-- The object of a channel.
unfoldable pub known_channel_json : ℕ → Route → Window → ℕ → List ℕ
known_channel_json place route w damaged =
    route_json place route ++ datagrams_json (datagrams_of w damaged) ++ window_json w ++ damaged_count_json damaged

-- The comma before a channel, except the first.
abbrev pub comma : ℕ → List ℕ
comma place = if nat_eq place 0 then [] else codes ","

-- A channel after its comma.
unfoldable pub next_channel_json : ℕ → Route → Window → ℕ → List ℕ
next_channel_json place route w damaged = comma place ++ known_channel_json place route w damaged

-- A channel, if there is one.
abbrev pub channel_json : ℕ → Option Route → Window → ℕ → List ℕ
channel_json place None w damaged = []
channel_json place (Some route) w damaged = next_channel_json place route w damaged

-- The channel of a direction at a place.
unfoldable pub place_json : List (Option Route) → Direction → ℕ → List ℕ
place_json routes d place =
    channel_json place (slice_index_or routes place None) (slice_index_or d.channels place open_window)
    (slice_index d.damaged place)

-- The list of a direction's channels, and the end of its object.
unfoldable pub channels_json : List (Option Route) → Direction → List ℕ
channels_json routes d =
    codes ",\"channels\":[" ++ place_json routes d 0 ++ place_json routes d 1 ++ place_json routes d 2
    ++ place_json routes d 3 ++ codes "]}"

-- The counts of types.
unfoldable pub kinds_json : Tally → List ℕ
kinds_json t =
    join_pieces
    (codes ",\"heartbeats\":" ∷ decimal t.heartbeats ∷ codes ",\"requests\":" ∷ decimal t.requests ∷
    codes ",\"resent\":" ∷ decimal t.resent
    ∷ codes ",\"disconnects\":" ∷ decimal t.disconnects ∷ [])

-- A silence in microseconds, an age and a wait in milliseconds.
unfoldable pub ages_json : ℕ → ℕ → ℕ → List ℕ
ages_json silence age waits =
    join_pieces (codes ",\"silence\":" ∷ decimal silence ∷ codes ",\"age\":" ∷ decimal age ∷ codes ",\"waits\":" ∷
    decimal waits ∷ [])

-- The longest silence up to this time, the greatest age and the longest wait.
abbrev pub near_json : ℕ → Tally → List ℕ
near_json until t = ages_json (silence_of t until) t.oldest t.longest

-- The sender and the receiver, at the start of a direction's object.
unfoldable pub ends_json : ℕ → ℕ → List ℕ
ends_json from to = join_pieces (codes "{\"from\":" ∷ decimal from ∷ codes ",\"to\":" ∷ decimal to ∷ [])

-- The type of the last opening.
unfoldable pub opening_type_json : Option SessionOpening → List ℕ
opening_type_json opening = codes ",\"opening\":" ++ opening_json opening

-- The number of openings.
unfoldable pub times_json : ℕ → List ℕ
times_json times = join_pieces (codes ",\"openings\":" ∷ decimal times ∷ [])

-- The time of the last opening.
unfoldable pub opening_time_json : ℕ → List ℕ
opening_time_json time = codes ",\"opened\":" ++ time_json time

-- The openings of an end: type, number, time.
unfoldable pub openings_json : Option SessionOpening → Tally → List ℕ
openings_json opening t = opening_type_json opening ++ times_json t.openings ++ opening_time_json t.opened

-- The time of the last PDU, and the disconnect.
unfoldable pub last_and_disconnect_json : Tally → List ℕ
last_and_disconnect_json t =
    codes ",\"last\":" ++ time_json t.last ++ codes ",\"left\":" ++ leaving_json t.left t.leaving

-- The object of a direction.
unfoldable pub direction_json : ℕ → ℕ → Connection → Direction → List ℕ
direction_json from to c d =
    ends_json from to ++ openings_json d.opening d.tally ++ window_json d.together ++ kinds_json d.tally
    ++ near_json c.last d.tally
    ++ last_and_disconnect_json d.tally ++ channels_json c.routes d

-- The identifiers at the start of a connection's object.
unfoldable pub name_json : Connection → List ℕ
name_json c =
    join_pieces (codes "{\"low\":" ∷ decimal c.low ∷ codes ",\"high\":" ∷ decimal c.high ∷ codes ",\"up\":" ∷ [])

-- The time of the last PDU, and both losses.
unfoldable pub losses_json : ℕ → ℕ → ℕ → List ℕ
losses_json last everywhere alone =
    join_pieces
    (codes ",\"last\":" ∷ decimal last ∷ codes ",\"lost_on_every_channel\":" ∷ decimal everywhere ∷
    codes ",\"lost_on_one_channel\":"
    ∷ decimal alone ∷ [])

-- The losses of a connection.
unfoldable pub connection_losses_json : Connection → List ℕ
connection_losses_json c = losses_json c.last (losses_on_all c) (session_sums c.sessions).alone

-- An age and a wait.
unfoldable pub both_json : ℕ → ℕ → List ℕ
both_json age waits = join_pieces (codes ",\"age\":" ∷ decimal age ∷ codes ",\"waits\":" ∷ decimal waits ∷ [])

-- The greatest age and the longest wait of a connection.
abbrev pub greatest_json : Connection → List ℕ
greatest_json c = both_json (oldest_in c) (longest_in c)

-- What holds for a whole connection.
unfoldable pub whole_json : Connection → List ℕ
whole_json c = name_json c ++ up_time_json c ++ connection_losses_json c ++ greatest_json c

-- Both directions of a connection, and the end of its object.
unfoldable pub directions_json : Connection → List ℕ
directions_json c =
    codes ",\"directions\":[" ++ direction_json c.low c.high c c.from_low ++ codes ","
    ++ direction_json c.high c.low c c.from_high ++ codes "]}"

-- The object of a connection.
unfoldable pub connection_json : Connection → List ℕ
connection_json c = whole_json c ++ sessions_json c.low c.high c.sessions ++ directions_json c

-- A connection after a comma.
unfoldable pub next_connection_json : Connection → List ℕ
next_connection_json c = codes "," ++ connection_json c

-- Further connections, each after a comma.
abbrev pub more_json : List Connection → List ℕ
more_json cs = flat_map (λ c. next_connection_json c) cs

-- All connections, separated by commas.
abbrev pub connections_json : List Connection → List ℕ
connections_json [] = []
connections_json (c ∷ cs) = connection_json c ++ more_json cs

-- The first time and T_max, at the start of the object.
unfoldable pub scale_json : Scale → List ℕ
scale_json s = codes "{\"first\":" ++ time_json s.clock.first
    ++ join_pieces (codes ",\"t_max\":" ∷ decimal s.t_max ∷ codes ",\"all\":{\"datagrams\":" ∷ [])

-- The counts over the whole capture.
unfoldable pub counts_json : CaptureCounts → List ℕ
counts_json c =
    join_pieces
    (codes ",\"damaged\":" ∷ decimal c.damaged ∷ codes ",\"forgotten\":" ∷ decimal c.forgotten ∷
    codes ",\"unreadable\":"
    ∷ decimal c.unreadable ∷ codes ",\"frames\":" ∷ decimal c.frames ∷ [])

-- The sums of all connections, and the start of their list.
unfoldable pub all_json : Totals → CaptureCounts → List ℕ
all_json t c =
    decimal c.datagrams ++ numbers_json t ++ counts_json c ++ skips_json c.passed ++ codes "},\"connections\":["

-- The whole object, with what is chosen for each connection if that is asked for (`true`).
unfoldable pub sums_json : Scale → List Connection → Totals → CaptureCounts → Bool → List ℕ
sums_json s cs t c choose = scale_json s ++ all_json t c ++ connections_json cs ++ end_json choose cs
