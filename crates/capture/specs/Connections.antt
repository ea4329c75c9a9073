-- The connections of a capture as a list; the last one has the latest PDU.
use Rattle.std.specs.Prelude.{ℕ, ◌-◌, ◌==◌, ◌&&◌, ◌||◌, Bool, true, false, nat_le, List, [], ◌∷◌, ◌++◌, length, slice_index, slice_index_or, slice_set, replicate, reverse, if◌then◌else◌, Option, Some, None, is_some}
use Rattle.std.specs.List.{position, remove}
use Rattle.std.specs.Str.{bytes_eq}
use Rattle.capture.specs.declared.datagram.Header.{Header}
use Rattle.capture.specs.declared.line.Address.{Address}
use Rattle.capture.specs.declared.line.Host.{Host}
use Rattle.capture.specs.declared.line.Host.TheVariants.{V4, V6}
use Rattle.capture.specs.declared.line.Record.{Record}
use Rattle.capture.specs.declared.direction.TheConstants.{CHANNELS}
use Rattle.capture.specs.declared.direction.Damage.{Damage}
use Rattle.capture.specs.declared.direction.Direction.{Direction}
use Rattle.capture.specs.declared.direction.Place.{Place}
use Rattle.capture.specs.declared.direction.Remarks.{Remarks}
use Rattle.capture.specs.declared.connections.TheConstants.{CONNECTIONS}
use Rattle.capture.specs.declared.connections.Route.{Route}
use Rattle.capture.specs.declared.connections.Connection.{Connection}
use Rattle.capture.specs.Continuation.{is_continuation}
use Rattle.capture.specs.Numbers.{limited_sum}
use Rattle.capture.specs.Directions.{damages_after, direction_after, open_direction, peer_of, remarks_of}
use Rattle.capture.specs.Measures.{measures_after, no_measures}
use Rattle.capture.specs.Sessions.{has_left, open_sessions, sessions_after}

-- A connection between two ends without PDUs.
abbrev pub new_connection : ℕ → ℕ → Connection
new_connection low high =
    record {
      low = low;
      high = high;
      last = 0;
      routes = replicate CHANNELS None;
      from_low = open_direction;
      from_high = open_direction;
      sessions = open_sessions;
      measures = no_measures;
    }

-- The identifiers of two ends, the lower one first.
abbrev pub ends_of : ℕ → ℕ → ℕ × ℕ
ends_of sender receiver = if nat_le sender receiver then (sender, receiver) else (receiver, sender)

-- Both hosts are IPv4 or both IPv6, with the same bytes.
abbrev pub is_same_host : Host → Host → Bool
is_same_host (V4 a) (V4 b) = bytes_eq a b
is_same_host (V6 a) (V6 b) = bytes_eq a b
is_same_host _ _ = false

-- Both addresses have the same host and port.
abbrev pub is_same_address : Address → Address → Bool
is_same_address a b = (a.port == b.port) && is_same_host a.host b.host

-- The channel is between these addresses, in either direction.
abbrev pub is_between : Route → Record → Bool
is_between route r =
    (is_same_address route.low r.source && is_same_address route.high r.destination)
    || (is_same_address route.low r.destination && is_same_address route.high r.source)

-- The place has the channel between these addresses.
abbrev pub is_known : Option Route → Record → Bool
is_known None r = false
is_known (Some route) r = is_between route r

-- The first place that has the channel.
abbrev pub known_place_of : List (Option Route) → Record → Option ℕ
known_place_of routes r = position (λ route. is_known route r) routes

-- The connection has the channel between these addresses.
abbrev pub has_channel : Connection → Record → Bool
has_channel c r = is_some (known_place_of c.routes r)

-- The end with the lower identifier made the PDU.
abbrev pub is_from_low : Connection → Header → Bool
is_from_low c h = h.sender == c.low

-- The connection has these identifiers.
abbrev pub has_identifiers : ℕ → ℕ → Connection → Bool
has_identifiers low high c = (c.low == low) && (c.high == high)

-- The connection is between the two ends of the PDU.
abbrev pub has_ends : Connection → Header → Bool
has_ends c h = has_identifiers (ends_of h.sender h.receiver).0 (ends_of h.sender h.receiver).1 c

-- The PDU goes on with the connection: with what its end and the other end have sent.
abbrev pub is_continued : Connection → Header → Bool
is_continued c h =
    if is_from_low c h then is_continuation c.from_low c.from_high h else is_continuation c.from_high c.from_low h

-- The first of two, if there is one, or else the second.
abbrev pub first_some : Option ℕ → Option ℕ → Option ℕ
first_some (Some one) other = Some one
first_some None other = other

-- How many connections come after the one of a PDU. That is the last one between its ends that has its channel, or else
-- the last one between its ends that it goes on with.
abbrev pub place_from_end : Header → Record → List Connection → Option ℕ
place_from_end h r cs =
    first_some (position (λ (c : Connection). has_ends c h && has_channel c r) (reverse cs))
    (position (λ (c : Connection). has_ends c h && is_continued c h) (reverse cs))

-- A place in a list of this length, by how many come after it.
abbrev pub place_before : Option ℕ → ℕ → Option ℕ
place_before None size = None
place_before (Some behind) size = Some (size - 1 - behind)

-- The place of the connection of a PDU.
abbrev pub connection_place : Header → Record → List Connection → Option ℕ
connection_place h r cs = place_before (place_from_end h r cs) (length cs)

-- An end has left the current session of the connection.
abbrev pub is_closed : Connection → Bool
is_closed c = has_left c.sessions.current.low.left || has_left c.sessions.current.high.left

-- A place, or else the first.
abbrev pub place_or_first : Option ℕ → ℕ
place_or_first (Some place) = place
place_or_first None = 0

-- The place of the connection that is forgotten: of those that an end has left, the one silent longest; if there is
-- none, the one silent longest of all.
abbrev pub forgotten_place : List Connection → ℕ
forgotten_place cs = place_or_first (position (λ (c : Connection). is_closed c) cs)

-- The list without the connection that is forgotten, if it is full.
abbrev pub with_room : List Connection → List Connection
with_room cs = if length cs == CONNECTIONS then remove cs (forgotten_place cs) else cs

-- The connection at a place, or a new one.
abbrev pub connection_at : Option ℕ → Connection → List Connection → Connection
connection_at (Some place) new cs = slice_index_or cs place new
connection_at None new cs = new

-- The other connections that stay: without the one at a place, or with room made for a new one.
abbrev pub others_at : Option ℕ → List Connection → List Connection
others_at (Some place) cs = remove cs place
others_at None cs = with_room cs

-- The connection of a PDU; a new one between its ends if none is kept.
abbrev pub connection_of : Header → Record → List Connection → Connection
connection_of h r cs =
    connection_at (connection_place h r cs) (new_connection (ends_of h.sender h.receiver).0
    (ends_of h.sender h.receiver).1) cs

-- The other connections that stay.
abbrev pub other_connections : Header → Record → List Connection → List Connection
other_connections h r cs = others_at (connection_place h r cs) cs

-- The place is free, or has the channel between these addresses.
abbrev pub is_held : Option Route → Record → Bool
is_held None r = true
is_held (Some route) r = is_between route r

-- The first place that is free or has the channel.
abbrev pub route_place_of : List (Option Route) → Record → Option ℕ
route_place_of routes r = position (λ route. is_held route r) routes

-- The number of a place; `CHANNELS` if there is none.
abbrev pub channel_at : Option ℕ → ℕ
channel_at (Some place) = place
channel_at None = CHANNELS

-- The number of a datagram's channel.
abbrev pub channel_of : List (Option Route) → Record → ℕ
channel_of routes r = channel_at (route_place_of routes r)

-- The addresses of both ends; the end with the lower identifier sent the datagram if `true`.
abbrev pub route_from : Bool → Record → Route
route_from true r = record { low = r.source; high = r.destination }
route_from false r = record { low = r.destination; high = r.source }

-- A place with its channel; a free one takes the datagram's addresses.
abbrev pub route_of : Option Route → Bool → Record → Option Route
route_of (Some route) from_low r = Some route
route_of None from_low r = Some (route_from from_low r)

-- The channels with this place in use.
abbrev pub routes_at : Option ℕ → List (Option Route) → Bool → Record → List (Option Route)
routes_at (Some place) routes from_low r =
    slice_set routes place (route_of (slice_index_or routes place None) from_low r)
routes_at None routes from_low r = routes

-- The channels after a datagram; a new one is added at the first free place.
abbrev pub routes_after : List (Option Route) → Bool → Record → List (Option Route)
routes_after routes from_low r = routes_at (route_place_of routes r) routes from_low r

-- The time, line and channel of a PDU.
abbrev pub place_in : Connection → ℕ → Record → Place
place_in c line r = record { time = r.time; line = line; channel = channel_of c.routes r }

-- The remarks on a PDU of the end with the lower identifier (`true`), or of the other end, by what both ends sent
-- before.
abbrev pub way_remarks : Bool → Connection → Place → ℕ → Header → Remarks
way_remarks true c place seq h = remarks_of c.from_low (peer_of c.from_high h) place seq h
way_remarks false c place seq h = remarks_of c.from_high (peer_of c.from_low h) place seq h

-- The connection with the PDU in the direction of its end.
abbrev pub follow_way_pdu : Bool → Connection → Place → ℕ → Header → Connection
follow_way_pdu true c place seq h =
    record c { from_low = direction_after c.from_low (peer_of c.from_high h) place seq h }
follow_way_pdu false c place seq h =
    record c { from_high = direction_after c.from_high (peer_of c.from_low h) place seq h }

-- The remarks on a PDU, by what its own end and the other end sent before.
abbrev pub connection_remarks : Connection → ℕ → Record → ℕ → Header → Remarks
connection_remarks c line r seq h = way_remarks (is_from_low c h) c (place_in c line r) seq h

-- The connection with the time and channel of a PDU.
abbrev pub with_reception : Connection → Record → Header → Connection
with_reception c r h = record c { last = r.time; routes = routes_after c.routes (is_from_low c h) r }

-- The connection with the direction of a PDU followed.
abbrev pub follow_direction : Connection → ℕ → Record → ℕ → Header → Connection
follow_direction c line r seq h = follow_way_pdu (is_from_low c h) (with_reception c r h) (place_in c line r) seq h

-- The connection after a PDU.
abbrev pub connection_after : Connection → ℕ → Record → ℕ → Header → Connection
connection_after c line r seq h =
    record (follow_direction c line r seq h) {
      sessions = sessions_after c.sessions (is_from_low c h) r.time h.kind (connection_remarks c line r seq h);
      measures = measures_after c.measures (is_from_low c h) r.time h (connection_remarks c line r seq h);
    }

-- The remarks on a PDU of a line.
abbrev pub step_remarks : List Connection → ℕ → Record → ℕ → Header → Remarks
step_remarks cs line r seq h = connection_remarks (connection_of h r cs) line r seq h

-- The connections after a PDU of a line.
abbrev pub step : List Connection → ℕ → Record → ℕ → Header → List Connection
step cs line r seq h = other_connections h r cs ++ connection_after (connection_of h r cs) line r seq h ∷ []

-- How many connections come after the last one that has the channel.
abbrev pub behind_of : List Connection → Record → Option ℕ
behind_of cs r = position (λ (c : Connection). has_channel c r) (reverse cs)

-- The address of the end with the lower identifier sent the datagram.
abbrev pub is_source_low : Option Route → Record → Bool
is_source_low None r = false
is_source_low (Some route) r = is_same_address route.low r.source

-- The direction with one more damaged datagram on a channel.
abbrev pub count_damage_at : Direction → ℕ → Option Damage → Direction
count_damage_at d place damage =
    record d {
      damaged = slice_set d.damaged place (limited_sum (slice_index d.damaged place) 1);
      damages = damages_after d.damages damage;
    }

-- The connection with one more damaged datagram in the direction of its sender.
abbrev pub count_damage_by : Bool → Connection → ℕ → Option Damage → Connection
count_damage_by true c place damage = record c { from_low = count_damage_at c.from_low place damage }
count_damage_by false c place damage = record c { from_high = count_damage_at c.from_high place damage }

-- The connection with one more damaged datagram on this channel, if it has the channel.
abbrev pub count_damage_on : Option ℕ → Connection → Record → Option Damage → Connection
count_damage_on None c r damage = c
count_damage_on (Some place) c r damage =
    count_damage_by (is_source_low (slice_index_or c.routes place None) r) c place damage

-- The connection after a damaged datagram.
abbrev pub count_connection_damage : Connection → Record → Option Damage → Connection
count_connection_damage c r damage = count_damage_on (known_place_of c.routes r) c r damage

-- The connections after a damaged datagram, at a place counted from the end.
abbrev pub damage_at : Option ℕ → List Connection → Record → Option Damage → List Connection
damage_at None cs r damage = cs
damage_at (Some behind) cs r damage =
    slice_set cs (length cs - 1 - behind) (count_connection_damage
    (slice_index_or cs (length cs - 1 - behind) (new_connection 0 0)) r damage)

-- The connections after a damaged datagram: it is counted on its channel; if several connections have that, in the last
-- one.
abbrev pub count_damaged_datagram : List Connection → Record → Option Damage → List Connection
count_damaged_datagram cs r damage = damage_at (behind_of cs r) cs r damage
