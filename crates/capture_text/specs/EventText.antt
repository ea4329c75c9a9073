-- The events of a recording as JSON, one object a line; docs/captures.md has the members.
use Rattle.std.specs.Prelude.{ℕ, ◌&&◌, nat_eq, Bool, true, false, List, [], ◌∷◌, ◌++◌, codes, if◌then◌else◌, Option, Some, None}
use Rattle.std.specs.Fmt.{decimal}
use Rattle.red_layer.specs.declared.pdu.RedFault.{RedFault}
use Rattle.red_layer.specs.pdu.FaultNames.{red_name, red_number}
use Rattle.safe_pdu.specs.declared.Kind.{Kind}
use Rattle.safe_pdu.specs.declared.Leaving.{Leaving}
use Rattle.safe_pdu.specs.declared.SafeFault.{SafeFault}
use Rattle.safe_pdu.specs.Names.{safe_name, safe_number}
use Rattle.capture.specs.declared.direction.Remarks.{Remarks}
use Rattle.capture.specs.declared.follower.Remark.{Remark}
use Rattle.capture.specs.declared.follower.Remark.TheVariants.{Pdu, NoRed, NoSafe}
use Rattle.capture.specs.declared.datagram.Header.{Header}
use Rattle.capture.specs.declared.line.Address.{Address}
use Rattle.capture.specs.declared.line.Record.{Record}
use Rattle.capture.specs.declared.window.NumberOrder.{NumberOrder}
use Rattle.capture.specs.declared.window.NumberOrder.TheVariants as judged
use Rattle.capture.specs.Directions.{is_new, is_request}
use Rattle.pdu_text.specs.Lines.{join_pieces}
use Rattle.capture_text.specs.Choice.{is_half}
use Rattle.capture_text.specs.Pieces.{address_text, since_text}
use Rattle.capture_text.specs.TableJson.{truth_json}
use Rattle.capture_text.specs.declared.events.Event.{Event}
use Rattle.capture_text.specs.declared.events.Event.TheVariants.{Opens, Up, Lost, Late, Resent, Waits, Left}
use Rattle.capture_text.specs.declared.events.Spot.{Spot}
use Rattle.capture_text.specs.declared.pieces.Clock.{Clock}
use Rattle.capture_text.specs.declared.pieces.TimeForm.{TimeForm}
use Rattle.capture_text.specs.declared.pieces.TimeForm.TheVariants as form
use Rattle.capture_text.specs.declared.summary.Scale.{Scale}

-- The event of an opening: a ConnReq asks for a session, and a ConnResp brings one up.
abbrev pub opening_event : Bool → Kind → Option Event
opening_event true kind = Some (if is_request kind then Opens else Up)
opening_event false kind = None

-- The event of a number: numbers before it are missing, on every channel or on its own one, or it was missing itself.
abbrev pub number_event : Bool → NumberOrder → Option Event
number_event everywhere (judged.Ahead passed) = Some (Lost passed everywhere)
number_event everywhere judged.Late = Some (Late everywhere)
number_event everywhere _ = None

-- The event of a number on its own channel, if it was judged there.
abbrev pub channel_event : Option NumberOrder → Option Event
channel_event None = None
channel_event (Some judged) = number_event false judged

-- A unit is sent again; a copy is no event.
abbrev pub resent_event : Remarks → Option Event
resent_event m = if is_new m.together && m.resent then Some Resent else None

-- An end has waited for at least half of T_max.
abbrev pub wait_event : ℕ → Option ℕ → Option Event
wait_event t_max None = None
wait_event t_max (Some waits) = if is_half t_max waits then Some (Waits waits) else None

-- An end leaves, if there is a DiscReq.
abbrev pub disconnect_event : Option Leaving → Option Event
disconnect_event None = None
disconnect_event (Some leaving) = Some (Left leaving)

-- An end leaves; a copy of its DiscReq is no event.
abbrev pub new_disconnect_event : Remarks → Option Event
new_disconnect_event m = if is_new m.together then disconnect_event m.leaving else None

-- The name of an event.
abbrev pub event_name : Event → List ℕ
event_name Opens = codes "opens"
event_name Up = codes "up"
event_name (Lost missing everywhere) = codes "lost"
event_name (Late everywhere) = codes "late"
event_name Resent = codes "resent"
event_name (Waits waits) = codes "waits"
event_name (Left leaving) = codes "left"

-- Numbers that are missing, and where.
unfoldable pub losses_json : ℕ → Bool → List ℕ
losses_json missing everywhere =
    join_pieces (codes ",\"on_every_channel\":" ∷ truth_json everywhere ∷ codes ",\"missing\":" ∷ decimal missing ∷ [])

-- Where a number was missing that came late.
unfoldable pub late_json : Bool → List ℕ
late_json everywhere = join_pieces (codes ",\"on_every_channel\":" ∷ truth_json everywhere ∷ [])

-- A wait in milliseconds.
unfoldable pub waits_json : ℕ → List ℕ
waits_json waits = join_pieces (codes ",\"waits\":" ∷ decimal waits ∷ [])

-- Reason and detail.
unfoldable pub disconnect_json : Leaving → List ℕ
disconnect_json l = join_pieces (codes ",\"reason\":" ∷ decimal l.reason ∷ codes ",\"detail\":" ∷ decimal l.detail ∷ [])

-- What an event has besides its place.
abbrev pub event_json : Event → List ℕ
event_json Opens = []
event_json Up = []
event_json (Lost missing everywhere) = losses_json missing everywhere
event_json (Late everywhere) = late_json everywhere
event_json Resent = []
event_json (Waits waits) = waits_json waits
event_json (Left leaving) = disconnect_json leaving

-- A date is in quotes; seconds are a number.
abbrev pub quote_of : TimeForm → List ℕ
quote_of form.Utc = codes "\""
quote_of form.Since = []
quote_of form.Epoch = []

-- A time.
unfoldable pub when_json : Clock → ℕ → List ℕ
when_json clock time = join_pieces (quote_of clock.form ∷ since_text clock time ∷ quote_of clock.form ∷ [])

-- The name of an event, at the start of its object.
unfoldable pub event_name_json : List ℕ → List ℕ
event_name_json name = join_pieces (codes "{\"event\":\"" ∷ name ∷ codes "\",\"time\":" ∷ [])

-- The line or frame of an event.
unfoldable pub line_json : ℕ → List ℕ
line_json line = join_pieces (codes ",\"line\":" ∷ decimal line ∷ [])

-- Name, time and line of an event.
unfoldable pub head_json : List ℕ → Clock → ℕ → ℕ → List ℕ
head_json name clock time line = join_pieces (event_name_json name ∷ when_json clock time ∷ line_json line ∷ [])

-- The number of a channel, from 1; a further channel has none.
abbrev pub channel_number : ℕ → List ℕ
channel_number place =
    if nat_eq place 0 then codes "1" else if nat_eq place 1 then codes "2" else if nat_eq place 2 then codes "3"
    else if nat_eq place 3 then codes "4" else codes "null"

-- The ends and the channel of a PDU.
unfoldable pub way_json : ℕ → ℕ → ℕ → List ℕ
way_json sender receiver route =
    join_pieces
    (codes ",\"from\":" ∷ decimal sender ∷ codes ",\"to\":" ∷ decimal receiver ∷ codes ",\"channel\":" ∷
    channel_number route ∷ [])

-- The line of an event.
unfoldable pub event_line : Spot → Event → List ℕ
event_line s e =
    join_pieces
    (head_json (event_name e) s.clock s.time s.line ∷ way_json s.sender s.receiver s.route ∷ event_json e ∷
    codes "}\n" ∷ [])

-- The line of an event, if there is one.
abbrev pub maybe_line : Spot → Option Event → List ℕ
maybe_line s None = []
maybe_line s (Some e) = event_line s e

-- The place of a PDU.
abbrev pub spot_of : Clock → ℕ → Record → Header → Remarks → Spot
spot_of clock line r h m =
    record { clock = clock; time = r.time; line = line; sender = h.sender; receiver = h.receiver; route = m.route }

-- The lines about the order of PDUs: the opening, then the number on its channel and on all.
unfoldable pub order_lines : Spot → Kind → Remarks → List ℕ
order_lines s kind m =
    join_pieces
    (maybe_line s (opening_event m.opens kind) ∷ maybe_line s (channel_event m.channel) ∷
    maybe_line s (number_event true m.together) ∷ [])

-- The other lines of a PDU: a unit that is sent again, a long wait, a leaving.
unfoldable pub other_lines : Spot → ℕ → Remarks → List ℕ
other_lines s t_max m =
    join_pieces (maybe_line s (resent_event m) ∷ maybe_line s (wait_event t_max m.waits) ∷
    maybe_line s (new_disconnect_event m) ∷ [])

-- The lines of a PDU.
unfoldable pub pdu_lines : Spot → ℕ → Kind → Remarks → List ℕ
pdu_lines s t_max kind m = order_lines s kind m ++ other_lines s t_max m

-- An address in quotes, after what names it.
unfoldable pub address_json : List ℕ → Address → List ℕ
address_json front address = join_pieces (front ∷ address_text address ∷ codes "\"" ∷ [])

-- The layer that rejects a datagram, with the number and the name of its fault.
unfoldable pub fault_json : List ℕ → ℕ → List ℕ → List ℕ
fault_json layer number name =
    join_pieces (codes ",\"layer\":\"" ∷ layer ∷ codes "\",\"fault\":" ∷ decimal number ∷ codes ",\"name\":\"" ∷ name ∷
    codes "\"}\n" ∷ [])

-- The line of a datagram that is not a PDU, up to its fault.
unfoldable pub damage_json : Clock → ℕ → Record → List ℕ
damage_json clock line r = join_pieces
    (head_json (codes "damaged") clock r.time line ∷ address_json (codes ",\"source\":\"") r.source
    ∷ address_json (codes ",\"destination\":\"") r.destination ∷ [])

-- The line of a datagram that is not a safety PDU.
unfoldable pub no_safe_line : Clock → ℕ → Record → SafeFault → List ℕ
no_safe_line clock line r fault =
    damage_json clock line r ++ fault_json (codes "safe") (safe_number fault) (safe_name fault)

-- The line of a datagram that is not a redundancy PDU.
unfoldable pub no_red_line : Clock → ℕ → Record → RedFault → List ℕ
no_red_line clock line r fault =
    damage_json clock line r ++ fault_json (codes "red") (red_number fault) (red_name fault)

-- The lines of a datagram's events.
abbrev pub event_lines : Scale → ℕ → Record → Remark → List ℕ
event_lines s line r (Pdu seq h m) = pdu_lines (spot_of s.clock line r h m) s.t_max h.kind m
event_lines s line r (NoSafe seq fault) = no_safe_line s.clock line r fault
event_lines s line r (NoRed fault) = no_red_line s.clock line r fault
