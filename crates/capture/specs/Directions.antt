-- What is remarkable in a PDU, and what is kept of it.
use Rattle.std.specs.Prelude.{ℕ, ◌+◌, ◌-◌, ◌%◌, max, ◌^◌, ◌==◌, ◌&&◌, Bool, true, false, not, nat_le, nat_lt, List, map, slice_index_or, slice_set, replicate, if◌then◌else◌, Option, Some, None}
use Rattle.safe_pdu.specs.declared.Kind.{Kind}
use Rattle.safe_pdu.specs.declared.Kind.TheVariants.{ConnReq, ConnResp, DiscReq, Heartbeat, RetrData, RetrReq}
use Rattle.safe_pdu.specs.declared.Leaving.{Leaving}
use Rattle.capture.specs.declared.datagram.Header.{Header}
use Rattle.capture.specs.declared.window.Window.{Window}
use Rattle.capture.specs.declared.window.NumberOrder.{NumberOrder}
use Rattle.capture.specs.declared.window.NumberOrder.TheVariants.{Differs, Late, Repeat, Stale}
use Rattle.capture.specs.declared.direction.TheConstants.{CHANNELS, DAMAGES}
use Rattle.capture.specs.declared.direction.Confirmation.{Confirmation}
use Rattle.capture.specs.declared.direction.Damage.{Damage}
use Rattle.capture.specs.declared.direction.Direction.{Direction}
use Rattle.capture.specs.declared.direction.SessionOpening.{SessionOpening}
use Rattle.capture.specs.declared.direction.Peer.{Peer}
use Rattle.capture.specs.declared.direction.Place.{Place}
use Rattle.capture.specs.declared.direction.Remarks.{Remarks}
use Rattle.capture.specs.declared.direction.Tally.{Tally}
use Rattle.capture.specs.declared.window.TheConstants.{KEPT}
use Rattle.capture.specs.Numbers.{ahead, limited_sum, number_order, line_seen, note_number, open_window, restart_window, slot}

-- All counts before the first PDU.
abbrev pub open_tally : Tally
open_tally =
    record {
      openings = 0;
      heartbeats = 0;
      requests = 0;
      resent = 0;
      disconnects = 0;
      oldest = 0;
      longest = 0;
      last = 0;
      silence = 0;
      leaving = None;
      opened = 0;
      left = 0;
    }

-- No PDU of this session is kept.
abbrev pub no_confirmations : List (Option Confirmation)
no_confirmations = replicate KEPT None

-- No damaged datagram of this session is kept.
abbrev pub no_damages : List (Option Damage)
no_damages = replicate DAMAGES None

-- A direction before the first PDU.
abbrev pub open_direction : Direction
open_direction =
    record {
      channels = replicate CHANNELS open_window;
      together = open_window;
      sequence = open_window;
      stamp = None;
      opening = None;
      confirmations = no_confirmations;
      since = None;
      damaged = replicate CHANNELS 0;
      damages = no_damages;
      tally = open_tally;
    }

-- How a number follows on its channel; nothing on a further channel.
abbrev pub channel_order : List Window → ℕ → ℕ → ℕ → Option NumberOrder
channel_order ws channel seq octets =
    if nat_lt channel CHANNELS then Some (number_order (slice_index_or ws channel open_window) seq octets) else None

-- The windows of the channels after a number.
abbrev pub channels_after : List Window → Place → ℕ → ℕ → List Window
channels_after ws place seq octets =
    if nat_lt place.channel CHANNELS
    then slice_set ws place.channel (note_number (slice_index_or ws place.channel open_window) seq place.line octets)
    else ws

-- A PDU is new: its redundancy number came before on no channel, as far as that is known.
abbrev pub is_new : NumberOrder → Bool
is_new (Repeat _) = false
is_new (Differs _) = false
is_new Stale = false
is_new _ = true

-- A PDU is the newest: it is new and not late.
abbrev pub is_furthest : NumberOrder → Bool
is_furthest (Repeat _) = false
is_furthest (Differs _) = false
is_furthest Stale = false
is_furthest Late = false
is_furthest _ = true

-- How the sequence number of a new PDU follows.
abbrev pub sequence_order : Bool → Window → Header → Option NumberOrder
sequence_order true w h = Some (number_order w h.sn h.fingerprint)
sequence_order false w h = None

-- The window of sequence numbers after a PDU; only a new one changes it.
abbrev pub sequence_after : Bool → Window → ℕ → Header → Window
sequence_after true w line h = note_number w h.sn line h.fingerprint
sequence_after false w line h = w

-- The PDU carries a unit that was sent before.
abbrev pub is_resent : Kind → Bool
is_resent RetrData = true
is_resent _ = false

-- An age; a confirmed timestamp later than all that came has none.
abbrev pub age_within : ℕ → Option ℕ
age_within age = if nat_lt age (2 ^ 31) then Some age else None

-- The age of a confirmed timestamp: the newest timestamp of the end that made it, minus the confirmed one.
abbrev pub age_at : Option ℕ → ℕ → Option ℕ
age_at None confirmed = None
age_at (Some stamp) confirmed = age_within (ahead confirmed stamp)

-- The PDU type is ConnReq.
abbrev pub is_request : Kind → Bool
is_request ConnReq = true
is_request _ = false

-- The sequence number is the next one after the last opening, and that was a ConnReq.
abbrev pub is_behind_request : Option SessionOpening → ℕ → Bool
is_behind_request None sn = false
is_behind_request (Some opening) sn = is_request opening.kind && (ahead opening.sn sn == 1)

-- The PDU confirms nothing: it is a ConnReq, or a DiscReq directly after one.
abbrev pub confirms_nothing : Option SessionOpening → Kind → ℕ → Bool
confirms_nothing opening ConnReq sn = true
confirms_nothing opening DiscReq sn = is_behind_request opening sn
confirms_nothing opening _ sn = false

-- The timestamp of the last opening, if it was recorded.
abbrev pub opening_timestamp : Option SessionOpening → Option ℕ
opening_timestamp None = None
opening_timestamp (Some opening) = Some opening.ts

-- A timestamp is from before the opening of its end, so from another session.
abbrev pub is_before : Option ℕ → ℕ → Bool
is_before None stamp = false
is_before (Some opened) stamp = nat_le (2 ^ 31) (ahead opened stamp)

-- The age of a timestamp of the other end; one from before that end's last opening has none.
abbrev pub age_in : Peer → ℕ → Option ℕ
age_in peer confirmed = if is_before peer.opened confirmed then None else age_at peer.stamp confirmed

-- The age of the timestamp that a PDU confirms.
abbrev pub age_of : Option SessionOpening → Peer → Header → Option ℕ
age_of opening peer h = if confirms_nothing opening h.kind h.sn then None else age_in peer h.cts

-- What a PDU confirms; a ConnReq confirms nothing.
abbrev pub confirmation_of : Header → Option Confirmation
confirmation_of h = if is_request h.kind then None else Some (record { sn = h.sn; ts = h.ts; cts = h.cts })

-- The timestamp that the PDU with this SN and TS confirms, if it is kept.
abbrev pub confirmation_timestamp : ℕ → ℕ → Option Confirmation → Option ℕ
confirmation_timestamp sn ts None = None
confirmation_timestamp sn ts (Some c) = if (c.sn == sn) && (c.ts == ts) then Some c.cts else None

-- The timestamp of its own end that a PDU shows to be confirmed. It confirms the other end's PDU with its CS as SN and
-- its CTS as TS; this is what that one confirms.
abbrev pub confirmed_timestamp : List (Option Confirmation) → Header → Option ℕ
confirmed_timestamp cs h = confirmation_timestamp h.cs h.cts (slice_index_or cs (slot h.cs) None)

-- The PDU type is RetrReq.
abbrev pub is_retransmission_request : Kind → Bool
is_retransmission_request RetrReq = true
is_retransmission_request _ = false

-- The line of the PDU for which a RetrReq asks: the one with the sequence number after the confirmed one, if that was
-- recorded.
abbrev pub requested_line : Window → Header → Option ℕ
requested_line w h = if is_retransmission_request h.kind then line_seen w ((h.cs + 1) % 2 ^ 32) else None

-- What the other end said, as far as it concerns a PDU.
abbrev pub peer_of : Direction → Header → Peer
peer_of d h =
    record {
      opened = opening_timestamp d.opening;
      stamp = d.stamp;
      confirmed = confirmed_timestamp d.confirmations h;
      asked = requested_line d.sequence h;
    }

-- The line of a damaged datagram, if it has this redundancy number.
abbrev pub damage_as : ℕ → Option Damage → Option ℕ
damage_as number None = None
damage_as number (Some damage) = if damage.number == number then Some damage.line else None

-- The line of the damaged datagram with a redundancy number, if it is kept.
abbrev pub damage_with : List (Option Damage) → ℕ → Option ℕ
damage_with damages number = damage_as number (slice_index_or damages (number % DAMAGES) None)

-- The damaged datagrams that are kept, after one more; one without a redundancy number is not kept.
abbrev pub damages_after : List (Option Damage) → Option Damage → List (Option Damage)
damages_after damages None = damages
damages_after damages (Some damage) = slice_set damages (damage.number % DAMAGES) (Some damage)

-- A line, if a PDU is new.
abbrev pub line_if : Bool → Option ℕ → Option ℕ
line_if true line = line
line_if false line = None

-- The PDUs that are kept, after one more; only a new one changes them.
abbrev pub confirmations_after : Bool → List (Option Confirmation) → Header → List (Option Confirmation)
confirmations_after true cs h = slice_set cs (slot h.sn) (confirmation_of h)
confirmations_after false cs h = cs

-- The confirmed timestamp, or that of before if none is known.
abbrev pub newer : Option ℕ → Option ℕ → Option ℕ
newer (Some confirmed) since = Some confirmed
newer None since = since

-- The own timestamp that an end last knew to be confirmed, after a PDU; only a new one changes it, and one that
-- confirms nothing does not.
abbrev pub since_after : Bool → Option SessionOpening → Option ℕ → Option ℕ → Header → Option ℕ
since_after true opening since confirmed h =
    if confirms_nothing opening h.kind h.sn then since else newer confirmed since
since_after false opening since confirmed h = since

-- How long an end has waited at this timestamp; a copy has no wait.
abbrev pub waits_at : Bool → Option ℕ → ℕ → Option ℕ
waits_at true (Some since) ts = age_within (ahead since ts)
waits_at true None ts = None
waits_at false since ts = None

-- How long the end of a PDU has waited when it made it.
abbrev pub waits_of : Bool → Direction → Peer → Header → Option ℕ
waits_of is_new d peer h = waits_at is_new (since_after is_new d.opening d.since peer.confirmed h) h.ts

-- Only a ConnReq and a ConnResp are openings.
abbrev pub opening_as : Kind → SessionOpening → Option SessionOpening
opening_as ConnReq opening = Some opening
opening_as ConnResp opening = Some opening
opening_as _ opening = None

-- The opening that a PDU is, if any.
abbrev pub opening_of : Header → Option SessionOpening
opening_of h = opening_as h.kind (record { kind = h.kind; sn = h.sn; ts = h.ts })

-- The number came before, with the same bytes.
abbrev pub is_repeat : NumberOrder → Bool
is_repeat (Repeat _) = true
is_repeat _ = false

-- There is a newest number, and it is another one.
abbrev pub is_other : Option ℕ → ℕ → Bool
is_other None seq = false
is_other (Some newest) seq = not (newest == seq)

-- The newest number of this channel is another one than this.
abbrev pub has_gone_on : List Window → ℕ → ℕ → Bool
has_gone_on ws channel seq =
    if nat_lt channel CHANNELS then is_other (slice_index_or ws channel open_window).newest seq else false

-- An opening is a copy: it is kept with the same bytes, and nothing else of its end has come on its channel since.
abbrev pub is_copy : Direction → ℕ → ℕ → ℕ → Bool
is_copy d channel seq octets =
    is_repeat (number_order d.together seq octets) && not (has_gone_on d.channels channel seq)

-- The PDU opens a session: it is an opening and not a copy, whatever its numbers.
abbrev pub is_opened : Direction → Option SessionOpening → ℕ → ℕ → ℕ → Bool
is_opened d None channel seq octets = false
is_opened d (Some opening) channel seq octets = not (is_copy d channel seq octets)

-- The counts after an opening.
abbrev pub tally_after_opening : Tally → ℕ → Tally
tally_after_opening t time = record t { openings = limited_sum t.openings 1; leaving = None; opened = time }

-- The direction after an opening: all numbers start again, and counts stay except for the reason of a disconnect.
abbrev pub reopen_direction : Bool → Direction → Option SessionOpening → ℕ → Direction
reopen_direction true d opening time =
    record d {
      channels = map restart_window d.channels;
      together = restart_window d.together;
      sequence = restart_window d.sequence;
      opening = opening;
      confirmations = no_confirmations;
      damages = no_damages;
      since = opening_timestamp opening;
      tally = tally_after_opening d.tally time;
    }
reopen_direction false d opening time = d

-- The direction after a PDU's opening, if it opens.
abbrev pub direction_after_opening : Direction → Place → ℕ → Header → Direction
direction_after_opening d place seq h =
    reopen_direction (is_opened d (opening_of h) place.channel seq h.fingerprint) d (opening_of h) place.time

-- The counts with one more PDU of this type.
abbrev pub tally_with_kind : Kind → Tally → Tally
tally_with_kind Heartbeat t = record t { heartbeats = limited_sum t.heartbeats 1 }
tally_with_kind RetrReq t = record t { requests = limited_sum t.requests 1 }
tally_with_kind RetrData t = record t { resent = limited_sum t.resent 1 }
tally_with_kind DiscReq t = record t { disconnects = limited_sum t.disconnects 1 }
tally_with_kind _ t = t

-- The greatest so far.
abbrev pub greatest_of : Option ℕ → ℕ → ℕ
greatest_of None greatest = greatest
greatest_of (Some more) greatest = max greatest more

-- The longest time without a PDU, up to this time; before the first PDU nothing counts.
abbrev pub silence_of : Tally → ℕ → ℕ
silence_of t time = if nat_lt 0 t.last then max t.silence (time - t.last) else t.silence

-- The last reason so far.
abbrev pub leaving_after : Option Leaving → Option Leaving → Option Leaving
leaving_after (Some leaving) before = Some leaving
leaving_after None before = before

-- The time of the last DiscReq.
abbrev pub disconnect_time_after : Option Leaving → ℕ → ℕ → ℕ
disconnect_time_after (Some leaving) time before = time
disconnect_time_after None time before = before

-- The counts after a new PDU.
abbrev pub count_pdu : Tally → ℕ → Option ℕ → Option ℕ → Header → Tally
count_pdu t time age waits h =
    record (tally_with_kind h.kind t) {
      oldest = greatest_of age t.oldest;
      longest = greatest_of waits t.longest;
      silence = silence_of t time;
      last = time;
      leaving = leaving_after h.leaving t.leaving;
      left = disconnect_time_after h.leaving time t.left;
    }

-- The counts after a PDU; only a new one changes them.
abbrev pub tally_after : Bool → Tally → ℕ → Option ℕ → Option ℕ → Header → Tally
tally_after true t time age waits h = count_pdu t time age waits h
tally_after false t time age waits h = t

-- The remarks on a PDU with this redundancy number, after its opening was handled.
abbrev pub remarks_in : Direction → Bool → Peer → Place → ℕ → Header → Remarks
remarks_in d opens peer place seq h =
    record {
      opens = opens;
      route = place.channel;
      channel = channel_order d.channels place.channel seq h.fingerprint;
      together = number_order d.together seq h.fingerprint;
      sequence = sequence_order (is_new (number_order d.together seq h.fingerprint)) d.sequence h;
      resent = is_resent h.kind;
      damaged = line_if (is_new (number_order d.together seq h.fingerprint)) (damage_with d.damages seq);
      asks = line_if (is_new (number_order d.together seq h.fingerprint)) peer.asked;
      age = age_of d.opening peer h;
      waits = waits_of (is_new (number_order d.together seq h.fingerprint)) d peer h;
      leaving = h.leaving;
    }

-- The remarks on a PDU with this redundancy number.
abbrev pub remarks_of : Direction → Peer → Place → ℕ → Header → Remarks
remarks_of d peer place seq h =
    remarks_in (direction_after_opening d place seq h) (is_opened d (opening_of h) place.channel seq h.fingerprint) peer
    place seq h

-- The direction after a PDU, after its opening was handled.
abbrev pub direction_in : Direction → Peer → Place → ℕ → Header → Direction
direction_in d peer place seq h =
    record d {
      channels = channels_after d.channels place seq h.fingerprint;
      together = note_number d.together seq place.line h.fingerprint;
      sequence = sequence_after (is_new (number_order d.together seq h.fingerprint)) d.sequence place.line h;
      stamp = if is_furthest (number_order d.together seq h.fingerprint) then Some h.ts else d.stamp;
      confirmations = confirmations_after (is_new (number_order d.together seq h.fingerprint)) d.confirmations h;
      since = since_after (is_new (number_order d.together seq h.fingerprint)) d.opening d.since peer.confirmed h;
      tally =
          tally_after (is_new (number_order d.together seq h.fingerprint)) d.tally place.time (age_of d.opening peer h)
          (waits_of (is_new (number_order d.together seq h.fingerprint)) d peer h) h;
    }

-- The direction after a PDU.
abbrev pub direction_after : Direction → Peer → Place → ℕ → Header → Direction
direction_after d peer place seq h = direction_in (direction_after_opening d place seq h) peer place seq h
