-- What may come before an IP packet in a frame: VLAN tags, LLC/SNAP, MPLS labels, PPPoE.
use Rattle.std.specs.Prelude.{ℕ, ◌+◌, ◌/◌, ◌%◌, ◌==◌, ◌&&◌, ◌||◌, Bool, not, nat_eq, nat_le, List, if◌then◌else◌, Option, Some, None}
use Rattle.capture.specs.Places.{big_at, octet_at}
use Rattle.capture.specs.declared.encapsulation.TheConstants.{BRIDGED, IPV4, IPV6, NOTHING, SESSION}
use Rattle.capture.specs.declared.encapsulation.Packet.{Packet}

-- A packet at a place, if its EtherType was read.
abbrev pub packet_with : ℕ → Option ℕ → Option Packet
packet_with place (Some kind) = Some (record { kind = kind; place = place })
packet_with place None = None

-- The packet at a place, with the EtherType at another place.
abbrev pub kind_at : ℕ → ℕ → List ℕ → Option Packet
kind_at at place octets = packet_with place (big_at at octets)

-- The EtherTypes of VLAN tags: 802.1Q, 802.1ad, and the older 0x9100.
abbrev pub is_tag : ℕ → Bool
is_tag kind = (kind == 0x8100) || ((kind == 0x88a8) || (kind == 0x9100))

-- The EtherTypes of MPLS.
abbrev pub is_label : ℕ → Bool
is_label kind = (kind == 0x8847) || (kind == 0x8848)

-- In place of an EtherType there is the length of the frame.
abbrev pub is_length : ℕ → Bool
is_length kind = nat_le 1 kind && nat_le kind 1500

-- The EtherType of a packet after the last label, by its first four bits; any other is taken for an Ethernet frame.
abbrev pub label_kind : ℕ → ℕ
label_kind version = if nat_eq version 4 then IPV4 else if nat_eq version 6 then IPV6 else BRIDGED

-- The packet after a label, by the label's third byte, whose lowest bit marks the last one, and by the byte after it.
abbrev pub label_with : Packet → Option ℕ → Option ℕ → Option Packet
label_with p (Some third) (Some next) =
    Some (record { kind = if nat_eq (third % 2) 0 then p.kind else label_kind (next / 16); place = p.place + 4 })
label_with p _ _ = None

-- The packet after a label.
abbrev pub behind_label : List ℕ → Packet → Option Packet
behind_label octets p = label_with p (octet_at (p.place + 2) octets) (octet_at (p.place + 4) octets)

-- The EtherType of the protocol of PPP in a session: of version 1, with the code 0.
abbrev pub session_kind : ℕ → ℕ → ℕ
session_kind head protocol =
    if not (head == 0x1100) then NOTHING
    else if protocol == 0x0021 then IPV4
    else if protocol == 0x0057 then IPV6
    else NOTHING

-- The packet in a session, by the first two bytes of the session and the protocol of PPP.
abbrev pub session_with : ℕ → Option ℕ → Option ℕ → Option Packet
session_with place (Some head) (Some protocol) = Some (record { kind = session_kind head protocol; place = place + 8 })
session_with place _ _ = None

-- The packet in the PPPoE session at a place.
abbrev pub behind_session : List ℕ → ℕ → Option Packet
behind_session octets place = session_with place (big_at place octets) (big_at (place + 6) octets)

-- The EtherType of SNAP: after the access points 0xaa, the control byte 3, and the maker 0.
abbrev pub snap_kind : ℕ → ℕ → ℕ → ℕ → ℕ
snap_kind access control maker kind =
    if (access == 0xaaaa) && ((control == 0x0300) && (maker == 0)) then kind else NOTHING

-- The packet after LLC and SNAP, by their four numbers.
abbrev pub llc_with : ℕ → Option ℕ → Option ℕ → Option ℕ → Option ℕ → Option Packet
llc_with place (Some access) (Some control) (Some maker) (Some kind) =
    Some (record { kind = snap_kind access control maker kind; place = place + 8 })
llc_with place _ _ _ _ = None

-- The packet after the LLC and SNAP at a place.
abbrev pub behind_llc : List ℕ → ℕ → Option Packet
behind_llc octets place =
    llc_with place (big_at place octets) (big_at (place + 2) octets) (big_at (place + 4) octets)
    (big_at (place + 6) octets)

-- The packet after one header, if there is one before it.
abbrev pub behind_wrapping : List ℕ → Packet → Option Packet
behind_wrapping octets p =
    if is_tag p.kind then kind_at (p.place + 2) (p.place + 4) octets
    else if is_label p.kind then behind_label octets p
    else if p.kind == SESSION then behind_session octets p.place
    else if is_length p.kind then behind_llc octets p.place
    else Some p

-- The packet after one more header, if there was a packet.
abbrev pub behind_next : List ℕ → Option Packet → Option Packet
behind_next octets (Some p) = behind_wrapping octets p
behind_next octets None = None

-- The packet after up to five headers.
abbrev pub innermost_packet : List ℕ → Packet → Option Packet
innermost_packet octets p =
    behind_next octets (behind_next octets (behind_next octets (behind_next octets (behind_wrapping octets p))))

-- The packets within which a further frame may be that is not read: one more header, an Ethernet frame, MACsec,
-- backbone bridges.
abbrev pub is_bridged : ℕ → Bool
is_bridged kind =
    is_tag kind
    || (is_label kind || ((kind == SESSION) || ((kind == BRIDGED) || ((kind == 0x88e5) || (kind == 0x88e7)))))
