-- The UDP datagram of a frame: its link header, its packet.
use Rattle.std.specs.Prelude.{ℕ, ◌*◌, ◌/◌, ◌==◌, ◌&&◌, ◌||◌, Bool, nat_eq, List, if◌then◌else◌, Option, Some, None, Result, Err}
use Rattle.capture.specs.Places.{big_at, octet_at}
use Rattle.capture.specs.Packets.{in_ipv4, in_ipv6}
use Rattle.capture.specs.Encapsulations.{is_bridged, kind_at, innermost_packet}
use Rattle.capture.specs.declared.encapsulation.TheConstants.{IPV4, IPV6, NOTHING}
use Rattle.capture.specs.declared.frame.Link.{Link}
use Rattle.capture.specs.declared.frame.Link.TheVariants.{Ethernet, Cooked, Cooked2, Raw, Loopback}
use Rattle.capture.specs.declared.frame.FoundDatagram.{FoundDatagram}
use Rattle.capture.specs.declared.encapsulation.Packet.{Packet}
use Rattle.capture.specs.declared.frame.NoDatagramCause.{NoDatagramCause}
use Rattle.capture.specs.declared.frame.NoDatagramCause.TheVariants.{Truncated, NoIp, Tunnel}

-- The link header of a LINKTYPE number, if it is known.
abbrev pub link_of : ℕ → Option Link
link_of number =
    if nat_eq number 0 || nat_eq number 108 then Some Loopback
    else if nat_eq number 1 then Some Ethernet
    else if nat_eq number 12 || (nat_eq number 14 || (nat_eq number 101 || nat_eq number 228)) then Some Raw
    else if nat_eq number 113 then Some Cooked
    else if nat_eq number 276 then Some Cooked2
    else None

-- The packet after further headers, if there was a packet.
abbrev pub innermost_of : List ℕ → Option Packet → Option Packet
innermost_of octets (Some p) = innermost_packet octets p
innermost_of octets None = None

-- The EtherType of an IP version; `NOTHING` for others.
abbrev pub version_kind : ℕ → ℕ
version_kind version = if nat_eq version 4 then IPV4 else if nat_eq version 6 then IPV6 else NOTHING

-- The packet at the start of a raw frame, by the version in its first byte.
abbrev pub raw_with : Option ℕ → Option Packet
raw_with (Some first) = Some (record { kind = version_kind (first / 16); place = 0 })
raw_with None = None

-- The packet of a frame without a link header.
abbrev pub raw_at : List ℕ → Option Packet
raw_at octets = raw_with (octet_at 0 octets)

-- A protocol family in either byte order.
abbrev pub is_family : ℕ → ℕ → ℕ → Bool
is_family high low family = ((high == 0) && (low == family)) || ((high == family * 256) && (low == 0))

-- The EtherType of a family: 2 is IPv4; 24, 28 and 30 are IPv6, depending on the system.
abbrev pub family_kind : ℕ → ℕ → ℕ
family_kind high low =
    if is_family high low 2 then IPV4
    else if is_family high low 24 || (is_family high low 28 || is_family high low 30) then IPV6
    else NOTHING

-- The packet after the family of four bytes.
abbrev pub loopback_with : Option ℕ → Option ℕ → Option Packet
loopback_with (Some high) (Some low) = Some (record { kind = family_kind high low; place = 4 })
loopback_with _ _ = None

-- The packet of a loopback frame.
abbrev pub loopback_at : List ℕ → Option Packet
loopback_at octets = loopback_with (big_at 0 octets) (big_at 2 octets)

-- The packet of a frame, by its link header.
abbrev pub packet_of : Link → List ℕ → Option Packet
packet_of Ethernet octets = innermost_of octets (kind_at 12 14 octets)
packet_of Cooked octets = innermost_of octets (kind_at 14 16 octets)
packet_of Cooked2 octets = innermost_of octets (kind_at 0 20 octets)
packet_of Raw octets = raw_at octets
packet_of Loopback octets = loopback_at octets

-- Why a packet of another EtherType is passed over.
abbrev pub no_packet : ℕ → NoDatagramCause
no_packet kind = if is_bridged kind then Tunnel else NoIp

-- The datagram in a packet, by its EtherType; any other is passed over.
abbrev pub in_packet : List ℕ → Packet → Result FoundDatagram NoDatagramCause
in_packet octets p =
    if p.kind == IPV4 then in_ipv4 octets p.place
    else if p.kind == IPV6 then in_ipv6 octets p.place
    else Err (no_packet p.kind)

-- The datagram in the packet that was found; the frame is truncated if there is none.
abbrev pub datagram_in_packet : List ℕ → Option Packet → Result FoundDatagram NoDatagramCause
datagram_in_packet octets None = Err Truncated
datagram_in_packet octets (Some p) = in_packet octets p

-- The datagram of a frame, or why there is none.
abbrev pub datagram_in_frame : Link → List ℕ → Result FoundDatagram NoDatagramCause
datagram_in_frame link octets = datagram_in_packet octets (packet_of link octets)
