-- How an end came to be closed: who disconnected, why and when.
use Rattle.std.specs.Prelude.{ℕ, ◌+◌, Bool, true, false, nat_le, nat_lt, Option, Some, None, List, length, drop, slice_index, if◌then◌else◌}
use Rattle.byteorder.specs.Endian.{little_number}
use Rattle.octets.specs.declared.limits.TheConstants.{SAFE_HEADER}
use Rattle.safe_pdu.specs.LeavingNumbers.{detail_number, reason_number}
use Rattle.safe_machine.specs.declared.Step.{Step as Outcome}
use Rattle.safe_machine.specs.declared.Step.TheVariants.{Left}
use Rattle.safe_pdu.specs.declared.reasons.Detail.{Detail}
use Rattle.safe_pdu.specs.declared.reasons.Detail.TheVariants.{VersionDiffers}
use Rattle.stack_end.specs.Dialogue.{Leaving}
use Rattle.stack_end.specs.declared.departure.TheConstants.{VERSION}
use Rattle.stack_end.specs.declared.departure.Departure.{Departure}
use Rattle.stack_end.specs.declared.departure.Leaver.TheVariants.{Own, Peer}

-- the departure of an end that disconnects by itself
abbrev pub own_leaving : Leaving → (now : ℕ) → Departure
own_leaving why now =
    record { by = Own; reason = reason_number why.0; detail = detail_number why.1; time = now; version = None }

-- the departure of an end that disconnects by itself, if it has a reason to
abbrev pub own_departure : Option Leaving → (now : ℕ) → Option Departure
own_departure None now = None
own_departure (Some why) now = Some (own_leaving why now)

-- the little-endian number in the two bytes from a place on, or 0 if the bytes end before
abbrev pub number_at : ℕ → List ℕ → ℕ
number_at place octets = if nat_lt (length octets) (place + 2) then 0 else little_number 2 (drop place octets)

-- the departure by the peer, from the bytes of its DiscReq: detail in the two bytes after the header, then reason
abbrev pub peer_leaving : List ℕ → (now : ℕ) → Departure
peer_leaving octets now =
    record {
      by = Peer;
      reason = number_at (SAFE_HEADER + 2) octets;
      detail = number_at SAFE_HEADER octets;
      time = now;
      version = None;
    }

-- the departure by the peer, if it has disconnected
abbrev pub peer_departure : Bool → List ℕ → (now : ℕ) → Option Departure
peer_departure true octets now = Some (peer_leaving octets now)
peer_departure false octets now = None

-- the version in a part whose unit begins with the reply to a version check: after the PDU's header, the message's
-- length and header, and the result
abbrev pub version_in : List ℕ → Option ℕ
version_in octets = if nat_le (length octets) VERSION then None else Some (slice_index octets VERSION)

-- the peer's version, if the versions differ
abbrev pub version_if : Detail → List ℕ → Option ℕ
version_if VersionDiffers octets = version_in octets
version_if _ octets = None

-- the departure of an end that disconnects because of a unit: if the versions differ, with the peer's version, which is
-- in the unit's first message
abbrev pub asked_leaving : Leaving → List ℕ → (now : ℕ) → Departure
asked_leaving why octets now = record (own_leaving why now) { version = version_if why.1 octets }

-- the departure for what the session asks; if it asks nothing, by the peer, if the machine has been closed (shut)
abbrev pub asked_departure : Option Leaving → (shut : Bool) → List ℕ → (now : ℕ) → Option Departure
asked_departure None shut octets now = peer_departure shut octets now
asked_departure (Some why) shut octets now = Some (asked_leaving why octets now)

-- the departure at a part: the machine's own reason first, then that of the session, then the peer's
abbrev pub part_departure : Outcome → Option Leaving → (shut : Bool) → List ℕ → (now : ℕ) → Option Departure
part_departure (Left reason detail) asked shut octets now = Some (own_leaving (reason, detail) now)
part_departure _ asked shut octets now = asked_departure asked shut octets now

-- the recorded departure: the latest known cause
abbrev pub known_departure : (cause before : Option Departure) → Option Departure
known_departure None before = before
known_departure (Some departure) before = Some departure
