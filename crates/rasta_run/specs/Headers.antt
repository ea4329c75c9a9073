-- The fields of a datagram, in bytes that may not be a PDU at all.
use Rattle.std.specs.Prelude.{ℕ, ◌+◌, ◌-◌, ◌||◌, nat_eq, nat_lt, List, [], length, take, drop, Option, Some, None, if◌then◌else◌}
use Rattle.byteorder.specs.Endian.{little_number}
use Rattle.octets.specs.declared.limits.TheConstants.{LEAVING_BODY, OPENING_BODY}
use Rattle.safe_pdu.specs.declared.Kind.{Kind}
use Rattle.safe_pdu.specs.declared.Kind.TheVariants.{ConnReq, ConnResp, RetrReq, RetrResp, DiscReq, Heartbeat, Data, RetrData}
use Rattle.safe_pdu.specs.Places.{kind_of}
use Rattle.rasta_run.specs.declared.header.Header.{Header}

-- the number of this size in bytes at a place, the least significant byte first
abbrev pub number_at : ℕ → ℕ → List ℕ → ℕ
number_at size place octets = little_number size (drop place octets)

-- the type of the safety PDU, if there are enough bytes and a type has this number
abbrev pub kind_seen : List ℕ → Option Kind
kind_seen octets = if nat_lt (length octets) 12 then None else kind_of (number_at 2 10 octets)

-- the length of the body of a PDU of this type, if all have the same
abbrev pub body_length : Kind → Option ℕ
body_length ConnReq = Some OPENING_BODY
body_length ConnResp = Some OPENING_BODY
body_length RetrReq = Some 0
body_length RetrResp = Some 0
body_length DiscReq = Some LEAVING_BODY
body_length Heartbeat = Some 0
body_length Data = None
body_length RetrData = None

-- the same, if there is a type
abbrev pub body_of_kind : Option Kind → Option ℕ
body_of_kind None = None
body_of_kind (Some kind) = body_length kind

-- a length that a safety code can have, in bytes
abbrev pub if_code : ℕ → Option ℕ
if_code n = if nat_eq n 0 || (nat_eq n 8 || nat_eq n 16) then Some n else None

-- the length of the safety code in so many bytes after the headers, if the body before it has this length
abbrev pub code_after : (size : ℕ) → (body : Option ℕ) → Option ℕ
code_after size None = None
code_after size (Some body) = if nat_lt size (36 + body) then None else if_code (size - (36 + body))

-- the length of the safety code of a datagram, if its type and its length tell it
abbrev pub code_seen : List ℕ → Option ℕ
code_seen octets = code_after (length octets) (body_of_kind (kind_seen octets))

-- the four bytes where a ConnReq or ConnResp has its version, if there are enough bytes
abbrev pub version_seen : List ℕ → Option ℕ
version_seen octets = if nat_lt (length octets) 40 then None else Some (number_at 4 36 octets)

-- the redundancy number, the identifiers of the safety PDU after the eight bytes of the redundancy layer, the length of
-- the safety code, and the version, if there are enough bytes
abbrev pub header_seen : List ℕ → Option Header
header_seen octets =
    if nat_lt (length octets) 20 then None
    else Some record {
      number = number_at 4 4 octets;
      receiver = number_at 4 12 octets;
      sender = number_at 4 16 octets;
      code = code_seen octets;
      version = version_seen octets;
    }

-- the bytes between the headers of both layers and a safety code of this length, if there are enough
abbrev pub body_seen : List ℕ → (code : ℕ) → List ℕ
body_seen octets code =
    if nat_lt (length octets - code) 36 then []
    else take (length octets - code - 36) (drop 36 octets)
