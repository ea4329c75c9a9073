-- The bodies of the PDU types, and the values in them.
use Rattle.std.specs.Prelude.{ℕ, ◌==◌, ◌&&◌, nat_le, Bool, IsTrue, List, length, take, drop}
use Rattle.std.specs.List.{list_all}
use Rattle.byteorder.specs.Endian.{little_number}
use Rattle.octets.specs.declared.limits.TheConstants.{OPENING_BODY, LEAVING_BODY, WINDOW_MAX, UNIT_MIN, UNIT_MAX}
use Rattle.safe_pdu.specs.declared.Kind.{Kind}
use Rattle.safe_pdu.specs.declared.Kind.TheVariants.{ConnReq, ConnResp, RetrReq, RetrResp, DiscReq, Heartbeat, Data, RetrData}

-- the version in the body of a ConnReq or ConnResp: four ASCII digits
abbrev pub version_of : List ℕ → List ℕ
version_of body = take 4 body

-- the N_sendmax in the body of a ConnReq or ConnResp, after the version
abbrev pub window_of : List ℕ → ℕ
window_of body = little_number 2 (drop 4 body)

-- the detail in the body of a DiscReq
abbrev pub detail_of : List ℕ → ℕ
detail_of body = little_number 2 body

-- the reason in the body of a DiscReq, after the detail
abbrev pub reason_of : List ℕ → ℕ
reason_of body = little_number 2 (drop 2 body)

-- the byte is an ASCII digit
abbrev pub is_digit : ℕ → Bool
is_digit c = nat_le 48 c && nat_le c 57

-- the byte is zero
abbrev pub is_zero : ℕ → Bool
is_zero o = o == 0

-- the body of a ConnReq or ConnResp: a version of four digits, an N_sendmax from 1 to 32, eight zero bytes
abbrev pub is_opening : List ℕ → Bool
is_opening body =
    (length body == OPENING_BODY) && (nat_le 1 (window_of body) && (nat_le (window_of body) WINDOW_MAX
    && (list_all is_digit (version_of body) && list_all is_zero (drop 6 body))))

-- the body has the size of a unit, 45 to 1,206 bytes; the codec does not look into it
abbrev pub is_unit_sized : List ℕ → Bool
is_unit_sized body = nat_le UNIT_MIN (length body) && nat_le (length body) UNIT_MAX

-- the body fits the PDU type
abbrev pub is_body : Kind → List ℕ → Bool
is_body ConnReq body = is_opening body
is_body ConnResp body = is_opening body
is_body RetrReq body = length body == 0
is_body RetrResp body = length body == 0
is_body DiscReq body = length body == LEAVING_BODY
is_body Heartbeat body = length body == 0
is_body Data body = is_unit_sized body
is_body RetrData body = is_unit_sized body

-- the body fits the PDU type: the test `is_body` is true
abbrev pub IsBody : Kind → List ℕ → Type 0
IsBody kind body = IsTrue (is_body kind body)
