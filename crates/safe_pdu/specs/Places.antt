-- The fields of a safety PDU by their places, and the first fault of other bytes.
use Rattle.std.specs.Prelude.{◌≡◌, ◌≢◌, ◌==◌, ◌&&◌, ◌⊎◌, ◌<◌, ◌≤◌, ℕ, ◌+◌, ◌-◌, Bool, List, length, take, drop, nat_le, nat_lt, if◌then◌else◌, Option, Some, None, Result, Ok, Err}
use Rattle.std.specs.Str.{bytes_eq}
use Rattle.byteorder.specs.Endian.{little_number}
use Rattle.octets.specs.declared.limits.TheConstants.{SAFE_HEADER, SAFE_FRONT_MAX}
use Rattle.safe_pdu.specs.declared.Kind.{Kind}
use Rattle.safe_pdu.specs.declared.Kind.TheVariants.{ConnReq, ConnResp, RetrReq, RetrResp, DiscReq, Heartbeat, Data, RetrData}
use Rattle.safe_pdu.specs.declared.CodeRule.{CodeRule}
use Rattle.safe_pdu.specs.declared.SafeFault.{SafeFault}
use Rattle.safe_pdu.specs.declared.SafeFault.TheVariants.{Short, Length, Code, BadType, Body}
use Rattle.safe_pdu.specs.declared.SafePdu.{SafePdu}
use Rattle.safe_pdu.specs.Pdu.{Pdu, pdu_of, kind_number}
use Rattle.safe_pdu.specs.Bodies.{IsBody, is_body}
use Rattle.safe_pdu.specs.SafeText.{code_octets, code_over}

-- the length field: the number in the first two bytes
abbrev pub length_field : List ℕ → ℕ
length_field octets = little_number 2 octets

-- the number of the PDU type: the number in the two bytes after the length field
abbrev pub type_field : List ℕ → ℕ
type_field octets = little_number 2 (drop 2 octets)

-- the number in four bytes at a place
abbrev pub field : ℕ → List ℕ → ℕ
field place octets = little_number 4 (drop place octets)

-- how many bytes are before the safety code
abbrev pub front_size : CodeRule → List ℕ → ℕ
front_size rule octets = length octets - code_octets rule.length

-- all bytes before the safety code
abbrev pub front_of : CodeRule → List ℕ → List ℕ
front_of rule octets = take (front_size rule octets) octets

-- the safety code at the end
abbrev pub code_of : CodeRule → List ℕ → List ℕ
code_of rule octets = drop (front_size rule octets) octets

-- the bytes between the header and the safety code
abbrev pub body_of : CodeRule → List ℕ → List ℕ
body_of rule octets = drop SAFE_HEADER (front_of rule octets)

-- the size is valid
pub record IsSized (rule : CodeRule) (octets : List ℕ) : Type 0 where
  -- there are enough bytes for the header and the safety code
  pub long : SAFE_HEADER + code_octets rule.length ≤ length octets
  -- the length field is the number of bytes
  pub said : length_field octets ≡ length octets
  -- there are at most 1,234 bytes and the safety code
  pub most : length octets ≤ SAFE_FRONT_MAX + code_octets rule.length

-- the safety code is that of the bytes before it
abbrev pub HasCode : CodeRule → List ℕ → Type 0
HasCode rule octets = code_of rule octets ≡ code_over rule (front_of rule octets)

-- the PDU type with a number, if one has it
abbrev pub kind_of : ℕ → Option Kind
kind_of number =
    if number == 6200 then Some ConnReq
    else if number == 6201 then Some ConnResp
    else if number == 6212 then Some RetrReq
    else if number == 6213 then Some RetrResp
    else if number == 6216 then Some DiscReq
    else if number == 6220 then Some Heartbeat
    else if number == 6240 then Some Data
    else if number == 6241 then Some RetrData
    else None

-- the bytes have this fault, and no earlier one of the order Short, Length, Code, BadType, Body
abbrev pub FirstFault : CodeRule → List ℕ → SafeFault → Type 0
FirstFault rule octets Short = length octets < SAFE_HEADER + code_octets rule.length
FirstFault rule octets Length =
    (SAFE_HEADER + code_octets rule.length ≤ length octets)
    × ((length_field octets ≢ length octets) ⊎ (SAFE_FRONT_MAX + code_octets rule.length < length octets))
FirstFault rule octets Code = IsSized rule octets × (¬ HasCode rule octets)
FirstFault rule octets BadType =
    IsSized rule octets × HasCode rule octets × ((kind : Kind) → kind_number kind ≢ type_field octets)
FirstFault rule octets Body =
    IsSized rule octets × HasCode rule octets
    × ((kind : Kind) × (kind_number kind ≡ type_field octets) × (¬ IsBody kind (body_of rule octets)))

-- the test of `HasCode`
abbrev pub has_code : CodeRule → List ℕ → Bool
has_code rule octets = bytes_eq (code_of rule octets) (code_over rule (front_of rule octets))

-- the fields at their places in the header, with the given PDU type and body
abbrev pub read_as : Kind → List ℕ → List ℕ → Pdu
read_as kind octets body =
    record {
      kind = kind;
      receiver = field 4 octets;
      sender = field 8 octets;
      sn = field 12 octets;
      cs = field 16 octets;
      ts = field 20 octets;
      cts = field 24 octets;
      body = body;
    }

-- the fields at their places, with the given PDU type and the bytes between header and safety code as body
abbrev pub read_of : Kind → CodeRule → List ℕ → Pdu
read_of kind rule octets = read_as kind octets (body_of rule octets)

-- the PDU read with this type: BadType if there is no type, Body if the body does not fit it
abbrev pub read_kind : Option Kind → CodeRule → List ℕ → Result Pdu SafeFault
read_kind None rule octets = Err BadType
read_kind (Some kind) rule octets =
    if is_body kind (body_of rule octets) then Ok (read_of kind rule octets) else Err Body

-- the PDU read field by field, or the first fault
abbrev pub safe_seen : CodeRule → List ℕ → Result Pdu SafeFault
safe_seen rule octets =
    if nat_lt (length octets) (SAFE_HEADER + code_octets rule.length) then Err Short
    else if nat_lt (SAFE_FRONT_MAX + code_octets rule.length) (length octets) then Err Length
    else if length_field octets == length octets then
    (if has_code rule octets then read_kind (kind_of (type_field octets)) rule octets else Err Code)
    else Err Length

-- the result of the decoder, without its place in memory
abbrev pub seen_of : Result SafePdu SafeFault → Result Pdu SafeFault
seen_of (Ok pdu) = Ok (pdu_of pdu)
seen_of (Err fault) = Err fault

-- the bytes pass an end's check of identifiers and safety code; other fields are not checked
pub record IsAsked (rule : CodeRule) (own peer : ℕ) (octets : List ℕ) : Type 0 where
  -- there are enough bytes for the header and the safety code
  pub long : SAFE_HEADER + code_octets rule.length ≤ length octets
  -- the receiver is the end's own identifier
  pub receiver : field 4 octets ≡ own
  -- the sender is the peer's identifier
  pub sender : field 8 octets ≡ peer
  -- the safety code is valid
  pub coded : HasCode rule octets

-- the test of `IsAsked`
abbrev pub is_asked : CodeRule → (own peer : ℕ) → List ℕ → Bool
is_asked rule own peer octets =
    nat_le (SAFE_HEADER + code_octets rule.length) (length octets)
    && ((field 4 octets == own && field 8 octets == peer) && has_code rule octets)
