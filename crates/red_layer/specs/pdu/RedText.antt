-- The redundancy PDU: the grammar of its bytes, its faults, and its fields by their places (redundancy layer of DIN VDE
-- V 0831-200:2015; the layout is the profile's, docs/protocol.md).
use Rattle.std.specs.Prelude.{◌≡◌, ◌≢◌, ◌==◌, ◌⊎◌, ◌<◌, ◌≤◌, ◌^◌, ℕ, ◌+◌, List, ◌++◌, length, drop, nat_lt, if◌then◌else◌, Result, Ok, Err}
use Rattle.byteorder.specs.Endian.{little_bytes, little_number}
use Rattle.octets.specs.declared.limits.TheConstants.{RED_HEADER, RED_PDU_MAX}
use Rattle.red_layer.specs.declared.pdu.RedFault.{RedFault}
use Rattle.red_layer.specs.declared.pdu.RedFault.TheVariants.{Short, Length, Reserve}
use Rattle.red_layer.specs.declared.pdu.RedPdu.{RedPdu}

-- the encoding: length, reserve, sequence number, payload
abbrev pub red_text : ℕ → List ℕ → List ℕ
red_text seq upper = little_bytes 2 (RED_HEADER + length upper) ++ little_bytes 2 0 ++ little_bytes 4 seq ++ upper

-- the bytes are the encoding of a redundancy PDU with this sequence number and payload
pub record RedText (seq : ℕ) (upper octets : List ℕ) : Type 0 where
  pub seq_fits : seq < 256 ^ 4
  pub size : length octets ≤ RED_PDU_MAX
  pub spelled : octets ≡ red_text seq upper

-- the length field: the number in the first two bytes
abbrev pub length_field : List ℕ → ℕ
length_field octets = little_number 2 octets

-- the reserve: the number in the two bytes after the length field
abbrev pub reserve_field : List ℕ → ℕ
reserve_field octets = little_number 2 (drop 2 octets)

-- the sequence number: the number in the four bytes after the reserve
abbrev pub seq_field : List ℕ → ℕ
seq_field octets = little_number 4 (drop 4 octets)

-- the header is there, the length field is the number of bytes, and there are at most 1,258
abbrev pub IsSized : List ℕ → Type 0
IsSized octets = (RED_HEADER ≤ length octets) × (length_field octets ≡ length octets) × (length octets ≤ RED_PDU_MAX)

-- the bytes have this fault, and no earlier one of the order Short, Length, Reserve
abbrev pub FirstFault : List ℕ → RedFault → Type 0
FirstFault octets Short = length octets < RED_HEADER
FirstFault octets Length =
    (RED_HEADER ≤ length octets) × ((length_field octets ≢ length octets) ⊎ (RED_PDU_MAX < length octets))
FirstFault octets Reserve = IsSized octets × (reserve_field octets ≢ 0)

-- the sequence number and the payload read field by field, or the first fault
abbrev pub red_seen : List ℕ → Result (ℕ × List ℕ) RedFault
red_seen octets =
    if nat_lt (length octets) RED_HEADER then Err Short
    else if nat_lt RED_PDU_MAX (length octets) then Err Length
    else if length_field octets == length octets then
    (if reserve_field octets == 0 then Ok (seq_field octets, drop RED_HEADER octets) else Err Reserve)
    else Err Length

-- the result of the decoder, without its place in memory
abbrev pub seen_of : Result RedPdu RedFault → Result (ℕ × List ℕ) RedFault
seen_of (Ok pdu) = Ok (pdu.seq, pdu.upper.now)
seen_of (Err fault) = Err fault
