-- Bytes that are read field by field are the encoding.
use Rattle.std.proofs.Common.{◌≡◌, ◌≤◌, ℕ, ◌+◌, List, length, drop, arith}
use Rattle.std.proofs.lemmas.List.{length-drop}
use Rattle.byteorder.specs.Endian.{little_number}
use Rattle.octets.proofs.Fields.{FitOctets, Splits-then, field_at, field_below}
use Rattle.octets.specs.declared.limits.TheConstants.{RED_HEADER, RED_PDU_MAX}
use Rattle.red_layer.specs.pdu.RedText.{RedText, length_field, reserve_field}

pub red_spelled : (seq : ℕ) (upper octets : List ℕ) → FitOctets octets → RED_HEADER ≤ length octets
    → length_field octets ≡ length octets
    → length octets ≤ RED_PDU_MAX → reserve_field octets ≡ 0 → seq ≡ little_number 4 (drop 4 octets)
    → upper ≡ drop RED_HEADER octets
    → RedText seq upper octets
red_spelled seq upper octets fits long said most reserve seq-is upper-is =
    let whole : RED_HEADER + length upper ≡ little_number 2 octets = rw upper-is
    (omega (arith, length-drop RED_HEADER octets)) in
    let zero : 0 ≡ reserve_field octets = omega arith in
    let a = field_at 2 0 (RED_HEADER + length upper) octets fits (omega arith) whole in
    let b = Splits-then a (field_at 2 2 0 octets fits (omega arith) zero) in
    let c = Splits-then b (field_at 4 4 seq octets fits (omega arith) seq-is) in
    record { seq_fits = field_below 4 4 seq octets fits seq-is; size = most; spelled = rw (← upper-is) at c.parts }
