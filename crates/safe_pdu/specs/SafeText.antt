-- The grammar of a safety PDU: header, a body that fits the PDU type, safety code.
use Rattle.std.specs.Prelude.{◌≡◌, ◌<◌, ◌≤◌, ◌^◌, ◌&&◌, ℕ, ◌+◌, nat_lt, nat_le, Bool, List, ◌++◌, length, take}
use Rattle.std.specs.Str.{bytes_eq}
use Rattle.byteorder.specs.Endian.{little_bytes}
use Rattle.octets.specs.declared.limits.TheConstants.{SAFE_HEADER, SAFE_FRONT_MAX}
use Rattle.md4.specs.Digest.{digest}
use Rattle.safe_pdu.specs.declared.CodeLength.{CodeLength}
use Rattle.safe_pdu.specs.declared.CodeLength.TheVariants.{Zero, Eight, Sixteen}
use Rattle.safe_pdu.specs.declared.CodeRule.{CodeRule}
use Rattle.safe_pdu.specs.Pdu.{Pdu, kind_number}
use Rattle.safe_pdu.specs.Bodies.{IsBody, is_body}

-- the number of bytes of the safety code
abbrev pub code_octets : CodeLength → ℕ
code_octets Zero = 0
code_octets Eight = 8
code_octets Sixteen = 16

-- the safety code of bytes: the first bytes of their MD4 digest
abbrev pub code_over : CodeRule → List ℕ → List ℕ
code_over rule front = take (code_octets rule.length) (digest rule.initial_value front)

-- each number fits its field of four bytes
pub record HasNumbers (p : Pdu) : Type 0 where
  pub receiver : p.receiver < 256 ^ 4
  pub sender : p.sender < 256 ^ 4
  pub sn : p.sn < 256 ^ 4
  pub cs : p.cs < 256 ^ 4
  pub ts : p.ts < 256 ^ 4
  pub cts : p.cts < 256 ^ 4

-- the eight header fields in order, with the given size of the whole PDU
abbrev pub header : ℕ → Pdu → List ℕ
header size p =
    little_bytes 2 size ++ little_bytes 2 (kind_number p.kind) ++ little_bytes 4 p.receiver ++ little_bytes 4 p.sender
    ++ little_bytes 4 p.sn ++ little_bytes 4 p.cs ++ little_bytes 4 p.ts ++ little_bytes 4 p.cts

-- the header and the body: the bytes before the safety code
abbrev pub front_text : CodeRule → Pdu → List ℕ
front_text rule p = header (SAFE_HEADER + length p.body + code_octets rule.length) p ++ p.body

-- the encoding of a PDU: header, body and safety code
abbrev pub safe_text : CodeRule → Pdu → List ℕ
safe_text rule p = front_text rule p ++ code_over rule (front_text rule p)

-- the bytes are the encoding of a valid PDU with these fields, under these safety code settings
pub record SafeText (p : Pdu) (rule : CodeRule) (octets : List ℕ) : Type 0 where
  -- each number fits its field
  pub numbers : HasNumbers p
  -- the body fits the PDU type
  pub body : IsBody p.kind p.body
  -- there are at most 1,234 bytes and the safety code
  pub size : length octets ≤ SAFE_FRONT_MAX + code_octets rule.length
  -- the bytes are the header, the body and the safety code
  pub spelled : octets ≡ safe_text rule p

-- the test of `HasNumbers`
abbrev pub has_numbers : Pdu → Bool
has_numbers p =
    nat_lt p.receiver (256 ^ 4) && (nat_lt p.sender (256 ^ 4) && (nat_lt p.sn (256 ^ 4)
    && (nat_lt p.cs (256 ^ 4) && (nat_lt p.ts (256 ^ 4) && nat_lt p.cts (256 ^ 4)))))

-- the test of `SafeText`
abbrev pub is_text : Pdu → CodeRule → List ℕ → Bool
is_text p rule octets =
    has_numbers p && (is_body p.kind p.body && (nat_le (length octets) (SAFE_FRONT_MAX + code_octets rule.length)
    && bytes_eq octets (safe_text rule p)))
