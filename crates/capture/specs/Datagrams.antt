-- A decoded datagram, by the definitions of its decoders.
use Rattle.byteorder.specs.Endian.{little_number}
use Rattle.std.specs.Prelude.{ℕ, ◌+◌, ◌*◌, ◌%◌, ◌^◌, List, [], ◌∷◌, fold, Option, Some, None, Result, Ok, Err}
use Rattle.red_layer.specs.declared.pdu.RedFault.{RedFault}
use Rattle.red_layer.specs.pdu.RedText.{red_seen}
use Rattle.safe_pdu.specs.declared.CodeRule.{CodeRule}
use Rattle.safe_pdu.specs.declared.Kind.{Kind}
use Rattle.safe_pdu.specs.declared.Kind.TheVariants.{DiscReq}
use Rattle.safe_pdu.specs.declared.Leaving.{Leaving}
use Rattle.safe_pdu.specs.declared.SafeFault.{SafeFault}
use Rattle.safe_pdu.specs.Pdu.{Pdu}
use Rattle.safe_pdu.specs.Bodies.{detail_of, reason_of}
use Rattle.safe_pdu.specs.Places.{safe_seen}
use Rattle.capture.specs.declared.datagram.Header.{Header}
use Rattle.capture.specs.declared.datagram.TheConstants.{FINGERPRINT_BASE}
use Rattle.capture.specs.declared.datagram.DecodedDatagram.{DecodedDatagram}
use Rattle.capture.specs.declared.datagram.DecodedDatagram.TheVariants as heard

-- Reason and detail of a DiscReq; nothing for other types.
abbrev pub leaving_of : Kind → List ℕ → Option Leaving
leaving_of DiscReq body = Some (record { detail = detail_of body; reason = reason_of body })
leaving_of _ body = None

-- The digits of bytes: each four bytes are one number, least significant byte first; each of the up to three bytes that
-- are left is one.
abbrev pub digits_of : List ℕ → List ℕ
digits_of (a ∷ b ∷ c ∷ d ∷ more) = little_number 4 (a ∷ b ∷ c ∷ d ∷ []) ∷ digits_of more
digits_of rest = rest

-- The fingerprint with one more digit, modulo 2^64.
abbrev pub with_digit : ℕ → ℕ → ℕ
with_digit fingerprint digit = (fingerprint * FINGERPRINT_BASE % 2 ^ 64 + digit) % 2 ^ 64

-- The fingerprint of bytes: the number that their digits spell to a large base, after a leading 1 and modulo 2^64.
abbrev pub fingerprint_of : List ℕ → ℕ
fingerprint_of octets = fold with_digit 1 (digits_of octets)

-- The header fields of a safety PDU, with this fingerprint.
abbrev pub header_of : Pdu → ℕ → Header
header_of p fingerprint =
    record {
      kind = p.kind;
      receiver = p.receiver;
      sender = p.sender;
      sn = p.sn;
      cs = p.cs;
      ts = p.ts;
      cts = p.cts;
      fingerprint = fingerprint;
      leaving = leaving_of p.kind p.body;
    }

-- A redundancy PDU with this number around this part.
abbrev pub datagram_above : ℕ → List ℕ → Result Pdu SafeFault → DecodedDatagram
datagram_above seq upper (Ok p) = heard.Pdu seq (header_of p (fingerprint_of upper))
datagram_above seq upper (Err fault) = heard.NoSafe seq fault

-- The datagram in a redundancy PDU that was decoded, or its fault.
abbrev pub datagram_with : CodeRule → Result (ℕ × List ℕ) RedFault → DecodedDatagram
datagram_with rule (Ok p) = datagram_above p.0 p.1 (safe_seen rule p.1)
datagram_with rule (Err fault) = heard.NoRed fault

-- A datagram, decoded with this rule of the safety code.
abbrev pub datagram_of : CodeRule → List ℕ → DecodedDatagram
datagram_of rule octets = datagram_with rule (red_seen octets)
