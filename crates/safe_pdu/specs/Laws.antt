-- Laws of bytes that read as a PDU.
use Rattle.std.specs.Prelude.{◌≡◌, ◌↔◌, ℕ, IsTrue, List, Ok}
use Rattle.octets.specs.Octets.{AreOctets}
use Rattle.safe_pdu.specs.declared.CodeRule.{CodeRule}
use Rattle.safe_pdu.specs.Pdu.{Pdu}
use Rattle.safe_pdu.specs.SafeText.{SafeText}
use Rattle.safe_pdu.specs.Places.{IsAsked, is_asked, safe_seen}

-- bytes that read as a PDU are its encoding: the numbers fit their fields, and the body fits its PDU type
abbrev pub ReadLaw : Type 0
ReadLaw = (p : Pdu) (rule : CodeRule) (octets : List ℕ) → AreOctets octets → safe_seen rule octets ≡ Ok p
    → SafeText p rule octets

-- if bytes read as PDUs under two settings with equal lengths of the safety code, both PDUs are equal, even if the
-- initial values differ
abbrev pub ReadAlikeLaw : Type 0
ReadAlikeLaw = (p q : Pdu) (r s : CodeRule) (octets : List ℕ) → r.length ≡ s.length → safe_seen r octets ≡ Ok p
    → safe_seen s octets ≡ Ok q → p ≡ q

-- bytes that read as a PDU from an end's peer for this end pass its check of identifiers and safety code
abbrev pub ReadAskedLaw : Type 0
ReadAskedLaw = (p : Pdu) (rule : CodeRule) (own peer : ℕ) (octets : List ℕ) → safe_seen rule octets ≡ Ok p
    → p.receiver ≡ own → p.sender ≡ peer → IsAsked rule own peer octets

-- the test `is_asked` is true for exactly the bytes that `IsAsked` describes
abbrev pub AskedLaw : Type 0
AskedLaw = (rule : CodeRule) (own peer : ℕ) (octets : List ℕ)
    → IsTrue (is_asked rule own peer octets) ↔ IsAsked rule own peer octets
