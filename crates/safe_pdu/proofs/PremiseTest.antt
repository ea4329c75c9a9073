-- Bytes that read as a PDU, and the test of the bytes that pass an end's check of identifiers and safety code.
use Rattle.std.proofs.Common.{◌≡◌, ◌+◌, ◌-◌, ℕ, length, take, drop, sym, ap, ◌∙◌}
use Rattle.std.proofs.lemmas.Bool.Decides.{Decides-eqb, Decides-and, Decides-like}
use Rattle.std.proofs.lemmas.Slice.Eq.{bytes_eq-Decides}
use Rattle.octets.proofs.ByIndex.{fit-octets}
use Rattle.octets.specs.declared.limits.TheConstants.{SAFE_HEADER}
use Rattle.safe_pdu.specs.declared.CodeLength.{CodeLength}
use Rattle.safe_pdu.specs.SafeText.{code_octets, code_over}
use Rattle.safe_pdu.specs.Places.{front_size, front_of, code_of, field, is_asked}
use Rattle.safe_pdu.specs.Laws.{ReadLaw, ReadAlikeLaw, ReadAskedLaw, AskedLaw}
use Rattle.safe_pdu.proofs.SafeLemmas.{safe_spelled, one_reading, Decides-nat_le}
use Rattle.safe_pdu.proofs.ReadByField.{is_read}

pub read_law : ReadLaw
read_law p rule octets octs e =
    let k = is_read rule octets p e in
    safe_spelled p rule octets (fit-octets octets octs) k.sized k.coded k.reads k.body k.fits

pub read_alike_law : ReadAlikeLaw
read_alike_law p q r s octets same hp hq =
    let a = is_read r octets p hp in
    let b = is_read s octets q hq in
    let cut : front_size r octets ≡ front_size s octets = ap (λ (n : CodeLength). length octets - code_octets n) same in
    one_reading p q octets a.reads b.reads (a.body ∙ ap (λ (n : ℕ). drop SAFE_HEADER (take n octets)) cut ∙ sym b.body)

pub read_asked_law : ReadAskedLaw
read_asked_law p rule own peer octets e for_own of_peer =
    let k = is_read rule octets p e in
    record {
      long = k.sized.long;
      receiver = sym k.reads.receiver ∙ for_own;
      sender = sym k.reads.sender
          ∙ of_peer;
      coded = k.coded;
    }

pub asked_law : AskedLaw
asked_law rule own peer octets =
    Decides-like (is_asked rule own peer octets)
    (λ h. record { long = h.0; receiver = h.1.0.0; sender = h.1.0.1; coded = h.1.1 })
    (λ k. (k.long, ((k.receiver, k.sender), k.coded)))
    (Decides-and _ _ (Decides-nat_le (SAFE_HEADER + code_octets rule.length) (length octets))
    (Decides-and _ _ (Decides-and _ _ (Decides-eqb (field 4 octets) own) (Decides-eqb (field 8 octets) peer))
    (bytes_eq-Decides (code_of rule octets) (code_over rule (front_of rule octets)))))
