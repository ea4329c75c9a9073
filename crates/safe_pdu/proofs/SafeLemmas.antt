-- Bytes that are read field by field are the encoding of the PDU, and an encoding is read as its PDU.
use Rattle.std.proofs.Common.{◌≡◌, ◌==◌, ◌<◌, ◌≤◌, ℕ, ◌+◌, ◌-◌, ◌^◌, List, ◌++◌, length, take, drop, refl, sym, ap, ◌∙◌, arith, Some, Bool, true, false, IsTrue, ◌&&◌, nat_le}
use Rattle.std.proofs.lemmas.Bool.Decides.{Decides-eqb, Decides-ltb, Decides-and, Decides-like, nat_tests}
use Rattle.std.specs.Bool.{Decides}
use Rattle.std.proofs.lemmas.Slice.Eq.{bytes_eq-Decides}
use Rattle.std.proofs.Math.Seq.{take-append_seam, drop-append_seam}
use Rattle.std.proofs.lemmas.List.{length-append, length-drop, length-take-le, take-append-drop}
use Rattle.octets.proofs.Fields.{FitOctets, Splits, Splits-then, field_at, field_below, field_reads, front_is}
use Rattle.octets.specs.declared.limits.TheConstants.{SAFE_HEADER, SAFE_FRONT_MAX, UNIT_MIN, UNIT_MAX, OPENING_BODY, LEAVING_BODY}
use Rattle.safe_pdu.specs.declared.Kind.{Kind}
use Rattle.safe_pdu.specs.declared.Kind.TheVariants.{ConnReq, ConnResp, RetrReq, RetrResp, DiscReq, Heartbeat, Data, RetrData}
use Rattle.safe_pdu.specs.declared.CodeLength.{CodeLength}
use Rattle.safe_pdu.specs.declared.CodeLength.TheVariants.{Zero, Eight, Sixteen}
use Rattle.safe_pdu.specs.declared.CodeRule.{CodeRule}
use Rattle.safe_pdu.specs.Pdu.{Pdu, kind_number}
use Rattle.safe_pdu.specs.SafeText.{SafeText, HasNumbers, code_octets, code_over, header, front_text, safe_text, has_numbers, is_text}
use Rattle.safe_pdu.specs.Bodies.{IsBody, is_opening, is_unit_sized}
use Rattle.md4.specs.Digest.{digest}
use Rattle.md4.proofs.DigestLemmas.{length-digest}
use Rattle.safe_pdu.specs.Places.{IsSized, IsAsked, HasCode, length_field, type_field, field, front_size, front_of, body_of, kind_of}

-- PDU type and numbers are those at their places
pub record Reads (p : Pdu) (octets : List ℕ) : Type 0 where
  pub kind : kind_number p.kind ≡ type_field octets
  pub receiver : p.receiver ≡ field 4 octets
  pub sender : p.sender ≡ field 8 octets
  pub sn : p.sn ≡ field 12 octets
  pub cs : p.cs ≡ field 16 octets
  pub ts : p.ts ≡ field 20 octets
  pub cts : p.cts ≡ field 24 octets

code_octets-le : (n : CodeLength) → code_octets n ≤ 16
code_octets-le Zero = omega arith
code_octets-le Eight = omega arith
code_octets-le Sixteen = omega arith

-- the safety code has the length of its settings
pub length-code_over : (rule : CodeRule) (front : List ℕ) → length (code_over rule front) ≡ code_octets rule.length
length-code_over rule front =
    let whole = length-digest rule.initial_value front in
    let most = code_octets-le rule.length in
    length-take-le (code_octets rule.length) (digest rule.initial_value front) (omega arith)

-- the header as it was read, and the bytes after it
header_at : (p : Pdu) (size : ℕ) (octets : List ℕ) → FitOctets octets → SAFE_HEADER ≤ length octets
    → size ≡ length_field octets → Reads p octets
    → Splits octets (header size p) (drop SAFE_HEADER octets)
header_at p size octets fits long said reads =
    let a = field_at 2 0 size octets fits (omega arith) said in
    let b = Splits-then a (field_at 2 2 (kind_number p.kind) octets fits (omega arith) reads.kind) in
    let c = Splits-then b (field_at 4 4 p.receiver octets fits (omega arith) reads.receiver) in
    let d = Splits-then c (field_at 4 8 p.sender octets fits (omega arith) reads.sender) in
    let e = Splits-then d (field_at 4 12 p.sn octets fits (omega arith) reads.sn) in
    let f = Splits-then e (field_at 4 16 p.cs octets fits (omega arith) reads.cs) in
    let g = Splits-then f (field_at 4 20 p.ts octets fits (omega arith) reads.ts) in
    Splits-then g (field_at 4 24 p.cts octets fits (omega arith) reads.cts)

-- each number fits its field
numbers_read : (p : Pdu) (octets : List ℕ) → FitOctets octets → Reads p octets → HasNumbers p
numbers_read p octets fits reads =
    record {
      receiver = field_below 4 4 p.receiver octets fits reads.receiver;
      sender = field_below 4 8 p.sender octets fits reads.sender;
      sn = field_below 4 12 p.sn octets fits reads.sn;
      cs = field_below 4 16 p.cs octets fits reads.cs;
      ts = field_below 4 20 p.ts octets fits reads.ts;
      cts = field_below 4 24 p.cts octets fits reads.cts;
    }

pub safe_spelled : (p : Pdu) (rule : CodeRule) (octets : List ℕ) → FitOctets octets → IsSized rule octets
    → HasCode rule octets
    → Reads p octets → p.body ≡ body_of rule octets → IsBody p.kind p.body → SafeText p rule octets
safe_spelled p rule octets fits sized coded reads body-is admitted =
    let n : ℕ = front_size rule octets in
    let size : ℕ = SAFE_HEADER + length p.body + code_octets rule.length in
    let long = sized.long in
    let said = sized.said in
    let cut : n ≡ SAFE_HEADER + length p.body =
    rw body-is (omega (arith, length-drop SAFE_HEADER (take n octets), length-take-le n octets (omega arith)))
    in
    let whole : size ≡ length_field octets = omega arith in
    let parts = header_at p size octets fits (omega arith) whole reads in
    let front : front_of rule octets ≡ front_text rule p = front_is SAFE_HEADER n (header size p) p.body octets
    parts.parts refl cut body-is in
    record {
      numbers = numbers_read p octets fits reads;
      body = admitted;
      size = sized.most;
      spelled =
          sym (take-append-drop n octets) ∙ ap (λ (c : List ℕ). front_of rule octets ++ c) coded
          ∙ ap (λ (f : List ℕ). f ++ code_over rule f) front;
    }

kind_small : (k : Kind) → kind_number k < 256 ^ 2
kind_small ConnReq = omega arith
kind_small ConnResp = omega arith
kind_small RetrReq = omega arith
kind_small RetrResp = omega arith
kind_small DiscReq = omega arith
kind_small Heartbeat = omega arith
kind_small Data = omega arith
kind_small RetrData = omega arith

-- an encoding has the fields of its PDU at their places
pub text_reads : (p : Pdu) (rule : CodeRule) (octets : List ℕ) → SafeText p rule octets → Reads p octets
text_reads p rule octets text =
    let t : List ℕ = safe_text rule p in
    let said : octets ≡ t = text.spelled in
    record {
      kind = sym (field_reads 2 (kind_number p.kind) (drop 2 octets) (drop 4 t) (kind_small p.kind) (ap (drop 2) said));
      receiver = sym (field_reads 4 p.receiver (drop 4 octets) (drop 8 t) text.numbers.receiver (ap (drop 4) said));
      sender = sym (field_reads 4 p.sender (drop 8 octets) (drop 12 t) text.numbers.sender (ap (drop 8) said));
      sn = sym (field_reads 4 p.sn (drop 12 octets) (drop 16 t) text.numbers.sn (ap (drop 12) said));
      cs = sym (field_reads 4 p.cs (drop 16 octets) (drop 20 t) text.numbers.cs (ap (drop 16) said));
      ts = sym (field_reads 4 p.ts (drop 20 octets) (drop 24 t) text.numbers.ts (ap (drop 20) said));
      cts = sym (field_reads 4 p.cts (drop 24 octets) (drop 28 t) text.numbers.cts (ap (drop 24) said));
    }

-- the length of an encoding
pub length-text : (p : Pdu) (rule : CodeRule)
    → length (safe_text rule p) ≡ SAFE_HEADER + length p.body + code_octets rule.length
length-text p rule =
    let front : List ℕ = front_text rule p in
    let size : ℕ = SAFE_HEADER + length p.body + code_octets rule.length in
    length-append front (code_over rule front)
    ∙ ap (λ (n : ℕ). n + length (code_over rule front)) (length-append (header size p) p.body)
    ∙ ap (λ (n : ℕ). SAFE_HEADER + length p.body + n) (length-code_over rule front)

-- the length field of an encoding is its length
pub text_sized : (p : Pdu) (rule : CodeRule) (octets : List ℕ) → SafeText p rule octets → IsSized rule octets
text_sized p rule octets text =
    let t : List ℕ = safe_text rule p in
    let size : ℕ = SAFE_HEADER + length p.body + code_octets rule.length in
    let many : length octets ≡ size = ap length text.spelled ∙ length-text p rule in
    let short = text.size in
    let most-code = code_octets-le rule.length in
    let small : size < 256 ^ 2 = omega arith in
    record {
      long = omega arith;
      said = field_reads 2 size octets (drop 2 t) small text.spelled
          ∙ sym many;
      most = short;
    }

-- the front and the safety code of an encoding
text_front : (p : Pdu) (rule : CodeRule) (octets : List ℕ) → SafeText p rule octets
    → (front_size rule octets ≡ length (front_text rule p)) × (front_of rule octets ≡ front_text rule p)
text_front p rule octets text =
    let front : List ℕ = front_text rule p in
    let size : ℕ = SAFE_HEADER + length p.body + code_octets rule.length in
    let length-front : length front ≡ SAFE_HEADER + length p.body = length-append (header size p) p.body in
    let many : length octets ≡ size = ap length text.spelled ∙ length-text p rule in
    let cut : front_size rule octets ≡ length front = omega arith in (
      cut,
      ap (λ (n : ℕ). take n octets) cut ∙ ap (take (length front)) text.spelled
          ∙ take-append_seam front (code_over rule front),
    )

-- the body of an encoding is at its place
pub text_body : (p : Pdu) (rule : CodeRule) (octets : List ℕ) → SafeText p rule octets → p.body ≡ body_of rule octets
text_body p rule octets text =
    let size : ℕ = SAFE_HEADER + length p.body + code_octets rule.length in
    sym (ap (drop SAFE_HEADER) (text_front p rule octets text).1 ∙ drop-append_seam (header size p) p.body)

-- an encoding has a valid safety code
pub text_coded : (p : Pdu) (rule : CodeRule) (octets : List ℕ) → SafeText p rule octets → HasCode rule octets
text_coded p rule octets text =
    let front : List ℕ = front_text rule p in
    let at = text_front p rule octets text in
    ap (λ (n : ℕ). drop n octets) at.0 ∙ ap (drop (length front)) text.spelled
    ∙ drop-append_seam front (code_over rule front)
    ∙ ap (code_over rule) (sym at.1)

-- the PDU type with the number of a type is this type
pub kind_of-number : (k : Kind) → kind_of (kind_number k) ≡ Some k
kind_of-number ConnReq = refl
kind_of-number ConnResp = refl
kind_of-number RetrReq = refl
kind_of-number RetrResp = refl
kind_of-number DiscReq = refl
kind_of-number Heartbeat = refl
kind_of-number Data = refl
kind_of-number RetrData = refl

-- two PDU types with the same number are equal
same_kind : (k l : Kind) → kind_number k ≡ kind_number l → k ≡ l
same_kind k l e =
    let found : Some k ≡ Some l = sym (kind_of-number k) ∙ ap kind_of e ∙ kind_of-number l in
    cc

made_of : Kind → ℕ → ℕ → ℕ → ℕ → ℕ → ℕ → List ℕ → Pdu
made_of kind receiver sender sn cs ts cts body =
    record { kind = kind; receiver = receiver; sender = sender; sn = sn; cs = cs; ts = ts; cts = cts; body = body }

same_made : (p q : Pdu) → p.kind ≡ q.kind → p.receiver ≡ q.receiver → p.sender ≡ q.sender → p.sn ≡ q.sn → p.cs ≡ q.cs
    → p.ts ≡ q.ts → p.cts ≡ q.cts
    → p.body ≡ q.body
    → made_of p.kind p.receiver p.sender p.sn p.cs p.ts p.cts p.body
    ≡ made_of q.kind q.receiver q.sender q.sn q.cs q.ts q.cts q.body
same_made p q kind receiver sender sn cs ts cts body = cc

-- two PDUs read from the same bytes with equal bodies are equal
pub one_reading : (p q : Pdu) (octets : List ℕ) → Reads p octets → Reads q octets → p.body ≡ q.body → p ≡ q
unfolding made_of
one_reading p q octets a b body =
    same_made p q (same_kind p.kind q.kind (a.kind ∙ sym b.kind)) (a.receiver ∙ sym b.receiver) (a.sender
    ∙ sym b.sender) (a.sn ∙ sym b.sn)
    (a.cs ∙ sym b.cs) (a.ts ∙ sym b.ts) (a.cts ∙ sym b.cts) body

-- an encoding has the fields of only one PDU
pub safe_only : (p q : Pdu) (rule : CodeRule) (octets : List ℕ) → SafeText q rule octets → Reads p octets
    → p.body ≡ body_of rule octets → p ≡ q
safe_only p q rule octets text reads body-is =
    one_reading p q octets reads (text_reads q rule octets text) (body-is ∙ sym (text_body q rule octets text))

-- both tests of a conjunction are true
pub and_both : (a b : Bool) → IsTrue (a && b) → IsTrue a × IsTrue b
and_both true b h = (refl, h)
and_both false b h = cc

le_by_test : (a b : ℕ) → nat_le a b ≡ true → a ≤ b
le_by_test a b h = grind (arith, nat_tests)

no_octets : (body : List ℕ) → IsTrue (length body == 0) → length body ≤ UNIT_MAX
no_octets body h = let none = (Decides-eqb (length body) 0).0 h in omega arith

opening : (body : List ℕ) → IsTrue (is_opening body) → length body ≤ UNIT_MAX
opening body h = let whole =
    (Decides-eqb (length body) OPENING_BODY).0 (and_both (length body == OPENING_BODY) _ h).0 in omega arith

unit_sized : (body : List ℕ) → IsTrue (is_unit_sized body) → length body ≤ UNIT_MAX
unit_sized body h = le_by_test (length body) UNIT_MAX (and_both (nat_le UNIT_MIN (length body)) _ h).1

-- no body is longer than the longest unit
pub length-body : (k : Kind) (body : List ℕ) → IsBody k body → length body ≤ UNIT_MAX
length-body ConnReq body fits = opening body fits
length-body ConnResp body fits = opening body fits
length-body RetrReq body fits = no_octets body fits
length-body RetrResp body fits = no_octets body fits
length-body DiscReq body fits = let whole = (Decides-eqb (length body) LEAVING_BODY).0 fits in omega arith
length-body Heartbeat body fits = no_octets body fits
length-body Data body fits = unit_sized body fits
length-body RetrData body fits = unit_sized body fits

-- header, body and safety code, written in order, are the encoding
pub safe_written : (p : Pdu) (rule : CodeRule) (headed bodied coded : List ℕ) → HasNumbers p → IsBody p.kind p.body
    → take SAFE_HEADER headed ≡ header (SAFE_HEADER + length p.body + code_octets rule.length) p
    → take (SAFE_HEADER + length p.body) bodied ≡ take SAFE_HEADER headed ++ p.body
    → take (SAFE_HEADER + length p.body + code_octets rule.length) coded
    ≡ take (SAFE_HEADER + length p.body) bodied ++ code_over rule (take (SAFE_HEADER + length p.body) bodied)
    → SafeText p rule (take (SAFE_HEADER + length p.body + code_octets rule.length) coded)
safe_written p rule headed bodied coded fits admitted header-is body-is code-is =
    let front : take (SAFE_HEADER + length p.body) bodied ≡ front_text rule p =
    body-is ∙ ap (λ (h : List ℕ). h ++ p.body) header-is
    in
    let spelled : take (SAFE_HEADER + length p.body + code_octets rule.length) coded ≡ safe_text rule p =
    code-is ∙ ap (λ (f : List ℕ). f ++ code_over rule f) front
    in
    let many = ap length spelled ∙ length-text p rule in
    let short = length-body p.kind p.body admitted in
    record { numbers = fits; body = admitted; size = omega arith; spelled = spelled }

-- bytes that encode PDUs under two settings with equal lengths of the safety code encode the same PDU
pub by_place : (p q : Pdu) (r s : CodeRule) (octets : List ℕ) → SafeText p r octets → SafeText q s octets
    → r.length ≡ s.length → p ≡ q
by_place p q r s octets a b same =
    let cut : front_size r octets ≡ front_size s octets = ap (λ (n : CodeLength). length octets - code_octets n) same in
    one_reading p q octets (text_reads p r octets a) (text_reads q s octets b)
    (text_body p r octets a ∙ ap (λ (n : ℕ). drop SAFE_HEADER (take n octets)) cut ∙ sym (text_body q s octets b))

-- an encoding with an end's identifiers passes that end's check
pub is_asked : (p : Pdu) (rule : CodeRule) (own peer : ℕ) (octets : List ℕ) → SafeText p rule octets → p.receiver ≡ own
    → p.sender ≡ peer
    → IsAsked rule own peer octets
is_asked p rule own peer octets text for_own of_peer =
    let reads = text_reads p rule octets text in
    record {
      long = (text_sized p rule octets text).long;
      receiver = sym reads.receiver ∙ for_own;
      sender = sym reads.sender ∙ of_peer;
      coded = text_coded p rule octets text;
    }

has_numbers-Decides : (p : Pdu) → Decides (has_numbers p) (HasNumbers p)
has_numbers-Decides p =
    Decides-like (has_numbers p) (λ h. record {
      receiver = h.0;
      sender = h.1.0;
      sn = h.1.1.0;
      cs = h.1.1.1.0;
      ts = h.1.1.1.1.0;
      cts = h.1.1.1.1.1;
    })
    (λ n. (n.receiver, (n.sender, (n.sn, (n.cs, (n.ts, n.cts))))))
    (Decides-and _ _ (Decides-ltb p.receiver (256 ^ 4))
    (Decides-and _ _ (Decides-ltb p.sender (256 ^ 4)) (Decides-and _ _ (Decides-ltb p.sn (256 ^ 4))
    (Decides-and _ _ (Decides-ltb p.cs (256 ^ 4))
    (Decides-and _ _ (Decides-ltb p.ts (256 ^ 4)) (Decides-ltb p.cts (256 ^ 4)))))))

pub Decides-nat_le : (a b : ℕ) → Decides (nat_le a b) (a ≤ b)
Decides-nat_le a b = (le_by_test a b, λ le. grind (arith, nat_tests))

-- the test `is_text` is true for exactly the encodings
pub is_text-Decides : (p : Pdu) (rule : CodeRule) (octets : List ℕ)
    → Decides (is_text p rule octets) (SafeText p rule octets)
is_text-Decides p rule octets =
    Decides-like (is_text p rule octets) (λ h. record {
      numbers = h.0;
      body = h.1.0;
      size = h.1.1.0;
      spelled = h.1.1.1;
    })
    (λ text. (text.numbers, (text.body, (text.size, text.spelled))))
    (Decides-and _ _ (has_numbers-Decides p) (Decides-and _ _ (λ h. h, λ h. h)
    (Decides-and _ _ (Decides-nat_le (length octets) (SAFE_FRONT_MAX + code_octets rule.length))
    (bytes_eq-Decides octets (safe_text rule p)))))
