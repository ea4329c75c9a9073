-- Telegrams: reading by places is correct and complete.
use Rattle.std.proofs.Common.{◌≡◌, ◌≤◌, ◌<◌, ℕ, ◌+◌, ◌-◌, List, [], ◌∷◌, ◌++◌, length, take, drop, slice_index, Some, Ok, refl, sym, ap, ◌∙◌, arith, append_assoc}
use Rattle.std.proofs.Math.ListN.{replicate}
use Rattle.std.proofs.Math.Seq.{take-append_seam, drop-append_seam}
use Rattle.std.proofs.lemmas.Bool.{le-ltb}
use Rattle.std.proofs.lemmas.List.{length-take, length-append, length-drop, length-replicate, drop-drop, take-append-drop}
use Rattle.byteorder.specs.Endian.{little_number}
use Rattle.octets.proofs.Fields.{FitOctets, Splits, Splits-then, field_at, field_below, field_reads}
use Rattle.octets.specs.declared.limits.TheConstants.{MESSAGE_MIN, MESSAGE_MAX, NAME_LENGTH, FILLING}
use Rattle.pdi_session.specs.declared.telegram.TheConstants.{KIND, RECEIVER, SENDER}
use Rattle.pdi_session.specs.telegram.Names.{IsName, fill_name}
use Rattle.pdi_session.specs.telegram.Places.{IsSized, name_seen, receiver_field, sender_field, tele_seen}
use Rattle.pdi_session.specs.telegram.Tele.{Tele}
use Rattle.pdi_session.specs.telegram.TeleText.{TeleText}
use Rattle.pdi_session.proofs.NameLemmas.{filled_seen}

-- the fields are at their places
pub record Reads (t : Tele) (octets : List ℕ) : Type 0 where
  pub protocol : t.protocol ≡ slice_index octets 0
  pub kind : t.kind ≡ little_number 2 (drop KIND octets)
  pub sender : sender_field octets ≡ fill_name t.sender
  pub receiver : receiver_field octets ≡ fill_name t.receiver
  pub payload : t.payload ≡ drop MESSAGE_MIN octets

pub length-filled : (name : List ℕ) → IsName name → length (fill_name name) ≡ NAME_LENGTH
length-filled name is =
    omega (
      arith,
      is.1,
      length-append name (replicate (NAME_LENGTH - length name) FILLING),
      length-replicate (NAME_LENGTH - length name) FILLING,
    )

first_octet : (xs : List ℕ) → 0 < length xs → Splits xs (slice_index xs 0 ∷ []) (drop 1 xs)
first_octet [] some = absurd (omega arith)
first_octet (x ∷ xs) some = record { parts = refl }

cut_at : (place n : ℕ) (xs : List ℕ) → Splits (drop place xs) (take n (drop place xs)) (drop (place + n) xs)
cut_at place n xs = record { parts = rw (← drop-drop n place xs) (sym (take-append-drop n (drop place xs))) }

-- bytes read by places are the encoding of what was read
pub tele_spelled : (t : Tele) (octets : List ℕ) → FitOctets octets → IsSized octets → Reads t octets → IsName t.sender
    → IsName t.receiver
    → TeleText t octets
tele_spelled t octets fits sized reads sender receiver =
    let a = first_octet octets (omega (arith, sized.0)) in
    let b = Splits-then a (field_at 2 KIND t.kind octets fits (omega (arith, sized.0)) reads.kind) in
    let c = Splits-then b (cut_at SENDER NAME_LENGTH octets) in
    let d = Splits-then c (cut_at RECEIVER NAME_LENGTH octets) in
    record {
      protocol = let octet = fits 0 in rw reads.protocol (omega arith);
      kind = field_below 2 KIND t.kind octets fits reads.kind;
      sender = sender;
      receiver = receiver;
      payload = rw reads.payload (omega (arith, sized.1, length-drop MESSAGE_MIN octets));
      spelled = rw (← reads.protocol, reads.sender, reads.receiver, ← reads.payload) at d.parts;
    }

-- a front of known length, and what follows it
pub front_of : (n : ℕ) (a b xs : List ℕ) → xs ≡ a ++ b → length a ≡ n → take n xs ≡ a
front_of n a b xs e long = rw (e, ← long) (take-append_seam a b)

pub rest_of : (n : ℕ) (a b xs : List ℕ) → xs ≡ a ++ b → length a ≡ n → drop n xs ≡ b
rest_of n a b xs e long = rw (e, ← long) (drop-append_seam a b)

-- in an encoding the fields are at their places
pub text_reads : (t : Tele) (octets : List ℕ) → TeleText t octets → Reads t octets
text_reads t octets text =
    let s : List ℕ = fill_name t.sender in
    let r : List ℕ = fill_name t.receiver in
    let long-s : length s ≡ NAME_LENGTH = length-filled t.sender text.sender in
    let long-r : length r ≡ NAME_LENGTH = length-filled t.receiver text.receiver in
    let behind-kind : drop SENDER octets ≡ s ++ (r ++ t.payload) = ap (drop 3) text.spelled
    ∙ append_assoc s r t.payload in
    let behind-sender : drop RECEIVER octets ≡ r ++ t.payload =
    sym (drop-drop NAME_LENGTH SENDER octets)
    ∙ rest_of NAME_LENGTH s (r ++ t.payload) (drop SENDER octets) behind-kind long-s
    in
    let behind-receiver : drop MESSAGE_MIN octets ≡ t.payload =
    sym (drop-drop NAME_LENGTH RECEIVER octets)
    ∙ rest_of NAME_LENGTH r t.payload (drop RECEIVER octets) behind-sender long-r
    in
    record {
      protocol = sym (ap (λ (xs : List ℕ). slice_index xs 0) text.spelled);
      kind = sym (field_reads 2 t.kind (drop KIND octets) ((s ++ r) ++ t.payload) text.kind (ap (drop 1) text.spelled));
      sender = front_of NAME_LENGTH s (r ++ t.payload) (drop SENDER octets) behind-kind long-s;
      receiver = front_of NAME_LENGTH r t.payload (drop RECEIVER octets) behind-sender long-r;
      payload = sym behind-receiver;
    }

made_of : ℕ → ℕ → List ℕ → List ℕ → List ℕ → Tele
made_of protocol kind sender receiver payload =
    record { protocol = protocol; kind = kind; sender = sender; receiver = receiver; payload = payload }

same_made : (p q : Tele) → p.protocol ≡ q.protocol → p.kind ≡ q.kind → p.sender ≡ q.sender → p.receiver ≡ q.receiver
    → p.payload ≡ q.payload
    → made_of p.protocol p.kind p.sender p.receiver p.payload ≡ made_of q.protocol q.kind q.sender q.receiver q.payload
same_made p q protocol kind sender receiver payload = cc

pub same_tele : (p q : Tele) → p.protocol ≡ q.protocol → p.kind ≡ q.kind → p.sender ≡ q.sender → p.receiver ≡ q.receiver
    → p.payload ≡ q.payload → p ≡ q
unfolding made_of
same_tele p q protocol kind sender receiver payload = same_made p q protocol kind sender receiver payload

-- a name read at a place is the name encoded there
same_name : (field read name : List ℕ) → Some read ≡ name_seen field → IsName name → field ≡ fill_name name
    → read ≡ name
same_name field read name seen is spelled = let again = filled_seen name field is spelled in cc

-- an encoding is read as its telegram
pub tele_only : (p q : Tele) (octets : List ℕ) → TeleText q octets → p.protocol ≡ slice_index octets 0
    → p.kind ≡ little_number 2 (drop KIND octets)
    → Some p.sender ≡ name_seen (sender_field octets) → Some p.receiver ≡ name_seen (receiver_field octets)
    → p.payload ≡ drop MESSAGE_MIN octets → p ≡ q
tele_only p q octets text protocol kind sender receiver payload =
    let reads = text_reads q octets text in
    same_tele p q (protocol ∙ sym reads.protocol) (kind ∙ sym reads.kind)
    (same_name (sender_field octets) p.sender q.sender sender text.sender reads.sender)
    (same_name (receiver_field octets) p.receiver q.receiver receiver text.receiver reads.receiver)
    (payload ∙ sym reads.payload)

-- an accepted encoding has one telegram
pub one_value : (p q : Tele) (octets : List ℕ) → TeleText p octets → TeleText q octets → p ≡ q
one_value p q octets a b =
    let reads = text_reads p octets a in
    tele_only p q octets b reads.protocol reads.kind
    (sym (filled_seen p.sender (sender_field octets) a.sender reads.sender))
    (sym (filled_seen p.receiver (receiver_field octets) a.receiver reads.receiver)) reads.payload

-- an encoding is read by its places
pub tele_read : (t : Tele) (octets : List ℕ) → TeleText t octets → tele_seen octets ≡ Ok t
unfolding tele_seen
tele_read t octets text =
    let reads = text_reads t octets text in
    let sender = filled_seen t.sender (sender_field octets) text.sender reads.sender in
    let receiver = filled_seen t.receiver (receiver_field octets) text.receiver reads.receiver in
    let long : MESSAGE_MIN ≤ length octets =
    omega (
      arith,
      ap length reads.receiver,
      length-take NAME_LENGTH (drop RECEIVER octets),
      length-drop RECEIVER octets,
      length-filled t.receiver text.receiver,
    )
    in
    let short : length octets ≤ MESSAGE_MAX = omega (
      arith,
      long,
      text.payload,
      ap length reads.payload,
      length-drop MESSAGE_MIN octets,
    ) in
    rw (le-ltb (length octets) MESSAGE_MIN long, le-ltb MESSAGE_MAX (length octets) short, sender, receiver)
    (ap Ok
    (same_tele
    (
    record {
      protocol = slice_index octets 0;
      kind = little_number 2 (drop KIND octets);
      sender = t.sender;
      receiver = t.receiver;
      payload = drop MESSAGE_MIN octets;
    }
    )
    t (sym reads.protocol) (sym reads.kind) refl refl (sym reads.payload)))
