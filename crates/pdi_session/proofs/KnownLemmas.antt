-- Known names: a pair consists of two, and a place with the bytes of one has that name.
use Rattle.std.proofs.Common.{◌≡◌, ◌≤◌, ℕ, [], ◌&&◌, Bool, true, false, IsTrue, ◌-◌, ◌+◌, refl, List, ◌++◌, length, take, drop, Some, Ok, sym, ap, ◌∙◌, arith}
use Rattle.std.proofs.Math.ListN.{replicate}
use Rattle.std.proofs.Math.Seq.{take-append_seam, drop-append_seam, take-add}
use Rattle.std.proofs.lemmas.List.{drop-drop, drop-take, take-take, take_all}
use Rattle.std.proofs.lemmas.Bool.{le-ltb}
use Rattle.std.specs.List.{slice_index}
use Rattle.byteorder.specs.Endian.{little_number}
use Rattle.octets.specs.declared.limits.TheConstants.{MESSAGE_MAX, MESSAGE_MIN, NAME_LENGTH, FILLING}
use Rattle.pdi_session.specs.declared.telegram.TheConstants.{KIND}
use Rattle.pdi_session.specs.telegram.Known.{IsField, IsPair, first_name, second_name}
use Rattle.octets.proofs.Fields.{FitOctets, field_at}
use Rattle.pdi_session.specs.telegram.Names.{IsName, fill_name}
use Rattle.pdi_session.specs.telegram.Places.{name_seen, receiver_field, sender_field, tele_seen}
use Rattle.pdi_session.specs.telegram.Tele.{Tele}
use Rattle.pdi_session.proofs.NameLemmas.{filled_seen}
use Rattle.pdi_session.proofs.TeleLemmas.{length-filled, same_tele}

field_made : (field name : List ℕ) → IsName name → field ≡ fill_name name → IsField (length name) field
field_made field name is e =
    let front : take (length name) field ≡ name = rw e
    (take-append_seam name (replicate (NAME_LENGTH - length name) FILLING)) in
    (rw front is, e ∙ ap fill_name (sym front), ap length front)

-- the names written one after the other
pub record Written (octets one other : List ℕ) : Type 0 where
  pub front : take NAME_LENGTH octets ≡ fill_name one
  pub behind : drop NAME_LENGTH octets ≡ fill_name other

pub written : (octets first none one other : List ℕ) → IsName one → length octets ≡ 40
    → take 20 first ≡ none ++ fill_name one → none ≡ []
    → take 40 octets ≡ take 20 first ++ fill_name other → Written octets one other
written octets first none one other is long before nothing after =
    let whole : octets ≡ fill_name one ++ fill_name other =
    sym (take_all 40 octets (omega (arith, long)))
    ∙ after
    ∙ ap (λ (front : List ℕ). front ++ fill_name other) (before ∙ ap (λ (xs : List ℕ). xs ++ fill_name one) nothing)
    in
    let size = length-filled one is in
    record {
      front = ap (take NAME_LENGTH) whole ∙ ap (λ (n : ℕ). take n (fill_name one ++ fill_name other)) (sym size)
          ∙ take-append_seam (fill_name one) (fill_name other);
      behind = ap (drop NAME_LENGTH) whole ∙ ap (λ (n : ℕ). drop n (fill_name one ++ fill_name other)) (sym size)
          ∙ drop-append_seam (fill_name one) (fill_name other);
    }

pub pair_made : (octets one other : List ℕ) → IsName one → IsName other → length octets ≡ 40 → Written octets one other
    → IsPair octets (length one) (length other)
pair_made octets one other is also long w = (
  field_made (take NAME_LENGTH octets) one is w.front,
  field_made (drop NAME_LENGTH octets) other also w.behind,
  long,
)

-- a place with the bytes of a field
pub record Holds (size : ℕ) (octets : List ℕ) : Type 0 where
  pub is : IsName (take size octets)
  pub seen : name_seen (take NAME_LENGTH octets) ≡ Some (take size octets)

pub holds : (size : ℕ) (field octets : List ℕ) → IsField size field → take NAME_LENGTH octets ≡ field
    → Holds size octets
holds size field octets known there =
    let few : size ≤ NAME_LENGTH = omega (arith, known.0.1, known.2) in
    let same : take size octets ≡ take size field = sym (take-take size NAME_LENGTH octets few)
    ∙ ap (take size) there in
    record {
      is = rw same known.0;
      seen =
          rw same (filled_seen (take size field) (take NAME_LENGTH octets) known.0 (there ∙ known.1));
    }

-- the place of both names
pub there_front : (octets pair : List ℕ) → take 40 octets ≡ pair → take NAME_LENGTH octets ≡ take NAME_LENGTH pair
there_front octets pair e = sym (take-take NAME_LENGTH 40 octets (omega arith)) ∙ ap (take NAME_LENGTH) e

pub there_behind : (octets pair : List ℕ) → take 40 octets ≡ pair
    → take NAME_LENGTH (drop NAME_LENGTH octets) ≡ drop NAME_LENGTH pair
there_behind octets pair e = sym (drop-take NAME_LENGTH NAME_LENGTH octets) ∙ ap (drop NAME_LENGTH) e

pub all_same : (xs ys : List ℕ) (i : ℕ) → length xs ≡ 40 → length ys ≡ 40 → 40 ≤ i → take i xs ≡ take i ys → xs ≡ ys
all_same xs ys i long also past same = sym (take_all i xs (omega arith)) ∙ same ∙ take_all i ys (omega arith)

-- bytes with valid names are read as the fields at their places
pub known_read : (octets sender receiver : List ℕ) (t : Tele) → MESSAGE_MIN ≤ length octets
    → length octets ≤ MESSAGE_MAX
    → name_seen (sender_field octets) ≡ Some sender → name_seen (receiver_field octets) ≡ Some receiver
    → t.protocol ≡ slice_index octets 0
    → t.kind ≡ little_number 2 (drop KIND octets) → t.sender ≡ sender → t.receiver ≡ receiver
    → t.payload ≡ drop MESSAGE_MIN octets
    → Ok t ≡ tele_seen octets
unfolding tele_seen
known_read octets sender receiver t long short one other protocol kind from to payload =
    rw (le-ltb (length octets) MESSAGE_MIN long, le-ltb MESSAGE_MAX (length octets) short, one, other)
    (ap Ok
    (same_tele t
    (
    record {
      protocol = slice_index octets 0;
      kind = little_number 2 (drop KIND octets);
      sender = sender;
      receiver = receiver;
      payload = drop MESSAGE_MIN octets;
    }
    )
    protocol kind from to payload))

-- bytes with the names of a pair
pub holds_front : (octets pair : List ℕ) (sender receiver : ℕ) → IsPair pair sender receiver
    → take 40 (drop 3 octets) ≡ pair → Holds sender (drop 3 octets)
holds_front octets pair sender receiver is e =
    holds sender (take NAME_LENGTH pair) (drop 3 octets) is.0 (there_front (drop 3 octets) pair e)

pub holds_behind : (octets pair : List ℕ) (sender receiver : ℕ) → IsPair pair sender receiver
    → take 40 (drop 3 octets) ≡ pair
    → Holds receiver (drop 23 octets)
holds_behind octets pair sender receiver is e =
    let there : take NAME_LENGTH (drop 23 octets) ≡ drop NAME_LENGTH pair =
    ap (take NAME_LENGTH) (sym (drop-drop 20 3 octets)) ∙ there_behind (drop 3 octets) pair e
    in
    holds receiver (drop NAME_LENGTH pair) (drop 23 octets) is.1 there

-- a place with a field's bytes is read as the name of the field
held : (size : ℕ) (field octets : List ℕ) → IsField size field → take NAME_LENGTH octets ≡ field
    → take size octets ≡ take size field
held size field octets known there =
    let few : size ≤ NAME_LENGTH = omega (arith, known.0.1, known.2) in
    sym (take-take size NAME_LENGTH octets few) ∙ ap (take size) there

pub held_front : (octets pair : List ℕ) (sender receiver : ℕ) → IsPair pair sender receiver
    → take 40 (drop 3 octets) ≡ pair
    → take sender (drop 3 octets) ≡ first_name pair sender
held_front octets pair sender receiver is e =
    held sender (take NAME_LENGTH pair) (drop 3 octets) is.0 (there_front (drop 3 octets) pair e)

pub held_behind : (octets pair : List ℕ) (sender receiver : ℕ) → IsPair pair sender receiver
    → take 40 (drop 3 octets) ≡ pair
    → take receiver (drop 23 octets) ≡ second_name pair receiver
held_behind octets pair sender receiver is e =
    let there : take NAME_LENGTH (drop 23 octets) ≡ drop NAME_LENGTH pair =
    ap (take NAME_LENGTH) (sym (drop-drop 20 3 octets)) ∙ there_behind (drop 3 octets) pair e
    in
    held receiver (drop NAME_LENGTH pair) (drop 23 octets) is.1 there

-- eight more bytes are equal
more_alike : (at : ℕ) (xs ys : List ℕ) → take at xs ≡ take at ys → take 8 (drop at xs) ≡ take 8 (drop at ys)
    → take (at + 8) xs ≡ take (at + 8) ys
more_alike at xs ys front next = take-add at 8 xs ∙ ap (λ (zs : List ℕ). zs ++ take 8 (drop at xs)) front
    ∙ ap (λ (zs : List ℕ). take at ys ++ zs) next ∙ sym (take-add at 8 ys)

pub five_alike : (xs ys : List ℕ) → length xs ≡ 40 → length ys ≡ 40 → take 8 (drop 0 xs) ≡ take 8 (drop 0 ys)
    → take 8 (drop 8 xs) ≡ take 8 (drop 8 ys)
    → take 8 (drop 16 xs) ≡ take 8 (drop 16 ys) → take 8 (drop 24 xs) ≡ take 8 (drop 24 ys)
    → take 8 (drop 32 xs) ≡ take 8 (drop 32 ys) → xs ≡ ys
five_alike xs ys long also a b c d e =
    all_same xs ys 40 long also (omega arith)
    (more_alike 32 xs ys (more_alike 24 xs ys (more_alike 16 xs ys (more_alike 8 xs ys a b) c) d) e)

-- eight bytes that read as the same number are equal
pub eight_alike : (xs ys : List ℕ) (at : ℕ) → FitOctets xs → FitOctets ys → at + 8 ≤ length xs → at + 8 ≤ length ys
    → little_number 8 (drop at xs) ≡ little_number 8 (drop at ys) → take 8 (drop at xs) ≡ take 8 (drop at ys)
eight_alike xs ys at fits also long deep e =
    ap (take 8) (field_at 8 at (little_number 8 (drop at xs)) xs fits long refl).parts
    ∙ sym (ap (take 8) (field_at 8 at (little_number 8 (drop at xs)) ys also deep e).parts)

-- both tests of a pair hold
pub and_both : (a b : Bool) → IsTrue (a && b) → IsTrue a × IsTrue b
and_both true b h = (refl, h)
and_both false b h = cc

-- the names of what was written
pub made_front : (octets one other : List ℕ) → Written octets one other → first_name octets (length one) ≡ one
made_front octets one other w =
    ap (take (length one)) w.front ∙ take-append_seam one (replicate (NAME_LENGTH - length one) FILLING)

pub made_behind : (octets one other : List ℕ) → Written octets one other → second_name octets (length other) ≡ other
made_behind octets one other w =
    ap (take (length other)) w.behind ∙ take-append_seam other (replicate (NAME_LENGTH - length other) FILLING)
