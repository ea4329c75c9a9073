-- Units: reading from the left is correct and complete, and the fault is the first one.
use Rattle.std.proofs.Common.{◌≡◌, ◌==◌, ◌≤◌, ◌<◌, ℕ, zero, suc, ◌+◌, ◌-◌, true, false, ◌&&◌, nat_le, List, [], ◌∷◌, ◌++◌, length, drop, Result, Ok, Err, IfOk, IfErr, IsOkAnd, Bor, refl, sym, ap, ◌∙◌, inl, inr, arith, append_assoc}
use Rattle.std.proofs.lemmas.Bool.{and_parts, cases_Bool, eqb-true, eqb-false, leb-true, le-leb, ne_eqb}
use Rattle.std.proofs.lemmas.List.{append-nil, nil_from_length, length-append, length-take, length-drop, take-append-drop, drop-drop}
use Rattle.std.proofs.lemmas.List.Elements.{All-nil, All-cons, All-head, All-tail}
use Rattle.std.proofs.Math.Seq.{take-append_seam, drop-append_seam}
use Rattle.arrayvec.specs.ArrayVec.{ArrayVec}
use Rattle.byteorder.specs.Endian.{little_bytes}
use Rattle.octets.proofs.Fields.{FitOctets, FitOctets-drop, Splits, Splits-then, field_at, field_reads}
use Rattle.octets.specs.declared.limits.TheConstants.{MESSAGE_LENGTH, MESSAGE_MIN, MESSAGE_MAX, UNIT_MESSAGES}
use Rattle.pdi_session.specs.declared.packing.PackFault.{PackFault}
use Rattle.pdi_session.specs.declared.packing.PackFault.TheVariants.{Empty, Length, TooMany}
use Rattle.pdi_session.specs.packing.UnitText.{AreMessages, IsMessage, UnitText, messages_of, piece, unit_text}
use Rattle.pdi_session.specs.packing.Places.{FirstFault, Goes, HoldsNoPiece, after, behind_first, first_message, is_piece, length_field, pieces_seen, seen_of, unit_seen}

-- the meaning of the test for a piece
record Stands (octets : List ℕ) : Type 0 where
  pub header : MESSAGE_LENGTH ≤ length octets
  pub least : MESSAGE_MIN ≤ length_field octets
  pub most : length_field octets ≤ MESSAGE_MAX
  pub whole : MESSAGE_LENGTH + length_field octets ≤ length octets

stands : (octets : List ℕ) → is_piece octets ≡ true → Stands octets
stands octets test =
    let a = and_parts (nat_le MESSAGE_LENGTH (length octets) && nat_le MESSAGE_MIN (length_field octets)
    && nat_le (length_field octets) MESSAGE_MAX)
    (nat_le (MESSAGE_LENGTH + length_field octets) (length octets)) test in
    let b = and_parts (nat_le MESSAGE_LENGTH (length octets) && nat_le MESSAGE_MIN (length_field octets))
    (nat_le (length_field octets) MESSAGE_MAX) a.0 in
    let c = and_parts (nat_le MESSAGE_LENGTH (length octets)) (nat_le MESSAGE_MIN (length_field octets)) b.0 in
    record {
      header = leb-true MESSAGE_LENGTH (length octets) c.0;
      least = leb-true MESSAGE_MIN (length_field octets) c.1;
      most = leb-true (length_field octets) MESSAGE_MAX b.1;
      whole = leb-true (MESSAGE_LENGTH + length_field octets) (length octets) a.1;
    }

length-first : (octets : List ℕ) → Stands octets → length (first_message octets) ≡ length_field octets
length-first octets s =
    omega (
      arith,
      s.whole,
      length-take (length_field octets) (drop MESSAGE_LENGTH octets),
      length-drop MESSAGE_LENGTH octets,
    )

first_sized : (octets : List ℕ) → is_piece octets ≡ true → IsMessage (first_message octets)
first_sized octets test =
    let s = stands octets test in
    let long = length-first octets s in
    (omega (arith, s.least), omega (arith, s.most))

-- bytes that start with a complete piece are that piece and the bytes after it
first_cut : (octets : List ℕ) → FitOctets octets → is_piece octets ≡ true
    → octets ≡ piece (first_message octets) ++ behind_first octets
first_cut octets fits test =
    let s = stands octets test in
    let size : ℕ = length_field octets in
    let front = field_at MESSAGE_LENGTH 0 size octets fits (omega (arith, s.header)) refl in
    let body : Splits (drop MESSAGE_LENGTH octets) (first_message octets) (behind_first octets) =
    record {
      parts = rw (← drop-drop size MESSAGE_LENGTH octets) (sym (take-append-drop size (drop MESSAGE_LENGTH octets)));
    }
    in
    (Splits-then front body).parts
    ∙ ap (λ (n : ℕ). little_bytes 2 n ++ first_message octets ++ behind_first octets) (sym (length-first octets s))

-- a piece at the start is read as that piece
record Seen (message behind octets : List ℕ) : Type 0 where
  pub test : is_piece octets ≡ true
  pub message_is : first_message octets ≡ message
  pub behind_is : behind_first octets ≡ behind

seen_sized : (message behind octets : List ℕ) → IsMessage message → length_field octets ≡ length message
    → drop MESSAGE_LENGTH octets ≡ message ++ behind → length octets ≡ MESSAGE_LENGTH + length message + length behind
    → Seen message behind octets
seen_sized message behind octets sized said body long =
    record {
      test =
          rw (
            le-leb MESSAGE_LENGTH (length octets) (omega arith),
            le-leb MESSAGE_MIN (length_field octets) (omega (arith, sized.0)),
            le-leb (length_field octets) MESSAGE_MAX (omega (arith, sized.1)),
            le-leb (MESSAGE_LENGTH + length_field octets) (length octets) (omega arith),
          )
          refl;
      message_is = rw (said, body) (take-append_seam message behind);
      behind_is = sym (drop-drop (length_field octets) MESSAGE_LENGTH octets)
          ∙ rw (said, body) (drop-append_seam message behind);
    }

seen_piece : (message behind octets : List ℕ) → IsMessage message → octets ≡ piece message ++ behind
    → Seen message behind octets
seen_piece message behind octets sized e =
    seen_sized message behind octets sized
    (field_reads 2 (length message) octets (message ++ behind) (omega (arith, sized.1)) e)
    (ap (drop 2) e)
    (ap length e ∙ omega (arith, length-append message behind))

-- there is no piece if the test is false
no_piece : (octets : List ℕ) → is_piece octets ≡ false → HoldsNoPiece octets
no_piece octets test message behind sized e = let seen = seen_piece message behind octets sized e in let yes =
    seen.test in cc

-- messages read before a result
record Ends (read : List (List ℕ)) (r : Result (List (List ℕ)) PackFault) (messages : List (List ℕ)) : Type 0 where
  pub rest : List (List ℕ)
  pub answer : r ≡ Ok rest
  pub whole : messages ≡ read ++ rest

after_ok : (read : List (List ℕ)) (r : Result (List (List ℕ)) PackFault) (messages : List (List ℕ))
    → after read r ≡ Ok messages → Ends read r messages
after_ok read (Ok rest) messages e = record { rest = rest; answer = refl; whole = cc }
after_ok read (Err f) messages e = absurd cc

after_err : (read : List (List ℕ)) (r : Result (List (List ℕ)) PackFault) (f : PackFault) → after read r ≡ Err f
    → r ≡ Err f
after_err read (Ok rest) f e = absurd cc
after_err read (Err g) f e = cc

after_nil : (r : Result (List (List ℕ)) PackFault) → after [] r ≡ r
after_nil (Ok rest) = refl
after_nil (Err f) = refl

after_after : (read more : List (List ℕ)) (r : Result (List (List ℕ)) PackFault)
    → after read (after more r) ≡ after (read ++ more) r
after_after read more (Ok rest) = ap Ok (sym (append_assoc read more rest))
after_after read more (Err f) = refl

-- the cases of a reading, by its two tests
at_end : (room : ℕ) (octets : List ℕ) → (length octets == 0) ≡ true → pieces_seen room octets ≡ Ok []
unfolding pieces_seen
at_end zero octets none = rw none refl
at_end (suc room) octets none = rw none refl

full : (octets : List ℕ) → (length octets == 0) ≡ false → pieces_seen zero octets ≡ Err TooMany
unfolding pieces_seen
full octets some = rw some refl

broken : (room : ℕ) (octets : List ℕ) → (length octets == 0) ≡ false → is_piece octets ≡ false
    → pieces_seen (suc room) octets ≡ Err Length
unfolding pieces_seen
broken room octets some test = rw (some, test) refl

one_more : (room : ℕ) (octets : List ℕ) → (length octets == 0) ≡ false → is_piece octets ≡ true
    → pieces_seen (suc room) octets ≡ after (first_message octets ∷ []) (pieces_seen room (behind_first octets))
unfolding pieces_seen
one_more room octets some test = rw (some, test) refl

-- the bytes of what is read are its encoding
record Found (room : ℕ) (messages : List (List ℕ)) (octets : List ℕ) : Type 0 where
  pub most : length messages ≤ room
  pub sized : AreMessages messages
  pub spelled : octets ≡ unit_text messages

found_none : (room : ℕ) (messages : List (List ℕ)) (octets : List ℕ) → octets ≡ [] → [] ≡ messages
    → Found room messages octets
found_none room messages octets none e =
    rw (← e) (record { most = omega arith; sized = All-nil IsMessage; spelled = none })

found_more : (room : ℕ) (message : List ℕ) (rest : List (List ℕ)) (behind octets : List ℕ) → IsMessage message
    → octets ≡ piece message ++ behind
    → Found room rest behind → Found (suc room) (message ∷ rest) octets
found_more room message rest behind octets sized e f =
    record {
      most = omega (arith, f.most);
      sized = All-cons IsMessage message rest sized f.sized;
      spelled = e ∙ ap (λ (b : List ℕ). piece message ++ b) f.spelled;
    }

pieces_found : (room : ℕ) (octets : List ℕ) (messages : List (List ℕ)) → FitOctets octets
    → pieces_seen room octets ≡ Ok messages
    → Found room messages octets
pieces_found zero octets messages fits seen =
    elim (cases_Bool (length octets == 0)) [
      | inl none ↦ let end = at_end zero octets none in found_none zero messages octets
          (nil_from_length octets (eqb-true (length octets) 0 none)) cc
      | inr some ↦ let fault = full octets some in absurd cc
    ]
pieces_found (suc room) octets messages fits seen =
    elim (cases_Bool (length octets == 0)) [
      | inl none ↦ let end = at_end (suc room) octets none in found_none (suc room) messages octets
          (nil_from_length octets (eqb-true (length octets) 0 none)) cc
      | inr some ↦ elim (cases_Bool (is_piece octets)) [
        | inr test ↦ let fault = broken room octets some test in absurd cc
        | inl test ↦
            let ends = after_ok (first_message octets ∷ []) (pieces_seen room (behind_first octets)) messages
            (sym (one_more room octets some test) ∙ seen) in
            rw ends.whole
            (found_more room (first_message octets) ends.rest (behind_first octets) octets (first_sized octets test)
            (first_cut octets fits test)
            (pieces_found room (behind_first octets) ends.rest
            (FitOctets-drop (MESSAGE_LENGTH + length_field octets) octets fits) ends.answer))
      ]
    ]

-- an encoding is read as what it encodes
pieces_only : (room : ℕ) (messages : List (List ℕ)) (octets : List ℕ) → length messages ≤ room → AreMessages messages
    → octets ≡ unit_text messages
    → pieces_seen room octets ≡ Ok messages
pieces_only room [] octets most sized e = at_end room octets (ap (λ (xs : List ℕ). length xs == 0) e)
pieces_only zero (message ∷ messages) octets most sized e = absurd (omega arith)
pieces_only (suc room) (message ∷ messages) octets most sized e =
    let seen = seen_piece message (unit_text messages) octets (All-head IsMessage message messages sized) e in
    let some = ne_eqb (length octets) 0 (let s = stands octets seen.test in omega (arith, s.header)) in
    let inner : pieces_seen room (behind_first octets) ≡ Ok messages =
    pieces_only room messages (behind_first octets) (omega arith) (All-tail IsMessage message messages sized)
    seen.behind_is
    in
    one_more room octets some seen.test ∙ ap (after (first_message octets ∷ [])) inner
    ∙ ap (λ (m : List ℕ). Ok (m ∷ messages)) seen.message_is

-- the fault is the first one
abbrev FaultAt : ℕ → List ℕ → PackFault → Type 0
FaultAt room octets Empty = ⊥
FaultAt room octets Length =
    (messages : List (List ℕ)) × (rest : List ℕ) × (length messages < room) × Goes messages rest octets
    × HoldsNoPiece rest
FaultAt room octets TooMany =
    (messages : List (List ℕ)) × (rest : List ℕ) × (length messages ≡ room) × Goes messages rest octets

goes_none : (octets : List ℕ) → (length octets == 0) ≡ false → Goes [] octets octets
goes_none octets some =
    record { sized = All-nil IsMessage; spelled = refl; some = λ e. eqb-false (length octets) 0 some (ap length e) }

goes_more : (message : List ℕ) (messages : List (List ℕ)) (rest behind octets : List ℕ) → IsMessage message
    → octets ≡ piece message ++ behind
    → Goes messages rest behind → Goes (message ∷ messages) rest octets
goes_more message messages rest behind octets sized e g =
    record {
      sized = All-cons IsMessage message messages sized g.sized;
      spelled = e ∙ ap (λ (b : List ℕ). piece message ++ b) g.spelled
          ∙ sym (append_assoc (piece message) (unit_text messages) rest);
      some = g.some;
    }

fault_more : (f : PackFault) (room : ℕ) (message behind octets : List ℕ) → IsMessage message
    → octets ≡ piece message ++ behind → FaultAt room behind f
    → FaultAt (suc room) octets f
fault_more Empty room message behind octets sized e h = h
fault_more Length room message behind octets sized e (messages, rest, most, goes, none) =
    (message ∷ messages, rest, omega arith, goes_more message messages rest behind octets sized e goes, none)
fault_more TooMany room message behind octets sized e (messages, rest, most, goes) =
    (message ∷ messages, rest, omega arith, goes_more message messages rest behind octets sized e goes)

pieces_fault : (room : ℕ) (octets : List ℕ) (f : PackFault) → FitOctets octets → pieces_seen room octets ≡ Err f
    → FaultAt room octets f
pieces_fault zero octets f fits seen =
    elim (cases_Bool (length octets == 0)) [
      | inl none ↦ let end = at_end zero octets none in absurd cc
      | inr some ↦ let fault = full octets some in let is : f ≡ TooMany =
          cc in rw is ([], octets, refl, goes_none octets some)
    ]
pieces_fault (suc room) octets f fits seen =
    elim (cases_Bool (length octets == 0)) [
      | inl none ↦ let end = at_end (suc room) octets none in absurd cc
      | inr some ↦ elim (cases_Bool (is_piece octets)) [
        | inr test ↦
            let fault = broken room octets some test in
            let is : f ≡ Length = cc in
            rw is ([], octets, omega arith, goes_none octets some, no_piece octets test)
        | inl test ↦
            let inner = after_err (first_message octets ∷ []) (pieces_seen room (behind_first octets)) f
            (sym (one_more room octets some test) ∙ seen) in
            fault_more f room (first_message octets) (behind_first octets) octets (first_sized octets test)
            (first_cut octets fits test)
            (pieces_fault room (behind_first octets) f
            (FitOctets-drop (MESSAGE_LENGTH + length_field octets) octets fits) inner)
      ]
    ]

-- the same of a whole unit
pub unit_none : (octets : List ℕ) → (length octets == 0) ≡ true → unit_seen octets ≡ Err Empty
unfolding unit_seen
unit_none octets none = rw none refl

pub unit_some : (octets : List ℕ) → (length octets == 0) ≡ false → unit_seen octets ≡ pieces_seen UNIT_MESSAGES octets
unfolding unit_seen
unit_some octets some = rw some refl

pub unit_only : (messages : List (List ℕ)) (octets : List ℕ) → UnitText messages octets → unit_seen octets ≡ Ok messages
unit_only messages octets text =
    let seen = pieces_only UNIT_MESSAGES messages octets text.most text.sized text.spelled in
    elim (cases_Bool (length octets == 0)) [
      | inl none ↦ let end = at_end UNIT_MESSAGES octets none in let some = text.some in let is : [] ≡ messages =
          cc in absurd (omega (arith, some, ap length is))
      | inr some ↦ unit_some octets some ∙ seen
    ]

carries_some : (messages : List (List ℕ)) (octets : List ℕ) → octets ≡ unit_text messages → (length octets == 0) ≡ false
    → 0 < length messages
carries_some [] octets e some = absurd (eqb-false (length octets) 0 some (ap length e))
carries_some (message ∷ messages) octets e some = omega arith

pub unit_found : (messages : List (List ℕ)) (octets : List ℕ) → FitOctets octets → Ok messages ≡ unit_seen octets
    → UnitText messages octets
unit_found messages octets fits seen =
    elim (cases_Bool (length octets == 0)) [
      | inl none ↦ let empty = unit_none octets none in absurd cc
      | inr some ↦
          let is = unit_some octets some in
          let found = pieces_found UNIT_MESSAGES octets messages fits (sym is ∙ sym seen) in
          record {
            some = carries_some messages octets found.spelled some;
            most = found.most;
            sized = found.sized;
            spelled = found.spelled;
          }
    ]

first_fault : (f : PackFault) (octets : List ℕ) → FaultAt UNIT_MESSAGES octets f → FirstFault octets f
first_fault Empty octets h = absurd h
first_fault Length octets h = h
first_fault TooMany octets h = h

pub unit_fault : (f : PackFault) (octets : List ℕ) → FitOctets octets → Err f ≡ unit_seen octets → FirstFault octets f
unit_fault f octets fits seen =
    elim (cases_Bool (length octets == 0)) [
      | inl none ↦
          let empty = unit_none octets none in
          let is : f ≡ Empty = cc in
          rw is (nil_from_length octets (eqb-true (length octets) 0 none))
      | inr some ↦
          let is = unit_some octets some in
          first_fault f octets (pieces_fault UNIT_MESSAGES octets f fits (sym is ∙ sym seen))
    ]

-- a result that is the value read meets every clause
pub answer_found : (r : Result (ArrayVec (Bor (List ℕ))) PackFault) (octets : List ℕ) → FitOctets octets
    → seen_of r ≡ unit_seen octets
    → IfOk r (λ messages. UnitText (messages_of messages) octets)
answer_found (Ok messages) octets fits seen = unit_found (messages_of messages) octets fits seen
answer_found (Err f) octets fits seen = tt

pub answer_only : (r : Result (ArrayVec (Bor (List ℕ))) PackFault) (octets : List ℕ) (ms : List (List ℕ))
    → seen_of r ≡ unit_seen octets
    → UnitText ms octets → IsOkAnd r (λ messages. messages_of messages ≡ ms)
answer_only (Ok messages) octets ms seen text = let reads = unit_only ms octets text in cc
answer_only (Err f) octets ms seen text = let reads = unit_only ms octets text in absurd cc

pub answer_fault : (r : Result (ArrayVec (Bor (List ℕ))) PackFault) (octets : List ℕ) → FitOctets octets
    → seen_of r ≡ unit_seen octets
    → IfErr r (FirstFault octets)
answer_fault (Ok messages) octets fits seen = tt
answer_fault (Err f) octets fits seen = unit_fault f octets fits seen

-- the next step: one more message is read, there is no room, there is no message, or all is read
pub read_more : (room : ℕ) (read : List (List ℕ)) (octets : List ℕ) → 0 < room → (length octets == 0) ≡ false
    → is_piece octets ≡ true
    → after read (pieces_seen room octets) ≡ after (read ++ first_message octets ∷ [])
    (pieces_seen (room - 1) (behind_first octets))
read_more zero read octets left some test = absurd (omega arith)
read_more (suc room) read octets left some test =
    let less : suc room - 1 ≡ room = omega arith in
    rw less
    (ap (after read) (one_more room octets some test)
    ∙ after_after read (first_message octets ∷ []) (pieces_seen room (behind_first octets)))

pub read_full : (room : ℕ) (read : List (List ℕ)) (octets : List ℕ) → room ≡ 0 → (length octets == 0) ≡ false
    → after read (pieces_seen room octets) ≡ Err TooMany
read_full room read octets none some = rw none (ap (after read) (full octets some))

pub read_broken : (room : ℕ) (read : List (List ℕ)) (octets : List ℕ) → 0 < room → (length octets == 0) ≡ false
    → is_piece octets ≡ false
    → after read (pieces_seen room octets) ≡ Err Length
read_broken zero read octets left some test = absurd (omega arith)
read_broken (suc room) read octets left some test = ap (after read) (broken room octets some test)

pub read_all : (room : ℕ) (read : List (List ℕ)) (octets : List ℕ) → (length octets == 0) ≡ true
    → after read (pieces_seen room octets) ≡ Ok read
read_all room read octets none = ap (after read) (at_end room octets none) ∙ ap Ok (append-nil read)

pub nothing_read : (room : ℕ) (octets : List ℕ) → after [] (pieces_seen room octets) ≡ pieces_seen room octets
nothing_read room octets = after_nil (pieces_seen room octets)
