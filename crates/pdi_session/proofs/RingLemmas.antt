-- Messages in a ring of places: the place at a distance from the first one, and a place that moves to the end.
use Rattle.std.proofs.Common.{Bool, if◌then◌else◌, ◌≡◌, ◌<◌, ◌≤◌, ℕ, zero, suc, ◌+◌, ◌-◌, List, [], ◌∷◌, ◌++◌, drop, take, length, slice_get, Some, refl, ap, sym, subst, ◌∙◌, arith}
use Rattle.std.proofs.lemmas.List.{length-append, take-append-le}
use Rattle.std.proofs.lemmas.List.Elements.{All-drop}
use Rattle.arrayvec.specs.ArrayVec.{ArrayVec}
use Rattle.pdi_session.specs.packing.UnitText.{AreMessages, IsMessage, piece}
use Rattle.pdi_session.specs.packing.Ring.{IsMoved, messages_of_places}
use Rattle.pdi_session.specs.TelegramCounts.{is_item, items_in}
use Rattle.pdi_session.specs.telegram.Places.{tele_seen}

-- the first place moves to the end, and one place less is in use: those in use are the same but for the first
pub rotated : {X : Type 0} (xs : List X) (x : X) (count : ℕ) → count ≤ length xs
    → take (count - 1) (drop 1 xs ++ x ∷ []) ≡ drop 1 (take count xs)
rotated [] x zero le = refl
rotated [] x (suc n) le = absurd (omega arith)
rotated (y ∷ xs) x zero le = refl
rotated (y ∷ xs) x (suc n) le = let less : suc n - 1 ≡ n = omega arith in rw less
    (take-append-le n xs (x ∷ []) (omega arith))

-- the message in the place at a distance from the first one
pub message_at : (ps : List (ArrayVec ℕ)) (i count : ℕ) (p : ArrayVec ℕ) → slice_get ps i ≡ Some p → i < count
    → slice_get (messages_of_places (take count ps)) i ≡ Some p.items
message_at [] i count p e lt = absurd cc
message_at (q ∷ ps) i zero p e lt = absurd (omega arith)
message_at (q ∷ ps) zero (suc n) p e lt = let same : q ≡ p = cc in rw same refl
message_at (q ∷ ps) (suc i) (suc n) p e lt = message_at ps i n p e (omega arith)

first_and_rest : (ms : List (List ℕ)) (m : List ℕ) → slice_get ms 0 ≡ Some m → ms ≡ m ∷ drop 1 ms
first_and_rest [] m e = absurd cc
first_and_rest (n ∷ ms) m e = let same : n ≡ m = cc in rw same refl

messages-rest : (ps : List (ArrayVec ℕ)) → messages_of_places (drop 1 ps) ≡ drop 1 (messages_of_places ps)
messages-rest [] = refl
messages-rest (p ∷ ps) = refl

head_is : (xs : List (List ℕ)) (x : List ℕ) (rest : List (List ℕ)) → xs ≡ x ∷ rest → AreMessages xs → IsMessage x
head_is xs x rest e all = subst (λ (ys : List (List ℕ)). AreMessages ys) e all 0 [] (omega arith)

-- the first message, moved to the end of a unit
pub moved : (ps left : List (ArrayVec ℕ)) (count : ℕ) (p : ArrayVec ℕ) (message unit more : List ℕ)
    (old : List (List ℕ))
    → slice_get ps 0 ≡ Some p → 0 < count → message ≡ p.items
    → AreMessages (messages_of_places (take count ps))
    → messages_of_places (take count ps) ≡ old → left ≡ drop 1 (take count ps)
    → more ≡ unit ++ piece message → IsMoved old unit (messages_of_places left) more
moved ps left count p message unit more old at some is all before rest put =
    let front = first_and_rest (messages_of_places (take count ps)) p.items (message_at ps 0 count p at some) in
    let behind : messages_of_places left ≡ drop 1 (messages_of_places (take count ps)) =
    ap messages_of_places rest ∙ messages-rest (take count ps) in
    let whole : messages_of_places (take count ps) ≡ message ∷ messages_of_places left = rw (is, behind) front in
    record {
      message = message;
      first = sym before ∙ whole;
      sized = head_is (messages_of_places (take count ps)) message (messages_of_places left) whole all;
      put = put;
    }

pub all_rest : (ps left : List (ArrayVec ℕ)) (count : ℕ) → AreMessages (messages_of_places (take count ps))
    → left ≡ drop 1 (take count ps) → AreMessages (messages_of_places left)
all_rest ps left count all rest =
    rw (ap messages_of_places rest ∙ messages-rest (take count ps))
    (All-drop IsMessage 1 (messages_of_places (take count ps)) all)

-- after the turn there are as many places as before
pub length-rotated : {X : Type 0} (xs : List X) (x : X) → 0 < length xs → length (drop 1 xs ++ x ∷ []) ≡ length xs
length-rotated [] x some = absurd (omega arith)
length-rotated (y ∷ xs) x some = omega (arith, length-append xs (x ∷ []))

-- the message at a distance is counted, and then those after it
next_items : (ms : List (List ℕ)) (i : ℕ) (m : List ℕ) → slice_get ms i ≡ Some m
    → items_in (drop i ms) ≡ (if is_item (tele_seen m) then 1 else 0) + items_in (drop (suc i) ms)
next_items [] i m e = absurd cc
next_items (n ∷ ms) zero m e = let same : n ≡ m = cc in rw same refl
next_items (n ∷ ms) (suc i) m e = next_items ms i m e

pub items_next : (ps : List (ArrayVec ℕ)) (i count : ℕ) (p : ArrayVec ℕ) (message : List ℕ) (is : Bool)
    → slice_get ps i ≡ Some p → i < count → message ≡ p.items → is ≡ is_item (tele_seen message)
    → items_in (drop i (messages_of_places (take count ps)))
    ≡ (if is then 1 else 0) + items_in (drop (i + 1) (messages_of_places (take count ps)))
items_next ps i count p message is at lt same test =
    let more : i + 1 ≡ suc i = omega arith in
    rw (more, test, same)
    (next_items (messages_of_places (take count ps)) i p.items (message_at ps i count p at lt))
