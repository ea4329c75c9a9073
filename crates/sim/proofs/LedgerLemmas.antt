-- Which PDUs stay named, and the first one that is not.
use Rattle.std.proofs.Common.{◌≡◌, ◌+◌, ◌<◌, ◌≤◌, ◌&&◌, ◌++◌, ◌∙◌, ℕ, zero, suc, Bool, true, false, not, List, [], ◌∷◌, length, take, get_or, set, map, filter, slice_get, refl, sym, ap, arith}
use Rattle.std.specs.List.{list_all}
use Rattle.std.proofs.lemmas.List.{take-append-le}
use Rattle.end_settings.specs.declared.Side.{Side}
use Rattle.end_settings.specs.declared.Side.TheVariants.{Interlocking, FieldElement}
use Rattle.sim.specs.MadePdus.{MadePdu, new_pdu, is_named_at, mark_named_at, with_name}
use Rattle.sim.specs.Ledger.{list_of_side, is_named_among}
use Rattle.sim.specs.declared.label.Label.{Label}

both_left : (a b : Bool) → (a && b) ≡ true → a ≡ true
both_left true b h = refl
both_left false b h = h

both_right : (a b : Bool) → (a && b) ≡ true → b ≡ true
both_right true b h = h
both_right false b h = cc

pub list_all_weaker : {X : Type 0} (p q : X → Bool) → ((x : X) → p x ≡ true → q x ≡ true) → (xs : List X)
    → list_all p xs ≡ true → list_all q xs ≡ true
list_all_weaker p q weaker [] h = refl
list_all_weaker p q weaker (x ∷ xs) h =
    rw (weaker x (both_left (p x) (list_all p xs) h))
    (list_all_weaker p q weaker xs (both_right (p x) (list_all p xs) h))

-- Naming one PDU does not change the others.
pub stays_named : (ps : List MadePdu) (j k : ℕ) → is_named_at j ps ≡ true → is_named_at j (mark_named_at k ps) ≡ true
stays_named [] j k h = h
stays_named (p ∷ ps) zero zero h = refl
stays_named (p ∷ ps) zero (suc k) h = h
stays_named (p ∷ ps) (suc j) zero h = h
stays_named (p ∷ ps) (suc j) (suc k) h = stays_named ps j k h

-- Adding a PDU does not change the others.
pub stays_named_before : (ps : List MadePdu) (datagram : List ℕ) (j : ℕ) → is_named_at j ps ≡ true
    → is_named_at j (ps ++ new_pdu datagram ∷ []) ≡ true
stays_named_before [] datagram j h = cc
stays_named_before (p ∷ ps) datagram zero h = h
stays_named_before (p ∷ ps) datagram (suc j) h = stays_named_before ps datagram j h

side_stays : (il fe il' fe' : List MadePdu) → ((j : ℕ) → is_named_at j il ≡ true → is_named_at j il' ≡ true)
    → ((j : ℕ) → is_named_at j fe ≡ true → is_named_at j fe' ≡ true) → (side : Side) (place : ℕ)
    → is_named_at place (list_of_side side il fe) ≡ true → is_named_at place (list_of_side side il' fe') ≡ true
side_stays il fe il' fe' a b Interlocking place h = a place h
side_stays il fe il' fe' a b FieldElement place h = b place h

-- Labels stay named if the PDUs of both ends do.
pub labels_stay : (il fe il' fe' : List MadePdu) → ((j : ℕ) → is_named_at j il ≡ true → is_named_at j il' ≡ true)
    → ((j : ℕ) → is_named_at j fe ≡ true → is_named_at j fe' ≡ true) → (xs : List Label)
    → list_all (is_named_among il fe) xs ≡ true
    → list_all (is_named_among il' fe') xs ≡ true
labels_stay il fe il' fe' a b xs h =
    list_all_weaker (is_named_among il fe) (is_named_among il' fe')
    (λ label. side_stays il fe il' fe' a b label.side label.place) xs h

-- The first element that fails the test comes after all that pass it.
pub first_left : {X : Type 0} (p : X → Bool) (xs : List X) (i : ℕ) → list_all p (take i xs) ≡ true
    → (i < length xs → (d : X) → p (get_or xs i d) ≡ false) → slice_get xs i ≡ slice_get (filter (λ x. not (p x)) xs) 0
first_left p [] i h last = refl
first_left p (x ∷ xs) zero h last = let out : p x ≡ false = last (omega arith) x in rw out refl
first_left p (x ∷ xs) (suc i) h last =
    let in_front : p x ≡ true = both_left (p x) (list_all p (take i xs)) h in
    rw in_front (first_left p xs i (both_right (p x) (list_all p (take i xs)) h) (λ within. last (omega arith)))

-- One more label after the named ones leaves them named.
pub more_made : (il fe il' fe' : List MadePdu) (order later : List Label) (label : Label) (unnamed : ℕ)
    → ((j : ℕ) → is_named_at j il ≡ true → is_named_at j il' ≡ true)
    → ((j : ℕ) → is_named_at j fe ≡ true → is_named_at j fe' ≡ true)
    → unnamed ≤ length order → later ≡ order ++ label ∷ [] → list_all (is_named_among il fe) (take unnamed order) ≡ true
    → list_all (is_named_among il' fe') (take unnamed later) ≡ true
more_made il fe il' fe' order later label unnamed a b within is h =
    rw (is, take-append-le unnamed order (label ∷ []) within) (labels_stay il fe il' fe' a b (take unnamed order) h)
