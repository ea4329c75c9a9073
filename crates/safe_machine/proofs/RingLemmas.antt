-- Units in a ring of places: the unit at a distance from the first one, one unit more, places that move to the end.
use Rattle.std.proofs.Common.{◌≡◌, ◌<◌, ◌≤◌, ℕ, zero, suc, ◌+◌, ◌-◌, List, [], ◌∷◌, ◌++◌, drop, take, length, slice_get, slice_set, Option, None, Some, false, nat_lt, refl, ap, sym, ◌∙◌, arith}
use Rattle.std.specs.Borrow.{MutBor}
use Rattle.std.specs.Option.{IsSome, option_copied_mut}
use Rattle.std.proofs.lemmas.Bool.Decides.{nat_tests}
use Rattle.std.proofs.lemmas.List.{append_assoc, length-append, take-append-le}
use Rattle.safe_machine.specs.retrans.Units.{Kept, Numbered, Rises, Stored, above, octets_of, renumber_units, unit_value, unit_values}
use Rattle.safe_machine.proofs.UnitLemmas.{Rises-tail, above-all, all_greater, one_renumbered}

pub length-units : (ps : List Stored) (count : ℕ) → count ≤ length ps → length (unit_values (take count ps)) ≡ count
length-units [] zero le = refl
length-units [] (suc n) le = absurd (omega arith)
length-units (p ∷ ps) zero le = refl
length-units (p ∷ ps) (suc n) le = ap suc (length-units ps n (omega arith))

-- The unit in the place at a distance from the first one.
pub unit_at : (ps : List Stored) (i count : ℕ) (p : Stored) → slice_get ps i ≡ Some p → i < count
    → slice_get (unit_values (take count ps)) i ≡ Some (unit_value p)
unit_at [] i count p e lt = absurd cc
unit_at (q ∷ ps) i zero p e lt = absurd (omega arith)
unit_at (q ∷ ps) zero (suc n) p e lt = let same : q ≡ p = cc in rw same refl
unit_at (q ∷ ps) (suc i) (suc n) p e lt = unit_at ps i n p e (omega arith)

-- Writing the first free place adds one unit.
pub units-more : (ps : List Stored) (count : ℕ) (w : Stored) → count < length ps
    → unit_values (take (count + 1) (slice_set ps count w)) ≡ unit_values (take count ps) ++ unit_value w ∷ []
units-more [] count w lt = absurd (omega arith)
units-more (p ∷ ps) zero w lt = refl
units-more (p ∷ ps) (suc n) w lt =
    let more : suc n + 1 ≡ suc (n + 1) = omega arith in
    rw more (ap (λ us. unit_value p ∷ us) (units-more ps n w (omega arith)))

-- If the unit at a distance is confirmed, those after it remain to be asked.
pub one_confirmed : (number : ℕ) (us : List Numbered) (i : ℕ) (u : Numbered) → slice_get us i ≡ Some u
    → u.number ≤ number → above number (drop (i + 1) us) ≡ above number (drop i us)
one_confirmed number [] i u e le = absurd cc
one_confirmed number (v ∷ us) zero u e le =
    let same : v ≡ u = cc in
    let below : v.number ≤ number = rw same le in
    let not_above : nat_lt number v.number ≡ false = grind (arith, nat_tests) in
    rw not_above refl
one_confirmed number (v ∷ us) (suc i) u e le =
    let more : suc i + 1 ≡ suc (i + 1) = omega arith in
    rw more (one_confirmed number us i u e le)

-- If it is not, it and those after it are exactly the units that remain.
pub rest_kept : (number : ℕ) (us : List Numbered) (i : ℕ) (u : Numbered) → slice_get us i ≡ Some u
    → number < u.number → Rises us → drop i us ≡ above number (drop i us)
rest_kept number [] i u e lt h = absurd cc
rest_kept number (v ∷ us) zero u e lt h =
    let same : v ≡ u = cc in
    let greater : number < v.number = rw same lt in
    sym (above-all number (v ∷ us) (all_greater number v us h greater))
rest_kept number (v ∷ us) (suc i) u e lt h = rest_kept number us i u e lt (Rises-tail v us h)

pub Rises-drop : (n : ℕ) (us : List Numbered) → Rises us → Rises (drop n us)
Rises-drop zero us h = h
Rises-drop (suc n) [] h = h
Rises-drop (suc n) (u ∷ us) h = Rises-drop n us (Rises-tail u us h)

-- The first places, moved to the end.
abbrev pub turned : {X : Type 0} → ℕ → List X → List X
turned n xs = drop n xs ++ take n xs

front_of_turned : {X : Type 0} (xs ws : List X) (n : ℕ) (x : X) → n < length xs
    → slice_get (drop n xs ++ ws) 0 ≡ Some x → slice_get xs n ≡ Some x
front_of_turned [] ws n x lt e = absurd (omega arith)
front_of_turned (y ∷ xs) ws zero x lt e = e
front_of_turned (y ∷ xs) ws (suc n) x lt e = front_of_turned xs ws n x (omega arith) e

drop_at : {X : Type 0} (xs : List X) (n : ℕ) (x : X) → slice_get xs n ≡ Some x → drop n xs ≡ x ∷ drop (n + 1) xs
drop_at [] n x e = absurd cc
drop_at (y ∷ xs) zero x e = let same : y ≡ x = cc in rw same refl
drop_at (y ∷ xs) (suc n) x e = let more : suc n + 1 ≡ suc (n + 1) = omega arith in rw more (drop_at xs n x e)

take_at : {X : Type 0} (xs : List X) (n : ℕ) (x : X) → slice_get xs n ≡ Some x → take (n + 1) xs ≡ take n xs ++ x ∷ []
take_at [] n x e = absurd cc
take_at (y ∷ xs) zero x e = let same : y ≡ x = cc in rw same refl
take_at (y ∷ xs) (suc n) x e =
    let more : suc n + 1 ≡ suc (n + 1) = omega arith in rw more (ap (λ zs. y ∷ zs) (take_at xs n x e))

-- One more.
pub turned_more : {X : Type 0} (xs : List X) (n : ℕ) (x : X) → n < length xs → slice_get (turned n xs) 0 ≡ Some x
    → drop 1 (turned n xs) ++ x ∷ [] ≡ turned (n + 1) xs
turned_more xs n x lt e =
    let at = front_of_turned xs (take n xs) n x lt e in
    ap (λ zs. drop 1 (zs ++ take n xs) ++ x ∷ []) (drop_at xs n x at)
    ∙ append_assoc (drop (n + 1) xs) (take n xs) (x ∷ [])
    ∙ ap (λ zs. drop (n + 1) xs ++ zs) (sym (take_at xs n x at))

pub length-turned_more : {X : Type 0} (xs : List X) (x : X) → 0 < length xs
    → length (drop 1 xs ++ x ∷ []) ≡ length xs
length-turned_more [] x some = absurd (omega arith)
length-turned_more (y ∷ xs) x some = omega (arith, length-append xs (x ∷ []))

-- The places still in use are those after the ones that have moved.
still_used : {X : Type 0} (xs ws : List X) (moved count : ℕ) → moved ≤ count → count ≤ length xs
    → take (count - moved) (drop moved xs ++ ws) ≡ drop moved (take count xs)
still_used xs ws zero count le within =
    let all : count - 0 ≡ count = omega arith in rw all (take-append-le count xs ws within)
still_used [] ws (suc m) count le within = absurd (omega arith)
still_used (x ∷ xs) ws (suc m) zero le within = absurd (omega arith)
still_used (x ∷ xs) ws (suc m) (suc n) le within =
    let less : suc n - suc m ≡ n - m = omega arith in rw less (still_used xs ws m n (omega arith) (omega arith))

values-drop : (n : ℕ) (us : List Stored) → unit_values (drop n us) ≡ drop n (unit_values us)
values-drop zero us = refl
values-drop (suc n) [] = refl
values-drop (suc n) (u ∷ us) = values-drop n us

pub units-turned : (ps : List Stored) (moved count : ℕ) → moved ≤ count → count ≤ length ps
    → unit_values (take (count - moved) (turned moved ps)) ≡ drop moved (unit_values (take count ps))
units-turned ps moved count le within =
    ap unit_values (still_used ps (take moved ps) moved count le within) ∙ values-drop moved (take count ps)

-- The first units under their new numbers, and the rest still to be written.
abbrev pub left_to : ℕ → ℕ → List Stored → List Numbered
left_to far number us = take far (unit_values us) ++ renumber_units number (octets_of (drop far (unit_values us)))

taken-set : {X : Type 0} (xs : List X) (i count : ℕ) (w : X) → i < count
    → take count (slice_set xs i w) ≡ slice_set (take count xs) i w
taken-set [] i zero w lt = refl
taken-set [] zero (suc n) w lt = refl
taken-set [] (suc i) (suc n) w lt = refl
taken-set (x ∷ xs) i zero w lt = absurd (omega arith)
taken-set (x ∷ xs) zero (suc n) w lt = refl
taken-set (x ∷ xs) (suc i) (suc n) w lt = ap (λ zs. x ∷ zs) (taken-set xs i n w (omega arith))

taken-at : {X : Type 0} (xs : List X) (i count : ℕ) (x : X) → slice_get xs i ≡ Some x → i < count
    → slice_get (take count xs) i ≡ Some x
taken-at [] i count x e lt = absurd cc
taken-at (y ∷ xs) i zero x e lt = absurd (omega arith)
taken-at (y ∷ xs) zero (suc n) x e lt = e
taken-at (y ∷ xs) (suc i) (suc n) x e lt = taken-at xs i n x e (omega arith)

-- One more number is written.
pub step_renumbered : (ps : List Stored) (far count number : ℕ) (u w : Stored) (all : List Numbered) → far < count
    → slice_get ps far ≡ Some u → unit_value w ≡ record { number = number + far; octets = u.1.items }
    → left_to far (number + far) (take count ps) ≡ all
    → left_to (far + 1) (number + (far + 1)) (take count (slice_set ps far w)) ≡ all
step_renumbered ps far count number u w all lt at is before =
    let next : number + (far + 1) ≡ number + far + 1 = omega arith in
    let more : far + 1 ≡ suc far = omega arith in
    ap (λ (us : List Stored). left_to (far + 1) (number + (far + 1)) us) (taken-set ps far count w lt)
    ∙ ap (λ (k : ℕ). left_to k (number + (far + 1)) (slice_set (take count ps) far w)) more
    ∙ ap (λ (m : ℕ). left_to (suc far) m (slice_set (take count ps) far w)) next
    ∙ one_renumbered far (number + far) (take count ps) u w (taken-at ps far count u at lt) is
    ∙ before

-- At the end, all numbers are written.
pub all_renumbered : (us : List Numbered) (far number : ℕ) → length us ≤ far
    → us ≡ take far us ++ renumber_units number (octets_of (drop far us))
all_renumbered [] zero number le = refl
all_renumbered [] (suc far) number le = refl
all_renumbered (u ∷ us) zero number le = absurd (omega arith)
all_renumbered (u ∷ us) (suc far) number le = ap (λ vs. u ∷ vs) (all_renumbered us far number (omega arith))

-- What stands for a ring.
abbrev pub kept_of : ℕ → List Numbered → Kept
kept_of n us = record { room = n; units = us }

there : {X : Type 0} (xs : List X) (i : ℕ) → i < length xs → (x : X) × (slice_get xs i ≡ Some x)
there [] i lt = absurd (omega arith)
there (x ∷ xs) zero lt = (x, refl)
there (x ∷ xs) (suc i) lt = there xs i (omega arith)

-- A place of the ring can be written.
pub is_there : {X : Type 0} (place : Option (MutBor X)) (xs : List X) (i : ℕ) → option_copied_mut place ≡ slice_get xs i
    → i < length xs → IsSome place
is_there None xs i e lt = let (x, at) = there xs i lt in absurd cc
is_there (Some place) xs i e lt = refl
