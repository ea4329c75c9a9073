-- Units with rising numbers: a sent unit is appended, confirmed units are at the front, and units are renumbered.
use Rattle.std.proofs.Common.{◌≡◌, ◌<◌, ◌≤◌, ℕ, zero, suc, ◌+◌, true, false, Bool, List, [], ◌∷◌, ◌++◌, take, drop, nat_lt, nat_le, refl, ap, arith, Some, None}
use Rattle.std.specs.List.{All, slice_get, slice_set}
use Rattle.std.proofs.lemmas.Bool.{lt-ltb}
use Rattle.std.proofs.lemmas.Bool.Decides.{nat_tests}
use Rattle.std.proofs.lemmas.List.Elements.{All-nil, All-cons, All-head, All-tail}
use Rattle.std.proofs.lemmas.List.Kept.{AllPairs-cons, AllPairs-filter}
use Rattle.std.proofs.lemmas.List.Quantifiers.{all_pairs_push}
use Rattle.safe_machine.specs.retrans.Units.{Numbered, Rises, Stored, above, unit_values, octets_of, renumber_units, unit_value, up_to}

-- The numbers after the first one rise, too, and are greater.
pub Rises-tail : (u : Numbered) (us : List Numbered) → Rises (u ∷ us) → Rises us
Rises-tail u us h = record { pairs = λ i j d lt within. h.pairs (suc i) (suc j) d (omega arith) (omega arith) }

pub Rises-head : (u : Numbered) (us : List Numbered) → Rises (u ∷ us) → All (λ (v : Numbered). u.number < v.number) us
Rises-head u us h = λ k d within. h.pairs zero (suc k) d (omega arith) (omega arith)

pub Rises-sent : (us : List Numbered) (u : Numbered) → Rises us → All (λ (v : Numbered). v.number < u.number) us
    → Rises (us ++ u ∷ [])
Rises-sent us u h below = record { pairs = all_pairs_push (λ (a b : Numbered). a.number < b.number) us u h.pairs below }

pub Rises-above : (number : ℕ) (us : List Numbered) → Rises us → Rises (above number us)
Rises-above number us h =
    record {
      pairs =
          AllPairs-filter (λ (a b : Numbered). a.number < b.number) (λ (u : Numbered). nat_lt number u.number) us
          h.pairs;
    }

-- Consecutive numbers rise.
renumbered-from : (low first : ℕ) (units : List (List ℕ)) → low ≤ first
    → All (λ (u : Numbered). low ≤ u.number) (renumber_units first units)
renumbered-from low first [] le = All-nil (λ (u : Numbered). low ≤ u.number)
renumbered-from low first (octets ∷ units) le =
    All-cons (λ (u : Numbered). low ≤ u.number) (record { number = first; octets = octets })
    (renumber_units (first + 1) units) le
    (renumbered-from low (first + 1) units (omega arith))

pub Rises-renumbered : (first : ℕ) (units : List (List ℕ)) → Rises (renumber_units first units)
Rises-renumbered first [] = record { pairs = λ i j d lt within. absurd (omega arith) }
Rises-renumbered first (octets ∷ units) =
    record {
      pairs =
          AllPairs-cons (λ (a b : Numbered). a.number < b.number) (record { number = first; octets = octets })
          (renumber_units (first + 1) units)
          (λ k d within. omega (arith, renumbered-from (first + 1) (first + 1) units (omega arith) k d within))
          (Rises-renumbered (first + 1) units).pairs;
    }

-- Renumbering keeps the units.
pub octets-renumbered : (first : ℕ) (units : List (List ℕ)) → octets_of (renumber_units first units) ≡ units
octets-renumbered first [] = refl
octets-renumbered first (octets ∷ units) = ap (λ rest. octets ∷ rest) (octets-renumbered (first + 1) units)

-- If all numbers are greater, nothing is confirmed.
pub above-all : (number : ℕ) (us : List Numbered) → All (λ (u : Numbered). number < u.number) us → above number us ≡ us
above-all number [] h = refl
above-all number (u ∷ us) h =
    rw (lt-ltb number u.number (All-head (λ (v : Numbered). number < v.number) u us h))
    (ap (λ vs. u ∷ vs) (above-all number us (All-tail (λ (v : Numbered). number < v.number) u us h)))

up_to-none : (number : ℕ) (us : List Numbered) → All (λ (u : Numbered). number < u.number) us → up_to number us ≡ []
up_to-none number [] h = refl
up_to-none number (u ∷ us) h =
    let first : number < u.number = All-head (λ (v : Numbered). number < v.number) u us h in
    let no : nat_le u.number number ≡ false = grind (arith, nat_tests) in
    rw no (up_to-none number us (All-tail (λ (v : Numbered). number < v.number) u us h))

pub all_greater : (number : ℕ) (u : Numbered) (us : List Numbered) → Rises (u ∷ us) → number < u.number
    → All (λ (v : Numbered). number < v.number) (u ∷ us)
all_greater number u us h lt =
    All-cons (λ (v : Numbered). number < v.number) u us lt (λ k d within. omega (arith, Rises-head u us h k d within))

-- The confirmed units are at the front.
front_by : (number : ℕ) (u : Numbered) (us : List Numbered) → Rises (u ∷ us) → us ≡ up_to number us ++ above number us
    → (t : Bool) → nat_le u.number number ≡ t
    → u ∷ us ≡ up_to number (u ∷ us) ++ above number (u ∷ us)
front_by number u us h e true le =
    let not_above : nat_lt number u.number ≡ false = grind (arith, nat_tests) in
    rw (le, not_above) (ap (λ vs. u ∷ vs) e)
front_by number u us h e false gt =
    let lt : number < u.number = grind (arith, nat_tests) in
    let greater = all_greater number u us h lt in
    rw (up_to-none number (u ∷ us) greater, above-all number (u ∷ us) greater) refl

pub front_first : (number : ℕ) (us : List Numbered) → Rises us → us ≡ up_to number us ++ above number us
front_first number [] h = refl
front_first number (u ∷ us) h =
    front_by number u us h (front_first number us (Rises-tail u us h)) (nat_le u.number number) refl

-- One unit less: either the first one is confirmed, or no unit is.
pub first_dropped : (number : ℕ) (us : List Stored) (u : Stored) → slice_get us 0 ≡ Some u → u.0 ≤ number
    → above number (unit_values (drop 1 us)) ≡ above number (unit_values us)
first_dropped number [] u e le = absurd cc
first_dropped number (v ∷ us) u e le =
    let same : v ≡ u = cc in
    let below : v.0 ≤ number = rw same le in
    let not_above : nat_lt number v.0 ≡ false = grind (arith, nat_tests) in
    rw not_above refl

pub rest_rises : (us : List Stored) → Rises (unit_values us) → Rises (unit_values (drop 1 us))
rest_rises [] h = h
rest_rises (u ∷ us) h = Rises-tail (unit_value u) (unit_values us) h

pub first_kept : (number : ℕ) (us : List Stored) (u : Stored) → slice_get us 0 ≡ Some u → number < u.0
    → Rises (unit_values us)
    → above number (unit_values us) ≡ unit_values us
first_kept number [] u e lt h = refl
first_kept number (v ∷ us) u e lt h =
    let same : v ≡ u = cc in
    let greater : number < v.0 = rw same lt in
    above-all number (unit_value v ∷ unit_values us) (all_greater number (unit_value v) (unit_values us) h greater)

-- One more number is written.
pub one_renumbered : (place number : ℕ) (us : List Stored) (u w : Stored) → slice_get us place ≡ Some u
    → unit_value w ≡ record { number = number; octets = u.1.items }
    → take (suc place) (unit_values (slice_set us place w)) ++ renumber_units (number + 1)
    (octets_of (drop (suc place) (unit_values (slice_set us place w))))
    ≡ take place (unit_values us) ++ renumber_units number (octets_of (drop place (unit_values us)))
one_renumbered place number [] u w e is = absurd cc
one_renumbered zero number (v ∷ us) u w e is =
    let same : v ≡ u = cc in
    rw (is, same) refl
one_renumbered (suc place) number (v ∷ us) u w e is =
    ap (λ vs. unit_value v ∷ vs) (one_renumbered place number us u w e is)

pub none_left : (number : ℕ) (us : List Stored) → slice_get us 0 ≡ None → unit_values us ≡ above number (unit_values us)
none_left number [] e = refl
none_left number (u ∷ us) e = absurd cc
