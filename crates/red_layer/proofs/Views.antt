-- Kept parts, and the lists of bytes that they are seen as.
use Rattle.std.proofs.Common.{◌≡◌, ℕ, suc, ◌+◌, ◌<◌, ◌≤◌, List, [], ◌∷◌, length, Some, refl, ap, ⊎_elim, arith}
use Rattle.std.proofs.lemmas.Bool.Decides.{nat_tests, leb_tells, eqb_tells}
use Rattle.red_layer.specs.FiniteMap.{Rises, put_in, has_number, least_of}
use Rattle.std.specs.Option.{is_none}
use Rattle.red_layer.specs.Parts.{map_parts, IsBelow, is_nil}
use Rattle.red_layer.specs.Redundancy.{after_run}
use Rattle.red_layer.proofs.Runs.{Rises-map_parts}

pub length-map_parts : {T : Type 0} (octets : T → List ℕ) (es : List (ℕ × T)) → length (map_parts octets es) ≡ length es
length-map_parts octets [] = refl
length-map_parts octets (e ∷ es) = ap (λ n. suc n) (length-map_parts octets es)

pub has-map_parts : {T : Type 0} (n : ℕ) (octets : T → List ℕ) (es : List (ℕ × T))
    → has_number n (map_parts octets es) ≡ has_number n es
has-map_parts n octets [] = refl
has-map_parts n octets (e ∷ es) = grind (arith, nat_tests, has-map_parts n octets es)

pub map_parts-put_in : {T : Type 0} (octets : T → List ℕ) (n : ℕ) (x : T) (es : List (ℕ × T))
    → map_parts octets (put_in n x es) ≡ put_in n (octets x) (map_parts octets es)
map_parts-put_in octets n x [] = refl
map_parts-put_in octets n x (e ∷ es) = grind (arith, nat_tests, map_parts-put_in octets n x es)

pub Rises-unmap : {T : Type 0} (octets : T → List ℕ) (low : ℕ) (es : List (ℕ × T)) → Rises low (map_parts octets es)
    → Rises low es
Rises-unmap octets low [] r = tt
Rises-unmap octets low (e ∷ es) r = (r.0, Rises-unmap octets (e.0 + 1) es r.1)

pub IsBelow-put_in : {T : Type 0} (high n : ℕ) (x : T) (es : List (ℕ × T)) → n < high → IsBelow high es
    → IsBelow high (put_in n x es)
IsBelow-put_in high n x [] lt b = (lt, tt)
IsBelow-put_in high n x (e ∷ es) lt b =
    ⊎_elim (λ first. rw first.0 (lt, b)) (λ later. rw later.0 (b.0, IsBelow-put_in high n x es lt b.1))
    (leb_tells n e.0)

pub length-after_run : (n : ℕ) (es : List (ℕ × List ℕ)) → length (after_run n es) ≤ length es
length-after_run n [] = omega arith
length-after_run n (e ∷ es) = ⊎_elim (λ same. rw same.0 (omega (arith, length-after_run (n + 1) es)))
    (λ other. rw other.0 (omega arith)) (eqb_tells e.0 n)

-- the least deferred number, with the others above it
pub Rises-least : {T : Type 0} (octets : T → List ℕ) (low n : ℕ) (es : List (ℕ × T)) → Rises low es
    → least_of es ≡ Some n → Rises n (map_parts octets es)
Rises-least octets low n [] r h = absurd (cc)
Rises-least octets low n (e ∷ es) r h = let first : e.0 ≡ n =
    cc in (omega arith, Rises-map_parts octets (e.0 + 1) es r.1)

-- there is a least number if and only if the map is not empty
pub is_nil-least : {T : Type 0} (octets : T → List ℕ) (es : List (ℕ × T))
    → is_none (least_of es) ≡ is_nil (map_parts octets es)
is_nil-least octets [] = refl
is_nil-least octets (e ∷ es) = refl
