-- Laws of the run of consecutive numbers at the start of the deferred parts.
use Rattle.std.proofs.Common.{◌≡◌, ◌≢◌, ℕ, ◌+◌, ◌≤◌, List, [], ◌∷◌, Some, None, refl, ap, ◌∙◌, ⊎_elim, arith}
use Rattle.std.proofs.lemmas.Bool.Decides.{nat_tests, eqb_tells}
use Rattle.red_layer.specs.FiniteMap.{Rises, part_under, take_out}
use Rattle.red_layer.specs.Parts.{map_parts, IsBelow}
use Rattle.red_layer.specs.Redundancy.{run_from, after_run}
use Rattle.red_layer.proofs.FiniteMap.{front_part}

pub IsBelow-take_out : {T : Type 0} (high n : ℕ) (es : List (ℕ × T)) → IsBelow high es → IsBelow high (take_out n es)
IsBelow-take_out high n [] h = tt
IsBelow-take_out high n (e ∷ es) h =
    ⊎_elim (λ same. rw same.0 h.1) (λ other. rw other.0 (h.0, IsBelow-take_out high n es h.1)) (eqb_tells e.0 n)

-- a map whose numbers are from `high` on and below it is empty
pub empty_from_bounds : {T : Type 0} (high : ℕ) (es : List (ℕ × T)) → Rises high es → IsBelow high es → es ≡ []
empty_from_bounds high [] r b = refl
empty_from_bounds high (e ∷ es) r b = absurd (omega arith)

-- the run is empty if there is no part under its first number
pub run_from-none : (n : ℕ) (es : List (ℕ × List ℕ)) → Rises (n + 1) es → run_from n es ≡ []
run_from-none n [] r = refl
run_from-none n (e ∷ es) r = let apart : e.0 ≢ n = omega arith in grind (arith, nat_tests)

pub after_run-none : (n : ℕ) (es : List (ℕ × List ℕ)) → Rises (n + 1) es → after_run n es ≡ es
after_run-none n [] r = refl
after_run-none n (e ∷ es) r = let apart : e.0 ≢ n = omega arith in grind (arith, nat_tests)

-- the numbers still rise if the parts are seen as bytes
pub Rises-map_parts : {T : Type 0} (octets : T → List ℕ) (low : ℕ) (es : List (ℕ × T)) → Rises low es
    → Rises low (map_parts octets es)
Rises-map_parts octets low [] r = tt
Rises-map_parts octets low (e ∷ es) r = (r.0, Rises-map_parts octets (e.0 + 1) es r.1)

-- the run if there is a part under its first number
pub run_from-first : {T : Type 0} (octets : T → List ℕ) (n : ℕ) (es : List (ℕ × T)) (x : T) → Rises n es
    → part_under n es ≡ Some x → run_from n (map_parts octets es) ≡ (n, octets x) ∷
    run_from (n + 1) (map_parts octets (take_out n es))
run_from-first octets n es x r h = ap (λ ys. run_from n (map_parts octets ys)) (front_part n es x r h)
    ∙ run_from-head n (octets x) (map_parts octets (take_out n es))
  where
    run_from-head : (n : ℕ) (u : List ℕ) (ys : List (ℕ × List ℕ))
        → run_from n ((n, u) ∷ ys) ≡ (n, u) ∷ run_from (n + 1) ys
    run_from-head n u ys = grind (arith, nat_tests)

pub after_run-first : {T : Type 0} (octets : T → List ℕ) (n : ℕ) (es : List (ℕ × T)) (x : T) → Rises n es
    → part_under n es ≡ Some x → after_run n (map_parts octets es)
    ≡ after_run (n + 1) (map_parts octets (take_out n es))
after_run-first octets n es x r h = ap (λ ys. after_run n (map_parts octets ys)) (front_part n es x r h)
    ∙ after_run-head n (octets x) (map_parts octets (take_out n es))
  where
    after_run-head : (n : ℕ) (u : List ℕ) (ys : List (ℕ × List ℕ)) → after_run n ((n, u) ∷ ys) ≡ after_run (n + 1) ys
    after_run-head n u ys = grind (arith, nat_tests)

-- a number above all of the map
pub part-past : {T : Type 0} (n high : ℕ) (es : List (ℕ × T)) → high ≤ n → IsBelow high es → part_under n es ≡ None
part-past n high [] le b = refl
part-past n high (e ∷ es) le b = let rest : part_under n es ≡ None = part-past n high es le b.1 in let apart : e.0 ≢ n =
    omega arith in grind (arith, nat_tests)

pub take_out-past : {T : Type 0} (n high : ℕ) (es : List (ℕ × T)) → high ≤ n → IsBelow high es → take_out n es ≡ es
take_out-past n high [] le b = refl
take_out-past n high (e ∷ es) le b = let rest : take_out n es ≡ es =
    take_out-past n high es le b.1 in let apart : e.0 ≢ n = omega arith in grind (arith, nat_tests)
