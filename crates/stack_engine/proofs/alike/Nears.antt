-- Both tellings of "arrivals are near" are one.
use Rattle.stack_engine.proofs.Words.{[], AreAtMost, ap, append-nil, append_assoc, arith, arrivals, arrivals_of, by_test, false, FirstMissingLaw, first_missing}
use Rattle.stack_engine.proofs.Words.{has_number, Input, List, Part, QNear, refl, slice_get, Some, subst, suc, sym, take, true, zero, ℕ, ◌++◌, ◌+◌, ◌<◌, ◌∙◌, ◌∷◌, ◌≡◌, ◌≤◌}
use Rattle.std.proofs.lemmas.Option.{none-some, same_Some}
use Rattle.stack_engine.specs.CallsByPlace.{Came}
use Rattle.stack_engine.specs.PremiseByPlace.{ComesNear}
use Rattle.stack_engine.proofs.alike.Losses.{came, came-at, parts-in}

true-false : true ≡ false → ⊥
true-false e = cc

-- among at most
one-at-most : (bound : ℕ) (ps : List Part) → AreAtMost bound ps → (k : ℕ) (p : Part) → slice_get ps k ≡ Some p
    → p.0 ≤ bound
one-at-most bound [] h k p e = absurd (none-some p e)
one-at-most bound (q ∷ ps) h zero p e = subst (λ (o : Part). o.0 ≤ bound) (same_Some q p e) h.0
one-at-most bound (q ∷ ps) h (suc k) p e = one-at-most bound ps h.1 k p e

all-at-most : (bound : ℕ) (ps : List Part) → ((k : ℕ) (p : Part) → slice_get ps k ≡ Some p → p.0 ≤ bound)
    → AreAtMost bound ps
all-at-most bound [] h = tt
all-at-most bound (q ∷ ps) h = (h zero q refl, all-at-most bound ps (λ k p e. h (suc k) p e))

-- by the numbers that are missing
abbrev NearFrom : ℕ → List Part → List Input → Type 0
NearFrom q before inputs =
    (n k m : ℕ) (i : Input) (p : Part) → slice_get inputs n ≡ Some i → slice_get (arrivals_of i) k ≡ Some p
    → has_number m (before ++ arrivals (take n inputs)) ≡ false → p.0 ≤ m + q

not-below : (a b : ℕ) → (a < b → ⊥) → b ≤ a
not-below a b h = omega arith

first-least : FirstMissingLaw → (before : List Part) (m : ℕ) → has_number m before ≡ false → first_missing before ≤ m
first-least law before m e =
    not-below m (first_missing before) (λ le. true-false (sym ((law before).0.all_below m le) ∙ e))

near-from : FirstMissingLaw → (q : ℕ) (before : List Part) (inputs : List Input) → QNear q before inputs
    → NearFrom q before inputs
near-from law q before [] h n k m i p at there none = absurd (none-some i at)
near-from law q before (e ∷ es) h zero k m i p at there none =
    let few =
    one-at-most (first_missing before + q) (arrivals_of e) h.0 k p
    (ap (λ (j : Input). slice_get (arrivals_of j) k) (same_Some e i at) ∙ there) in
    let least = first-least law before m (ap (has_number m) (sym (append-nil before)) ∙ none) in
    omega (arith, few, least)
near-from law q before (e ∷ es) h (suc n) k m i p at there none =
    near-from law q (before ++ arrivals_of e) es h.1 n k m i p at there
    (ap (has_number m) (append_assoc before (arrivals_of e) (arrivals (take n es))) ∙ none)

from-near : FirstMissingLaw → (q : ℕ) (before : List Part) (inputs : List Input) → NearFrom q before inputs
    → QNear q before inputs
from-near law q before [] h = tt
from-near law q before (e ∷ es) h = (
  all-at-most (first_missing before + q) (arrivals_of e)
      (λ k p there.
      h zero k (first_missing before) e p refl there (ap (has_number (first_missing before)) (append-nil before)
      ∙ (law before).0.not_there)),
  from-near law q (before ++ arrivals_of e) es
      (λ n k m i p at there none.
      h (suc n) k m i p at there (ap (has_number m) (sym (append_assoc before (arrivals_of e) (arrivals (take n es))))
      ∙ none)),
)

not-come : (m : ℕ) (inputs : List Input) → (Came m inputs → ⊥) → has_number m (arrivals inputs) ≡ false
not-come m inputs none =
    by_test (λ b. has_number m (arrivals inputs) ≡ b → b ≡ false) (has_number m (arrivals inputs))
    (λ is is'. absurd (none (came m inputs is)))
    (λ is is'. refl) refl

come-not : (m : ℕ) (inputs : List Input) → has_number m (arrivals inputs) ≡ false → Came m inputs → ⊥
come-not m inputs e c =
    true-false (sym (came-at m inputs c.place c.input c.at
    (parts-in m (arrivals_of c.input) c.index c.part c.there c.is)) ∙ e)

pub comes-near : FirstMissingLaw → (q : ℕ) (inputs : List Input) → QNear q [] inputs → ComesNear q inputs
comes-near law q inputs h n k m i p at there none =
    near-from law q [] inputs h n k m i p at there (not-come m (take n inputs) none)

pub near-comes : FirstMissingLaw → (q : ℕ) (inputs : List Input) → ComesNear q inputs → QNear q [] inputs
near-comes law q inputs h =
    from-near law q [] inputs (λ n k m i p at there none. h n k m i p at there (come-not m (take n inputs) none))
