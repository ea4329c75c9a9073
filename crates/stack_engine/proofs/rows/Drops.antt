-- Numbers that differ, and the elements of a list of one or of none.
use Rattle.stack_engine.proofs.Words.{not, arith, refl, sym, ap, ◌∙◌, nat_tests}
use Rattle.std.specs.Prelude.{ℕ, zero, suc, ◌≡◌, ◌==◌, true, List, [], ◌∷◌, drop}

pub differ : (a b : ℕ) → not (a == b) ≡ true → a ≡ b → ⊥
differ a b h e = grind (arith, nat_tests)

pub no-item : {X : Type 0} (x : X) (xs : List X) → x ∷ xs ≡ [] → ⊥
no-item x xs e = cc

-- of a list of one what is found is that one
abbrev first_or : {X : Type 0} → X → List X → X
first_or other [] = other
first_or other (x ∷ xs) = x

drop-none : {X : Type 0} (k : ℕ) → drop {A = X} k [] ≡ []
drop-none zero = refl
drop-none (suc k) = refl

pub one-found : {X : Type 0} (k : ℕ) (c d : X) (rest : List X) → drop k (c ∷ []) ≡ d ∷ rest → c ≡ d
one-found zero c d rest e = ap (first_or c) e
one-found (suc k) c d rest e = absurd (no-item d rest (sym e ∙ drop-none k))

pub none-found : {X : Type 0} (k : ℕ) (d : X) (rest : List X) → drop k [] ≡ d ∷ rest → ⊥
none-found k d rest e = no-item d rest (sym e ∙ drop-none k)
