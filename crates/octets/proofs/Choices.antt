-- Case distinctions by a test.
use Rattle.std.proofs.Common.{◌≡◌, Bool, true, false, refl, cond}

-- a choice between two values by a test
pub by_cond : {A : Type 0} (P : A → Type 0) (b : Bool) (x y : A) → (b ≡ true → P x) → (b ≡ false → P y) → P (cond b x y)
by_cond P true x y at_true at_false = at_true refl
by_cond P false x y at_true at_false = at_false refl

-- a statement about a test
pub by_test : (P : Bool → Type 0) (b : Bool) → (b ≡ true → P true) → (b ≡ false → P false) → P b
by_test P true at_true at_false = at_true refl
by_test P false at_true at_false = at_false refl
