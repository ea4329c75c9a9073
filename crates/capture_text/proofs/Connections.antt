-- The texts of a list's members, one after the other.
use Rattle.std.proofs.Common.{◌≡◌, ◌+◌, ◌<◌, ◌≤◌, ◌++◌, drop, length, List, [], ℕ, Option, arith, refl, get_or, drop-cons, suc, sym}
use Rattle.std.proofs.lemmas.List.{drop_all}
use Rattle.std.proofs.lemmas.List.Concat.{flat_map-cons}
use Rattle.std.specs.List.{flat_map}
use Rattle.std.specs.Io.KnownBytes.{Appends}
use Rattle.std.proofs.KnownBytes.{Appends-trans, Appends-nil}

texts-drop : {A : Type 0} (f : A → List ℕ) (i : ℕ) (cs : List A) (d : A) → i < length cs
    → flat_map f (drop i cs) ≡ f (get_or cs i d) ++ flat_map f (drop (i + 1) cs)
texts-drop f i cs d inner =
    let later : i + 1 ≡ suc i = omega arith in
    rw (later, drop-cons cs i d inner) (flat_map-cons f (get_or cs i d) (drop (suc i) cs))

texts-end : {A : Type 0} (f : A → List ℕ) (i : ℕ) (cs : List A) → length cs ≤ i → flat_map f (drop i cs) ≡ []
texts-end f i cs over = let none : drop i cs ≡ [] = drop_all i cs over in rw none refl

-- The text of the members so far and that of the remaining ones make up the whole text.
pub sums_left : {A : Type 0} (f : A → List ℕ) (i : ℕ) (cs : List A) (d : A) (a b end : Option (List ℕ)) → i < length cs
    → Appends a b (f (get_or cs i d)) → Appends b end (flat_map f (drop (i + 1) cs))
    → Appends a end (flat_map f (drop i cs))
sums_left f i cs d a b end inner line behind = rw (texts-drop f i cs d inner) (Appends-trans a b end _ _ line behind)

-- The same for a member under another name.
pub sums_left_as : {A : Type 0} (f : A → List ℕ) (i : ℕ) (cs : List A) (d x : A) (a b end : Option (List ℕ))
    → i < length cs
    → x ≡ get_or cs i d → Appends a b (f x) → Appends b end (flat_map f (drop (i + 1) cs))
    → Appends a end (flat_map f (drop i cs))
sums_left_as f i cs d x a b end inner same line behind =
    rw (texts-drop f i cs d inner, sym same) (Appends-trans a b end _ _ line behind)

pub sums_end : {A : Type 0} (f : A → List ℕ) (i : ℕ) (cs : List A) (a : Option (List ℕ)) → length cs ≤ i
    → Appends a a (flat_map f (drop i cs))
sums_end f i cs a over = rw (texts-end f i cs over) (Appends-nil a)
