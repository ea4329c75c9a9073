-- Texts of the elements of a list, one after the other.
use Rattle.std.proofs.Common.{◌≡◌, ◌+◌, ◌<◌, ◌≤◌, ◌++◌, drop, length, List, [], ℕ, Option, arith, get_or, drop-cons, suc}
use Rattle.std.proofs.lemmas.List.{drop_all}
use Rattle.std.proofs.lemmas.List.Concat.{flat_map-cons}
use Rattle.std.specs.List.{flat_map}
use Rattle.std.specs.Io.KnownBytes.{Appends}
use Rattle.std.proofs.KnownBytes.{Appends-trans, Appends-nil}

text_first : (X : Type 0) (f : X → List ℕ) (i : ℕ) (xs : List X) (d : X) → i < length xs
    → flat_map f (drop i xs) ≡ f (get_or xs i d) ++ flat_map f (drop (i + 1) xs)
text_first X f i xs d inner =
    let later : i + 1 ≡ suc i = omega arith in
    rw (later, drop-cons xs i d inner) (flat_map-cons f (get_or xs i d) (drop (suc i) xs))

-- the text of an element was written, and then those of the elements after it
pub texts_left : (X : Type 0) (f : X → List ℕ) (i : ℕ) (xs : List X) (d : X) (a b end : Option (List ℕ)) → i < length xs
    → Appends a b (f (get_or xs i d)) → Appends b end (flat_map f (drop (i + 1) xs))
    → Appends a end (flat_map f (drop i xs))
texts_left X f i xs d a b end inner first behind =
    rw (text_first X f i xs d inner) (Appends-trans a b end _ _ first behind)

-- after the last element nothing is left to write
pub texts_end : (X : Type 0) (f : X → List ℕ) (i : ℕ) (xs : List X) (a : Option (List ℕ)) → length xs ≤ i
    → Appends a a (flat_map f (drop i xs))
texts_end X f i xs a over = let none : drop i xs ≡ [] = drop_all i xs over in rw none (Appends-nil a)
