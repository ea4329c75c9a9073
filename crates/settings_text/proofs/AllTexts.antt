-- The texts of items, in order.
use Rattle.std.proofs.Common.{◌≡◌, ◌+◌, ◌<◌, ◌≤◌, ◌++◌, drop, length, List, [], map, ℕ, Option, arith, refl, get_or, drop-cons, suc}
use Rattle.std.proofs.lemmas.List.{drop_all}
use Rattle.std.specs.Io.KnownBytes.{Appends}
use Rattle.std.proofs.KnownBytes.{Appends-nil, Appends-trans}
use Rattle.settings_text.specs.InForce.{all_texts}

-- the texts from the i-th item on are its own and those of the later ones
pub items_first : {A : Type 0} (f : A → List ℕ) (i : ℕ) (xs : List A) (d : A) → i < length xs
    → all_texts f (drop i xs) ≡ f (get_or xs i d) ++ all_texts f (drop (i + 1) xs)
unfolding all_texts
items_first f i xs d inner =
    let later : i + 1 ≡ suc i = omega arith in
    rw (later, drop-cons xs i d inner) refl

-- an item was written, and then the items after it
pub items_left : {A : Type 0} (f : A → List ℕ) (i : ℕ) (xs : List A) (d : A) (a b end : Option (List ℕ)) → i < length xs
    → Appends a b (f (get_or xs i d)) → Appends b end (all_texts f (drop (i + 1) xs))
    → Appends a end (all_texts f (drop i xs))
items_left f i xs d a b end inner first behind =
    rw (items_first f i xs d inner) (Appends-trans a b end _ _ first behind)

-- after the last item nothing is left to write
pub items_end : {A : Type 0} (f : A → List ℕ) (i : ℕ) (xs : List A) (a : Option (List ℕ)) → length xs ≤ i
    → Appends a a (all_texts f (drop i xs))
unfolding all_texts
items_end f i xs a over = let none : drop i xs ≡ [] = drop_all i xs over in rw none (Appends-nil a)

-- the same three, of items that are seen through `g`
pub seen_first : {A B : Type 0} (f : B → List ℕ) (g : A → B) (i : ℕ) (xs : List A) (d : A) → i < length xs
    → all_texts f (map g (drop i xs)) ≡ f (g (get_or xs i d)) ++ all_texts f (map g (drop (i + 1) xs))
unfolding all_texts
seen_first f g i xs d inner =
    let later : i + 1 ≡ suc i = omega arith in
    rw (later, drop-cons xs i d inner) refl

pub seen_left : {A B : Type 0} (f : B → List ℕ) (g : A → B) (i : ℕ) (xs : List A) (x : A) (a b end : Option (List ℕ))
    → i < length xs → get_or xs i x ≡ x
    → Appends a b (f (g x)) → Appends b end (all_texts f (map g (drop (i + 1) xs)))
    → Appends a end (all_texts f (map g (drop i xs)))
seen_left f g i xs x a b end inner is first behind =
    rw (seen_first f g i xs x inner, is) (Appends-trans a b end _ _ first behind)

pub seen_end : {A B : Type 0} (f : B → List ℕ) (g : A → B) (i : ℕ) (xs : List A) (a : Option (List ℕ)) → length xs ≤ i
    → Appends a a (all_texts f (map g (drop i xs)))
unfolding all_texts
seen_end f g i xs a over = let none : drop i xs ≡ [] = drop_all i xs over in rw none (Appends-nil a)
