-- Laws of the chain of steps along a list: the effect of calls of one method, one for each item in order, on a value.
use Rattle.std.proofs.Common.{◌≡◌, List, [], ◌∷◌, ◌++◌, fold, sym, ap, subst, ◌∙◌}
use Rattle.std.specs.List.{FoldsTo}
use Rattle.octets.specs.Steps.{outputs}

-- if each step moves a view by a function, the steps move it by the fold
pub FoldsTo-view : {S A V : Type 0} (view : S → V) (next : V → A → V) (R : S → A → S → Type 0)
    → ((s : S) (x : A) (t : S) → R s x t → view t ≡ next (view s) x)
    → (xs : List A) (s t : S) → FoldsTo R s xs t → view t ≡ fold next (view s) xs
FoldsTo-view view next R each [] s t e = ap view (sym e)
FoldsTo-view view next R each (x ∷ xs) s t (mid, first, rest) =
    FoldsTo-view view next R each xs mid t rest ∙ ap (λ v. fold next v xs) (each s x mid first)

-- if each step keeps a view, such as the name of a reference, the steps keep it
pub FoldsTo-keeps : {S A V : Type 0} (view : S → V) (R : S → A → S → Type 0)
    → ((s : S) (x : A) (t : S) → R s x t → view t ≡ view s)
    → (xs : List A) (s t : S) → FoldsTo R s xs t → view s ≡ view t
FoldsTo-keeps view R same [] s t e = ap view e
FoldsTo-keeps view R same (x ∷ xs) s t (mid, first, rest) =
    sym (same s x mid first) ∙ FoldsTo-keeps view R same xs mid t rest

-- steps, followed by more steps
pub FoldsTo-append : {S A : Type 0} (R : S → A → S → Type 0) (xs ys : List A) (s mid t : S) → FoldsTo R s xs mid
    → FoldsTo R mid ys t → FoldsTo R s (xs ++ ys) t
FoldsTo-append R [] ys s mid t e k = subst (λ u. FoldsTo R u ys t) (sym e) k
FoldsTo-append R (x ∷ xs) ys s mid t (next, first, rest) k = (next, first, FoldsTo-append R xs ys next mid t rest k)

-- if each step is a step of a part of the value, the steps are steps of the part
pub FoldsTo-part : {S P A : Type 0} (part : S → P) (R : S → A → S → Type 0) (Q : P → A → P → Type 0)
    → ((s : S) (x : A) (t : S) → R s x t → Q (part s) x (part t))
    → (xs : List A) (s t : S) → FoldsTo R s xs t → FoldsTo Q (part s) xs (part t)
FoldsTo-part part R Q step [] s t e = ap part e
FoldsTo-part part R Q step (x ∷ xs) s t (mid, first, rest) =
    (part mid, step s x mid first, FoldsTo-part part R Q step xs mid t rest)

-- if each step moves a view by a function and takes a part through steps of its own, the steps take the part through
-- all of these
pub FoldsTo-inner : {S A V P B : Type 0} (part : S → P) (view : S → V) (next : V → A → V) (out : V → A → List B) (R : S
    → A → S → Type 0) (Q : P → B → P → Type 0)
    → ((s : S) (x : A) (t : S) → R s x t → (view t ≡ next (view s) x) × FoldsTo Q (part s) (out (view s) x) (part t))
    → (xs : List A) (s t : S) → FoldsTo R s xs t → FoldsTo Q (part s) (outputs next out (view s) xs) (part t)
FoldsTo-inner part view next out R Q each [] s t e = ap part e
FoldsTo-inner part view next out R Q each (x ∷ xs) s t (mid, first, rest) =
    let one = each s x mid first in
    FoldsTo-append Q (out (view s) x) (outputs next out (next (view s) x) xs) (part s) (part mid) (part t) one.1
    (subst (λ v. FoldsTo Q (part mid) (outputs next out v xs) (part t)) one.0
    (FoldsTo-inner part view next out R Q each xs mid t rest))
