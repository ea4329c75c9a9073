-- Datagrams with consecutive sequence numbers: a part can be at one place only.
use Rattle.stack_engine.proofs.Words.{[], ap, arith, Bool, bytes_eq, bytes_eq-Decides, drop, false, get_or, has_part, inl, inr, length, length-append, List}
use Rattle.stack_engine.proofs.Words.{list_any, map-append, None, Option, refl, slice_get, Some, subst, suc, sym, true, zero, ℕ, ◌+◌, ◌-◌, ◌++◌, ◌<◌, ◌≡◌, ◌≤◌, ◌∙◌, ◌∷◌, ◌⊎◌}
use Rattle.std.specs.Prelude.{◌%◌, IfSome, map}
use Rattle.std.proofs.lemmas.Option.{get_or_from_slice_get, slice_get_within}
use Rattle.octets.specs.declared.limits.TheConstants.{RED_HEADER}
use Rattle.safe_machine.specs.Numbers.{sn_of, wrap}
use Rattle.stack_engine.proofs.code.Histories.{found-here}
use Rattle.stack_engine.specs.Numbered.{AreNumbered, IsOnlyPlace, number_in}

-- an element of a list with one more is an earlier one or the new one
get-push : {A : Type 0} (xs : List A) (x e : A) (n : ℕ) → slice_get (xs ++ x ∷ []) n ≡ Some e
    → (slice_get xs n ≡ Some e) ⊎ ((n ≡ length xs) × (x ≡ e))
get-push [] x e zero h = inr (refl, cc)
get-push [] x e (suc n) h = cc
get-push (y ∷ xs) x e zero h = inl h
get-push (y ∷ xs) x e (suc n) h = elim (get-push xs x e n h) [ inl old ↦ inl old | inr new ↦ inr (ap suc new.0, new.1) ]

numbered-push : (first : ℕ) (ds : List (List ℕ)) (d : List ℕ) → AreNumbered first ds → length ds < wrap
    → number_in (drop RED_HEADER d) ≡ Some (sn_of first (length ds)) → AreNumbered first (ds ++ d ∷ [])
numbered-push first ds d h room is =
    record {
      few = omega (arith, length-append ds (d ∷ []));
      number = λ place e at. elim (get-push ds d e place at) [ inl old ↦ h.number place e old | inr new ↦ cc ];
    }

no-number : (first : ℕ) → AreNumbered first []
no-number first = record { few = omega arith; number = λ place e at. cc }

first-is : (first : ℕ) → first < wrap → sn_of first 0 ≡ first
unfolding sn_of
first-is first small = omega arith

number-is : (a b : ℕ) → Some a ≡ Some b → a ≡ b
number-is a b h = cc

-- the first datagram has the first number
pub first-numbered : (first : ℕ) (ds : List (List ℕ)) (d part : List ℕ) → length ds ≡ 0 → part ≡ drop RED_HEADER d
    → Some first ≡ number_in part → first < wrap
    → AreNumbered first (ds ++ d ∷ [])
first-numbered first [] d part none of is small =
    numbered-push first [] d (no-number first) (omega arith) (ap number_in (sym of)
    ∙ (sym is ∙ ap Some (sym (first-is first small))))
first-numbered first (x ∷ ds) d part none of is small = absurd (omega arith)

-- a datagram with the next number
pub next-numbered : (first number place : ℕ) (ds : List (List ℕ)) (d part : List ℕ) → AreNumbered first ds
    → (place < wrap) × (place ≡ length ds)
    → part ≡ drop RED_HEADER d → Some number ≡ number_in part → (first + place) % wrap ≡ number
    → AreNumbered first (ds ++ d ∷ [])
unfolding sn_of
next-numbered first number place ds d part h room of is next =
    let e : sn_of first (length ds) ≡ number = ap (sn_of first) (sym room.1) ∙ next in
    numbered-push first ds d h (omega arith) (ap number_in (sym of) ∙ (sym is ∙ ap Some (sym e)))

-- what is kept is numbered, if the first number is known
pub kept-numbered : (known : Option ℕ) (first : ℕ) (texts : List (Unit {0} × List ℕ)) (ds : List (List ℕ))
    → known ≡ Some first
    → IfSome known (λ f. AreNumbered f (map (λ t. t.1) texts)) → map (λ t. t.1) texts ≡ ds → AreNumbered first ds
kept-numbered None first texts ds is h same = cc
kept-numbered (Some f) first texts ds is h same = subst (λ (xs : List (List ℕ)). AreNumbered first xs) same
    (subst (λ (n : ℕ). AreNumbered n (map (λ t. t.1) texts)) (number-is f first is) h)

-- the datagrams after one more was kept
pub kept-more : (known : Option ℕ) (old new : List (Unit {0} × List ℕ)) (ds : List (List ℕ)) (d : List ℕ)
    → IfSome known (λ f. AreNumbered f (ds ++ d ∷ []))
    → map (λ t. t.1) old ≡ ds → new ≡ old ++ (tt, d) ∷ [] → IfSome known (λ f. AreNumbered f (map (λ t. t.1) new))
kept-more None old new ds d h same added = tt
kept-more (Some f) old new ds d h same added =
    let e : map (λ (t : Unit {0} × List ℕ). t.1) new ≡ map (λ (t : Unit {0} × List ℕ). t.1) old ++ d ∷ [] =
    ap (λ (ts : List (Unit {0} × List ℕ)). map (λ t. t.1) ts) added
    ∙ map-append (λ (t : Unit {0} × List ℕ). t.1) old ((tt, d) ∷ []) in
    subst (λ (xs : List (List ℕ)). AreNumbered f xs) (sym (e ∙ ap (λ (xs : List (List ℕ)). xs ++ d ∷ []) same)) h

-- a place from its number
place-is : (first number place : ℕ) → first < wrap → place < wrap → number ≡ sn_of first place
    → (number + (wrap - first)) % wrap ≡ place
unfolding sn_of
place-is first number place small few is = omega arith

-- only the place that its number names can have a part
pub only-by-number : (first number : ℕ) (part : List ℕ) (ds : List (List ℕ)) → first < wrap → AreNumbered first ds
    → Some number ≡ number_in part
    → IsOnlyPlace part ds ((number + (wrap - first)) % wrap)
only-by-number first number part ds small h is = λ place d at same.
    let e : part ≡ drop RED_HEADER d = (bytes_eq-Decides part (drop RED_HEADER d)).0 same in
    let n : number ≡ sn_of first place = number-is number (sn_of first place) (is
    ∙ (ap number_in e ∙ h.number place d at)) in
    let within : place < length ds = slice_get_within ds place d at in
    let few : place < wrap = omega (arith, h.few) in
    sym (place-is first number place small few n)

not-true : (b : Bool) → (b ≡ true → ⊥) → b ≡ false
not-true true h = absurd (h refl)
not-true false h = refl

none-of : {A : Type 0} (P : A → Bool) (a : ℕ) (xs : List A)
    → ((n : ℕ) (x : A) → a ≤ n → slice_get xs n ≡ Some x → P x ≡ false) → list_any P (drop a xs) ≡ false
none-of P zero [] h = refl
none-of P (suc a) [] h = refl
none-of P zero (x ∷ xs) h =
    let here : P x ≡ false = h 0 x (omega arith) refl in
    rw here (none-of P 0 xs (λ n y le is. h (suc n) y (omega arith) is))
none-of P (suc a) (x ∷ xs) h = none-of P a xs (λ n y le is. h (suc n) y (omega arith) is)

-- the only place is a dead one, or after the last
pub none-there : (part : List ℕ) (ds : List (List ℕ)) (dead only : ℕ) → IsOnlyPlace part ds only
    → (dead ≤ only → only < length ds → ⊥)
    → has_part part (drop dead ds) ≡ false
none-there part ds dead only h out =
    none-of (λ d. bytes_eq part (drop RED_HEADER d)) dead ds
    (λ n d le is. not-true (bytes_eq part (drop RED_HEADER d)) (λ same.
    let at : n ≡ only = h n d is same in
    let within : n < length ds = slice_get_within ds n d is in
    out (omega arith) (omega arith)))

there-by : (part : List ℕ) (ds : List (List ℕ)) (dead only : ℕ) (b : Bool) → IsOnlyPlace part ds only → dead ≤ only
    → only < length ds
    → bytes_eq part (drop RED_HEADER (get_or ds only [])) ≡ b → has_part part (drop dead ds) ≡ b
there-by part ds dead only true h le lt e = found-here (λ d. bytes_eq part (drop RED_HEADER d)) dead only ds [] le lt e
there-by part ds dead only false h le lt e =
    none-of (λ d. bytes_eq part (drop RED_HEADER d)) dead ds
    (λ n d low is. not-true (bytes_eq part (drop RED_HEADER d)) (λ same.
    let at : n ≡ only = h n d is same in
    let read : get_or ds n [] ≡ d = get_or_from_slice_get ds n d [] is in
    cc))

-- the datagram at the only place decides
pub there : (part : List ℕ) (ds : List (List ℕ)) (dead only : ℕ) → IsOnlyPlace part ds only → dead ≤ only
    → only < length ds
    → bytes_eq part (drop RED_HEADER (get_or ds only [])) ≡ has_part part (drop dead ds)
there part ds dead only h le lt =
    sym (there-by part ds dead only (bytes_eq part (drop RED_HEADER (get_or ds only []))) h le lt refl)
