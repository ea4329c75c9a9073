-- Elements of a list by their places, and by the numbers of incarnations.
use Rattle.stack_engine.proofs.Words.{[], ap, arith, drop, inl, inr, IsBeginning, length, length-append, length-drop, length-take, List, refl, slice_get, Some, suc, sym}
use Rattle.stack_engine.proofs.Words.{take, take-append-drop, zero, zero-add}
use Rattle.stack_engine.proofs.Words.{ℕ, ◌++◌, ◌+◌, ◌<◌, ◌∙◌, ◌∷◌, ◌≡◌, ◌≤◌, ◌⊎◌}
use Rattle.std.proofs.lemmas.Option.{none-some, same_Some}
use Rattle.stack_engine.specs.ByPlace.{AgreeUpTo, IsOpened}

pub within : {A : Type 0} (xs : List A) (n : ℕ) (x : A) → IsOpened xs n x → n ≤ length xs
within xs n x h = let c = h.counted in omega (arith, c)

pub opened-before : {A : Type 0} (y : A) (xs : List A) (n : ℕ) (x : A) → IsOpened xs n x → IsOpened (y ∷ xs) n x
opened-before y xs n x h =
    record { place = suc h.place; there = h.there; counted = (let c = h.counted in omega (arith, c)) }

pub opened-first : {A : Type 0} (x : A) (xs : List A) → IsOpened (x ∷ xs) (length xs + 1) x
opened-first x xs = record { place = zero; there = refl; counted = omega arith }

-- an incarnation is the latest, or one of those before
pub record IsLatest {A : Type 0} (y : A) (xs : List A) (n : ℕ) (x : A) : Type 0 where
  pub number : n ≡ length xs + 1
  pub is : y ≡ x

at-place : {A : Type 0} (y : A) (xs : List A) (n : ℕ) (x : A) (place : ℕ) → slice_get (y ∷ xs) place ≡ Some x
    → n + place ≡ length (y ∷ xs)
    → IsLatest y xs n x ⊎ IsOpened xs n x
at-place y xs n x zero there counted = inl (record { number = omega (arith, counted); is = same_Some y x there })
at-place y xs n x (suc place) there counted =
    inr (record { place = place; there = there; counted = omega (arith, counted) })

pub opened-cases : {A : Type 0} (y : A) (xs : List A) (n : ℕ) (x : A) → IsOpened (y ∷ xs) n x
    → IsLatest y xs n x ⊎ IsOpened xs n x
opened-cases y xs n x h = at-place y xs n x h.place h.there h.counted

pub opened-none : {A : Type 0} (n : ℕ) (x : A) → IsOpened [] n x → ⊥
opened-none n x h = none-some x h.there

-- a prefix is a list that agrees as far as it goes
pub agree : {A : Type 0} (xs ys rest : List A) → xs ++ rest ≡ ys → (n : ℕ) → n < length xs
    → slice_get xs n ≡ slice_get ys n
agree [] ys rest e n le = absurd (omega (arith, le))
agree (x ∷ xs) [] rest e n le = absurd (none-some x (sym (ap (λ zs. slice_get zs 0) e)))
agree (x ∷ xs) (y ∷ ys) rest e zero le = ap (λ zs. slice_get zs 0) e
agree (x ∷ xs) (y ∷ ys) rest e (suc n) le =
    let tails : xs ++ rest ≡ ys = cc in
    agree xs ys rest tails n (omega (arith, le))

pub begins-agree : {A : Type 0} (xs ys : List A) → IsBeginning xs ys → AgreeUpTo (length xs) xs ys
begins-agree xs ys h =
    record {
      enough = (let e = sym (length-append xs h.0) ∙ ap length h.1 in omega (arith, e));
      same = agree xs ys h.0 h.1;
    }

pub agree-begins : {A : Type 0} (xs ys : List A) → AgreeUpTo (length xs) xs ys → IsBeginning xs ys
agree-begins [] ys h = (ys, refl)
agree-begins (x ∷ xs) [] h = absurd (let e = h.enough in omega (arith, e))
agree-begins (x ∷ xs) (y ∷ ys) h =
    let rest =
    agree-begins xs ys
    (record { enough = (let e = h.enough in omega (arith, e)); same = λ n le. h.same (suc n) (omega (arith, le)) }) in
    let heads : x ≡ y = same_Some x y (h.same zero (omega arith)) in
    (rest.0, ap (λ z. z ∷ (xs ++ rest.0)) heads ∙ ap (λ zs. y ∷ zs) rest.1)

-- elements after the first ones, and among them
pub get-behind : {A : Type 0} (xs ys : List A) (n : ℕ) → slice_get (xs ++ ys) (length xs + n) ≡ slice_get ys n
get-behind [] ys n = ap (slice_get ys) (zero-add n)
get-behind (x ∷ xs) ys n =
    let e : length (x ∷ xs) + n ≡ suc (length xs + n) = omega arith in
    ap (slice_get (x ∷ (xs ++ ys))) e ∙ get-behind xs ys n

pub get-dropped : {A : Type 0} (k : ℕ) (xs : List A) (n : ℕ) → slice_get (drop k xs) n ≡ slice_get xs (k + n)
get-dropped zero xs n = ap (slice_get xs) (sym (zero-add n))
get-dropped (suc k) [] n = refl
get-dropped (suc k) (x ∷ xs) n =
    let e : suc k + n ≡ suc (k + n) = omega arith in
    get-dropped k xs n ∙ sym (ap (slice_get (x ∷ xs)) e)

pub get-taken : {A : Type 0} (k : ℕ) (xs : List A) (n : ℕ) → n < k → slice_get (take k xs) n ≡ slice_get xs n
get-taken zero xs n le = absurd (omega (arith, le))
get-taken (suc k) [] n le = refl
get-taken (suc k) (x ∷ xs) zero le = refl
get-taken (suc k) (x ∷ xs) (suc n) le = get-taken k xs n (omega (arith, le))

-- a list that is as long and has the same at each place is the same
pub same-list : {A : Type 0} (xs ys : List A) → length xs ≡ length ys
    → ((n : ℕ) → n < length xs → slice_get xs n ≡ slice_get ys n) → xs ≡ ys
same-list [] [] e same = refl
same-list [] (y ∷ ys) e same = absurd (omega (arith, e))
same-list (x ∷ xs) [] e same = absurd (omega (arith, e))
same-list (x ∷ xs) (y ∷ ys) e same =
    ap (λ z. z ∷ xs) (same_Some x y (same zero (omega arith)))
    ∙ ap (λ zs. y ∷ zs) (same-list xs ys (omega (arith, e)) (λ n le. same (suc n) (omega (arith, le))))

-- The first elements of a list are a prefix of another, and the rest is this: by lists and by places.
pub record Parted {A : Type 0} (sure : ℕ) (all whole left : List A) : Type 0 where
  pub counted : sure + length left ≡ length all
  pub first : AgreeUpTo sure all whole
  pub behind : (n : ℕ) → n < length left → slice_get left n ≡ slice_get all (sure + n)

pub front-parted : {A : Type 0} (all whole left front : List A) → IsBeginning front whole → all ≡ front ++ left
    → Parted (length front) all whole left
front-parted all whole left front h e =
    let a = begins-agree front whole h in
    record {
      counted = sym (ap length e ∙ length-append front left);
      first =
          record {
            enough = a.enough;
            same = λ n le. ap (λ zs. slice_get zs n) e ∙ sym (agree front (front ++ left) left refl n le) ∙ a.same n le;
          };
      behind = λ n le. sym (ap (λ zs. slice_get zs (length front + n)) e ∙ get-behind front left n);
    }

pub parted-begins : {A : Type 0} (all whole left : List A) (sure : ℕ) → Parted sure all whole left
    → (front : List A) × IsBeginning front whole × (all ≡ front ++ left) × (length front ≡ sure)
parted-begins all whole left sure h =
    let few : sure ≤ length all = (let c = h.counted in omega (arith, c)) in
    let long : length (take sure all) ≡ sure = length-take sure all ∙ (omega (arith, few)) in
    let rest : drop sure all ≡ left =
    sym
    (same-list left (drop sure all) (let d = length-drop sure all in let c = h.counted in omega (arith, d, c))
    (λ n le. h.behind n le ∙ sym (get-dropped sure all n))) in (
      take sure all,
      agree-begins (take sure all) whole
          (record {
            enough = (let e = h.first.enough in omega (arith, long, e));
            same =
                λ n le. (let short : n < sure = omega (arith, long, le) in get-taken sure all n short
                ∙ h.first.same n short);
          }),
      sym (take-append-drop sure all) ∙ ap (λ zs. take sure all ++ zs) rest,
      long,
    )

-- a prefix that is as long is the whole
pub as-long : {A : Type 0} (front whole : List A) → IsBeginning front whole → length front ≡ length whole
    → front ≡ whole
as-long front whole h e = same-list front whole e (agree front whole h.0 h.1)

pub get-some : {A : Type 0} (xs : List A) (k : ℕ) → k < length xs → (x : A) × (slice_get xs k ≡ Some x)
get-some [] k le = absurd (omega (arith, le))
get-some (x ∷ xs) zero le = (x, refl)
get-some (x ∷ xs) (suc k) le = get-some xs k (omega (arith, le))

-- one number is that of one
pub one-number : {A : Type 0} (xs : List A) (n : ℕ) (x y : A) → IsOpened xs n x → IsOpened xs n y → x ≡ y
one-number xs n x y h k =
    let places : h.place ≡ k.place = (let a = h.counted in let b = k.counted in omega (arith, a, b)) in
    same_Some x y (sym h.there ∙ ap (slice_get xs) places ∙ k.there)

pub latest-opened : {A : Type 0} (xs : List A) (x : A) (before : List A) → xs ≡ x ∷ before → IsOpened xs (length xs) x
latest-opened xs x before e =
    record { place = zero; there = ap (λ (ys : List _). slice_get ys zero) e; counted = omega arith }

-- elements before the rest from a place on
pub drop-get : {A : Type 0} (k : ℕ) (xs : List A) (x : A) (rest : List A) → drop k xs ≡ x ∷ rest
    → slice_get xs k ≡ Some x
drop-get zero xs x rest e = ap (λ (ys : List _). slice_get ys zero) e
drop-get (suc k) [] x rest e = absurd (none-some x (ap (λ (ys : List _). slice_get ys zero) e))
drop-get (suc k) (y ∷ xs) x rest e = drop-get k xs x rest e

pub get-drop : {A : Type 0} (k : ℕ) (xs : List A) (x : A) → slice_get xs k ≡ Some x → drop k xs ≡ x ∷ drop (suc k) xs
get-drop k [] x e = absurd (none-some x e)
get-drop zero (y ∷ xs) x e = ap (λ z. z ∷ xs) (same_Some y x e)
get-drop (suc k) (y ∷ xs) x e = get-drop k xs x e
