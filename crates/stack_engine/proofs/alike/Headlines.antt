-- Both tellings of the headline are one.
use Rattle.stack_engine.proofs.Words.{◌↔◌, [], AllTakeBeginnings, ap, arith, by_test, cond, EndState, eqb-true, false, incarnation, inl, inr, IsBeginning, IsJoined}
use Rattle.stack_engine.proofs.Words.{JoinedBelow, JoinedEnd, JoinsFall, length, List, MatchOption, nat_tests, next_bound, None, OnlyJoinedTake, Option, put_at, refl}
use Rattle.stack_engine.proofs.Words.{Some, subst, sym, taken_at, TakesBeginnings, World, ℕ, ◌+◌, ◌<◌, ◌==◌, ◌∙◌, ◌∷◌, ◌≡◌, ◌≢◌, ◌≤◌, ◌⊎◌}
use Rattle.std.proofs.lemmas.Option.{none-some, same_Some}
use Rattle.stack_engine.specs.Headline.{Headline, HeadlineLaw}
use Rattle.stack_engine.specs.Pairs.{run, start}
use Rattle.stack_engine.specs.ByPlace.{IsOpened}
use Rattle.stack_engine.specs.HeadlineByPlace.{HasPartner, HeadlineByPlace, HeadlineByPlaceLaw}
use Rattle.stack_engine.proofs.alike.Genuines.{genuine-twice}
use Rattle.stack_engine.proofs.alike.Places.{agree-begins, begins-agree, opened-before, opened-cases, opened-first, opened-none, within}

-- the incarnation with a number is the one opened as that
pub found-opened : (ils : List EndState) (n : ℕ) (g : EndState) → incarnation ils n ≡ Some g → IsOpened ils n g
found-opened [] n g e = absurd (none-some g e)
found-opened (x ∷ before) n g e =
    by_test (λ b. n == length before + 1 ≡ b → cond b (Some x) (incarnation before n) ≡ Some g
    → IsOpened (x ∷ before) n g)
    (n == length before + 1)
    (λ is is' at. subst (λ y. IsOpened (x ∷ before) n y) (same_Some x g at)
    (subst (λ k. IsOpened (x ∷ before) k x) (sym (eqb-true n (length before + 1) is)) (opened-first x before)))
    (λ is is' at. opened-before x before n g (found-opened before n g at)) refl e

first-found : (x : EndState) (before : List EndState) (n : ℕ) → n ≡ length before + 1
    → incarnation (x ∷ before) n ≡ Some x
first-found x before n e = grind (arith, nat_tests, e)

other-found : (x : EndState) (before : List EndState) (n : ℕ) → n ≤ length before
    → incarnation (x ∷ before) n ≡ incarnation before n
other-found x before n le = grind (arith, nat_tests, le)

pub opened-found : (ils : List EndState) (n : ℕ) (g : EndState) → IsOpened ils n g → incarnation ils n ≡ Some g
opened-found [] n g h = absurd (opened-none n g h)
opened-found (x ∷ before) n g h =
    elim (opened-cases x before n g h) [
      | inl it ↦ first-found x before n it.number ∙ ap Some it.is
      | inr older ↦ other-found x before n (within before n g older) ∙ opened-found before n g older
    ]

-- partners took prefixes of what the other put
partner : (ils : List EndState) (n : ℕ) (f : EndState) (r : Option EndState) → incarnation ils n ≡ r
    → MatchOption r ⊥ (λ g. IsBeginning (taken_at f) (put_at g) × IsBeginning (taken_at g) (put_at f))
    → HasPartner ils n f
partner ils n f None e h = absurd h
partner ils n f (Some g) e h =
    record {
      il = g;
      opened = found-opened ils n g e;
      commands = begins-agree (taken_at f) (put_at g) h.0;
      status = begins-agree (taken_at g) (put_at f) h.1;
    }

has-partner : (ils : List EndState) (n : ℕ) (f : EndState) (joined : Option ℕ) → joined ≡ Some n
    → TakesBeginnings ils f joined → HasPartner ils n f
has-partner ils n f None e h = absurd (none-some n e)
has-partner ils n f (Some m) e h =
    subst (λ k. HasPartner ils k f) (same_Some m n e) (partner ils m f (incarnation ils m) refl h)

is-alone : (ils : List EndState) (f : EndState) (joined : Option ℕ) → joined ≡ None → TakesBeginnings ils f joined
    → taken_at f ≡ []
is-alone ils f None e h = h
is-alone ils f (Some m) e h = absurd (none-some m (sym e))

takes-beginnings : (ils : List EndState) (f : EndState) (joined : Option ℕ)
    → ((n : ℕ) → joined ≡ Some n → HasPartner ils n f)
    → (joined ≡ None → taken_at f ≡ []) → TakesBeginnings ils f joined
takes-beginnings ils f None partners alone = alone refl
takes-beginnings ils f (Some n) partners alone =
    let h = partners n refl in
    subst (λ r. MatchOption r ⊥ (λ g. IsBeginning (taken_at f) (put_at g) × IsBeginning (taken_at g) (put_at f)))
    (sym (opened-found ils n h.il h.opened))
    (agree-begins (taken_at f) (put_at h.il) h.commands, agree-begins (taken_at h.il) (put_at f) h.status)

-- of each incarnation of the field element
one-takes : (ils : List EndState) (fes : List JoinedEnd) (i : ℕ) (f : JoinedEnd) → AllTakeBeginnings ils fes
    → IsOpened fes i f
    → TakesBeginnings ils f.end f.joined
one-takes ils [] i f all h = absurd (opened-none i f h)
one-takes ils (e ∷ before) i f all h =
    elim (opened-cases e before i f h) [
      | inl it ↦ subst (λ (y : JoinedEnd). TakesBeginnings ils y.end y.joined) it.is all.0
      | inr older ↦ one-takes ils before i f all.1 older
    ]

all-take : (ils : List EndState) (fes : List JoinedEnd)
    → ((i : ℕ) (f : JoinedEnd) → IsOpened fes i f → TakesBeginnings ils f.end f.joined) → AllTakeBeginnings ils fes
all-take ils [] each = tt
all-take ils (f ∷ before) each = (
  each (length before + 1) f (opened-first f before),
  all-take ils before (λ i e h. each i e (opened-before f before i e h)),
)

-- later ones are joined to later ones
bound-falls : (bound : ℕ) (joined : Option ℕ) → JoinedBelow bound joined → next_bound bound joined ≤ bound
bound-falls bound None h = omega arith
bound-falls bound (Some m) h = omega (arith, h)

joined-below : (bound n : ℕ) (joined : Option ℕ) → joined ≡ Some n → JoinedBelow bound joined → n < bound
joined-below bound n None e h = absurd (none-some n e)
joined-below bound n (Some m) e h = subst (λ k. k < bound) (same_Some m n e) h

next-below : (bound n : ℕ) (joined : Option ℕ) → joined ≡ Some n → next_bound bound joined ≡ n
next-below bound n None e = absurd (none-some n e)
next-below bound n (Some m) e = same_Some m n e

all-below : (bound : ℕ) (fes : List JoinedEnd) → JoinsFall bound fes → (i n : ℕ) (f : JoinedEnd) → IsOpened fes i f
    → f.joined ≡ Some n → n < bound
all-below bound [] falls i n f h e = absurd (opened-none i f h)
all-below bound (x ∷ before) falls i n f h e =
    elim (opened-cases x before i f h) [
      | inl it ↦ joined-below bound n x.joined (ap (λ (y : JoinedEnd). y.joined) it.is ∙ e) falls.0
      | inr older ↦
          (let lower = all-below (next_bound bound x.joined) before falls.1 i n f older e in
          let fallen = bound-falls bound x.joined falls.0 in
          omega (arith, lower, fallen))
    ]

later-later : (bound : ℕ) (fes : List JoinedEnd) → JoinsFall bound fes → (i j m n : ℕ) (e f : JoinedEnd)
    → IsOpened fes i e → IsOpened fes j f
    → e.joined ≡ Some m → f.joined ≡ Some n → i < j → m < n
later-later bound [] falls i j m n e f he hf je jf le = absurd (opened-none i e he)
later-later bound (x ∷ before) falls i j m n e f he hf je jf le =
    elim (opened-cases x before i e he) [
      | inl it ↦ absurd (let a = within (x ∷ before) j f hf in let b = it.number in omega (arith, a, b, le))
      | inr older ↦ elim (opened-cases x before j f hf) [
        | inl it ↦
            subst (λ k. m < k) (next-below bound n x.joined (ap (λ (y : JoinedEnd). y.joined) it.is ∙ jf))
            (all-below (next_bound bound x.joined) before falls.1 i m e older je)
        | inr old ↦ later-later (next_bound bound x.joined) before falls.1 i j m n e f older old je jf le
      ]
    ]

below : (bound : ℕ) (joined : Option ℕ) → ((n : ℕ) → joined ≡ Some n → n < bound) → JoinedBelow bound joined
below bound None h = tt
below bound (Some n) h = h n refl

next : (bound : ℕ) (joined : Option ℕ) (m : ℕ) → m < bound → ((n : ℕ) → joined ≡ Some n → m < n)
    → m < next_bound bound joined
next bound None m le h = le
next bound (Some n) m le h = h n refl

falls : (bound : ℕ) (fes : List JoinedEnd)
    → ((i n : ℕ) (f : JoinedEnd) → IsOpened fes i f → f.joined ≡ Some n → n < bound)
    → ((i j m n : ℕ) (e f : JoinedEnd) → IsOpened fes i e → IsOpened fes j f → e.joined ≡ Some m → f.joined ≡ Some n
    → i < j → m < n)
    → JoinsFall bound fes
falls bound [] under order = tt
falls bound (x ∷ before) under order = (
  below bound x.joined (λ n e. under (length before + 1) n x (opened-first x before) e),
  falls (next_bound bound x.joined) before
      (λ i n f h e.
      next bound x.joined n (under i n f (opened-before x before i f h) e)
      (λ k is.
      order i (length before + 1) n k f x (opened-before x before i f h) (opened-first x before) e is
      (let w = within before i f h in omega (arith, w))))
      (λ i j m n e f he hf. order i j m n e f (opened-before x before i e he) (opened-before x before j f hf)),
)

-- whether somebody is joined to a number
joined-opened : (n : ℕ) (fes : List JoinedEnd) → IsJoined n fes
    → ((i : ℕ) (f : JoinedEnd) → IsOpened fes i f → f.joined ≢ Some n) → ⊥
joined-opened n [] h none = h
joined-opened n (f ∷ before) h none =
    elim h [
      | inl e ↦ none (length before + 1) f (opened-first f before) e
      | inr rest ↦ joined-opened n before rest (λ i g o. none i g (opened-before f before i g o))
    ]

same-number : (n : ℕ) (joined : Option ℕ) → (joined ≡ Some n) ⊎ (joined ≢ Some n)
same-number n None = inr (λ e. none-some n e)
same-number n (Some m) =
    by_test (λ b. (m == n ≡ b) → (Some m ≡ Some n) ⊎ (Some m ≢ Some n)) (m == n)
    (λ is is'. inl (ap Some (eqb-true m n is)))
    (λ is is'. inr (λ e. differs m n is (same_Some m n e))) refl
  where
    differs : (a b : ℕ) → a == b ≡ false → a ≡ b → ⊥
    differs a b h e = grind (arith, nat_tests)

joined-or-not : (n : ℕ) (fes : List JoinedEnd)
    → IsJoined n fes ⊎ ((i : ℕ) (f : JoinedEnd) → IsOpened fes i f → f.joined ≢ Some n)
joined-or-not n [] = inr (λ i f o e. opened-none i f o)
joined-or-not n (f ∷ before) =
    elim (same-number n f.joined) [
      | inl e ↦ inl (inl e)
      | inr not ↦ elim (joined-or-not n before) [
        | inl rest ↦ inl (inr rest)
        | inr none ↦
            inr
            (λ i g o e.
            elim (opened-cases f before i g o) [
              | inl it ↦ not (ap (λ (y : JoinedEnd). y.joined) it.is ∙ e)
              | inr older ↦ none i g older e
            ])
      ]
    ]

lone : (fes : List JoinedEnd) (ils : List EndState) → OnlyJoinedTake fes ils → (n : ℕ) (g : EndState) → IsOpened ils n g
    → ((i : ℕ) (f : JoinedEnd) → IsOpened fes i f → f.joined ≢ Some n) → taken_at g ≡ []
lone fes [] only n g o none = absurd (opened-none n g o)
lone fes (x ∷ before) only n g o none =
    elim (opened-cases x before n g o) [
      | inl it ↦
          elim only.0 [
            | inl e ↦ subst (λ y. taken_at y ≡ []) it.is e
            | inr joined ↦
                absurd (joined-opened (length before + 1) fes joined
                (subst (λ k. (i : ℕ) (f : JoinedEnd) → IsOpened fes i f → f.joined ≢ Some k) it.number none))
          ]
      | inr older ↦ lone fes before only.1 n g older none
    ]

only-joined : (fes : List JoinedEnd) (ils : List EndState)
    → ((n : ℕ) (g : EndState) → IsOpened ils n g → ((i : ℕ) (f : JoinedEnd) → IsOpened fes i f → f.joined ≢ Some n)
    → taken_at g ≡ [])
    → OnlyJoinedTake fes ils
only-joined fes [] alone = tt
only-joined fes (x ∷ before) alone = (
  elim (joined-or-not (length before + 1) fes)
      [ inl joined ↦ inr joined | inr none ↦ inl (alone (length before + 1) x (opened-first x before) none) ],
  only-joined fes before (λ n g o. alone n g (opened-before x before n g o)),
)

by-place : (w : World) → Headline w → HeadlineByPlace w
by-place w h =
    record {
      partners = λ i n f o e. has-partner w.ils n f.end f.joined e (one-takes w.ils w.fes i f h.beginnings o);
      later_with_later = later-later (length w.ils + 1) w.fes h.joins_fall;
      lone_fe = λ i f o e. is-alone w.ils f.end f.joined e (one-takes w.ils w.fes i f h.beginnings o);
      lone_il = lone w.fes w.ils h.only_joined;
    }

by-recursion : (w : World) → HeadlineByPlace w → Headline w
by-recursion w h =
    record {
      beginnings =
          all-take w.ils w.fes (λ i f o. takes-beginnings w.ils f.end f.joined (λ n e. h.partners i n f o e)
          (λ e. h.lone_fe i f o e));
      joins_fall =
          falls (length w.ils + 1) w.fes
          (λ i n f o e. let p = h.partners i n f o e in let k = within w.ils n p.il p.opened in omega (arith, k))
          h.later_with_later;
      only_joined = only-joined w.fes w.ils h.lone_il;
    }

pub headline-twice : (w : World) → Headline w ↔ HeadlineByPlace w
headline-twice w = (by-place w, by-recursion w)

pub headline-again : HeadlineLaw → HeadlineByPlaceLaw
headline-again law es typed genuine = by-place (run es start) (law es typed ((genuine-twice es start).1 genuine))
