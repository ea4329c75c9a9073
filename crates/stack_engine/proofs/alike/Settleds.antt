-- Both tellings of "confirmed is taken" and of "settled is taken" are one, in each world of which the headline holds.
use Rattle.stack_engine.proofs.Words.{AtOpened, IsBeginning, ◌<◌, ◌≤◌, ◌-◌, ◌↔◌, length-append, length-take, nat_lt, suc, take, zero}
use Rattle.stack_engine.proofs.Words.{[], ap, append_assoc, arith, Bool, by_test, Closed, cond, EndState, eqb-true, false, Fe, FeTaken, Il, inl}
use Rattle.stack_engine.proofs.Words.{inr, is_nil, is_number, is_settled, is_shut, Item, items_unconfirmed, items_waiting, JoinedEnd, latest, length}
use Rattle.stack_engine.proofs.Words.{List, nat_tests, None, not, Option, present, put_at, refl, SettledAt, SettledFe, Side, Some, subst, sym, taken_at, taken_from_fe}
use Rattle.stack_engine.proofs.Words.{taken_from_il, true, unconfirmed, WasTaken, World, ℕ, ◌&&◌, ◌++◌, ◌+◌, ◌∙◌, ◌∷◌, ◌≡◌, ◌≢◌, ◌⊎◌}
use Rattle.std.proofs.lemmas.Option.{none-some, same_Some}
use Rattle.stack_engine.specs.Pairs.{ends_of, run, start}
use Rattle.stack_engine.specs.Settled.{Certain, CertainAt, CertainFe, CertainLaw, Settled, ConfirmedTaken, ConfirmedTakenLaw, SettledLaw, taken_by}
use Rattle.stack_end.specs.Certain.{cap_count}
use Rattle.stack_engine.specs.ByPlace.{AgreeUpTo, IsOpened}
use Rattle.stack_engine.specs.HeadlineByPlace.{HeadlineByPlace, HeadlineByPlaceLaw}
use Rattle.stack_engine.specs.OpenUnits.{held_items}
use Rattle.stack_engine.specs.SettledByPlace.{SettledByPlace, ConfirmedByPlace, AreJoined, ConfirmedByPlaceLaw, IsAccountedFor, IsDone, PartnerTook}
use Rattle.stack_engine.specs.SettledByPlace.{CertainByPlace, CertainByPlaceLaw, SettledByPlaceLaw, WasTakenAt}
use Rattle.stack_engine.proofs.alike.Closed.{closed-shut, shut-closed}
use Rattle.stack_engine.proofs.alike.Places.{agree-begins, begins-agree, front-parted, get-taken, opened-before, opened-cases, opened-first, opened-none, parted-begins, within, latest-opened, one-number}
use Rattle.stack_engine.proofs.alike.Genuines.{genuine-twice}
use Rattle.stack_engine.proofs.alike.Headlines.{opened-found}
use Rattle.stack_engine.proofs.alike.Held.{held-is, open-unconfirmed}

-- of one end
accounted : (x : EndState) (taken : List Item) → WasTaken x taken → IsAccountedFor x taken
accounted x taken w =
    let p = front-parted (put_at x) taken (held_items x) w.0 w.1 (w.2
    ∙ append_assoc w.0 (items_unconfirmed x) (items_waiting x) ∙ ap (λ rest. w.0 ++ rest) (sym (held-is x))) in
    record { sure = length w.0; counted = p.counted; was_taken = p.first; is_held = p.behind }

was-taken : (x : EndState) (taken : List Item) → IsAccountedFor x taken → WasTaken x taken
was-taken x taken a =
    let b =
    parted-begins (put_at x) taken (held_items x) a.sure
    (record { counted = a.counted; first = a.was_taken; behind = a.is_held }) in (
      b.0,
      b.1,
      b.2 ∙ ap (λ rest. b.0 ++ rest) (held-is x)
          ∙ sym (append_assoc b.0 (items_unconfirmed x) (items_waiting x)),
    )

nil-is : {A : Type 0} (xs : List A) → is_nil xs ≡ true → xs ≡ []
nil-is [] e = refl
nil-is (x ∷ xs) e = absurd (false-true e)
  where
    false-true : false ≡ true → ⊥
    false-true e = cc

done : (x : EndState) → is_settled x ≡ true → IsDone x
done x e =
    let one = grind-parts (is_shut x) (is_nil x.session.waiting) (is_nil (unconfirmed x.machine)) e in
    record {
      lives = shut-closed x.machine.connection one.0;
      no_message = nil-is x.session.waiting one.1;
      no_unit = open-unconfirmed x ∙ nil-is (unconfirmed x.machine) one.2;
    }
  where
    grind-parts : (a b c : Bool) → not a && (b && c) ≡ true → (a ≡ false) × (b ≡ true) × (c ≡ true)
    grind-parts true b c e = absurd (let f : false ≡ true → ⊥ = λ k. cc in f e)
    grind-parts false true true e = (refl, refl, refl)
    grind-parts false true false e = absurd (let f : false ≡ true → ⊥ = λ k. cc in f e)
    grind-parts false false c e = absurd (let f : false ≡ true → ⊥ = λ k. cc in f e)

is-done : (x : EndState) → IsDone x → is_settled x ≡ true
is-done x d =
    all-hold (is_shut x) (is_nil x.session.waiting) (is_nil (unconfirmed x.machine))
    (closed-shut x.machine.connection d.lives)
    (ap is_nil d.no_message) (ap is_nil (sym (open-unconfirmed x) ∙ d.no_unit))
  where
    all-hold : (a b c : Bool) → a ≡ false → b ≡ true → c ≡ true → not a && (b && c) ≡ true
    all-hold a b c p q r = rw (p, q, r) refl

settled-agrees : (x : EndState) (taken : List Item) → SettledAt x taken → IsDone x
    → AgreeUpTo (length (put_at x)) (put_at x) taken
settled-agrees x taken h d = begins-agree (put_at x) taken (h (is-done x d))

agrees-settled : (x : EndState) (taken : List Item) → (IsDone x → AgreeUpTo (length (put_at x)) (put_at x) taken)
    → SettledAt x taken
agrees-settled x taken h e = agree-begins (put_at x) taken (h (done x e))

-- the first elements, as many as remain of a count, are a prefix: by lists and by places
prefix-places : (p t : List Item) (h c : ℕ) → c ≤ length p → IsBeginning (take (c - h) p) t → (n : ℕ) → n + h < c
    → WasTakenAt n p t
prefix-places p t h c few b n le =
    let a = begins-agree (take (c - h) p) t b in
    let long : length (take (c - h) p) ≡ c - h = length-take (c - h) p ∙ (omega (arith, few)) in
    let inside : n < c - h = omega (arith, le) in
    let short : n < length (take (c - h) p) = omega (arith, long, inside) in
    let enough = a.enough in
    record { enough = omega (arith, short, enough); same = sym (get-taken (c - h) p n inside) ∙ a.same n short }

last-taken : (p t : List Item) (h c k : ℕ) → k + h ≤ c → ((n : ℕ) → n + h < c → WasTakenAt n p t) → k ≤ length t
last-taken p t h c zero le w = omega arith
last-taken p t h c (suc n) le w = let e = (w n (omega (arith, le))).enough in omega (arith, e)

taken-length : (p t : List Item) (h c : ℕ) → ((n : ℕ) → n + h < c → WasTakenAt n p t) → (b : Bool) → nat_lt h c ≡ b
    → c - h ≤ length t
taken-length p t h c w true e = last-taken p t h c (c - h) (grind (arith, nat_tests, e)) w
taken-length p t h c w false e = let none : c - h ≡ 0 = grind (arith, nat_tests, e) in omega (arith, none)

places-prefix : (p t : List Item) (h c : ℕ) → c ≤ length p → ((n : ℕ) → n + h < c → WasTakenAt n p t)
    → IsBeginning (take (c - h) p) t
places-prefix p t h c few w =
    let long : length (take (c - h) p) ≡ c - h = length-take (c - h) p ∙ (omega (arith, few)) in
    let all = taken-length p t h c w (nat_lt h c) refl in
    agree-begins (take (c - h) p) t
    (record {
      enough = omega (arith, long, all);
      same = λ n le.
          (let inside : n < c - h = omega (arith, long, le) in
          let near : n + h < c = omega (arith, inside) in
          get-taken (c - h) p n inside ∙ (w n near).same);
    })

counted-few : (n : ℕ) → cap_count n ≤ n
counted-few n = omega arith

held-length : (x : EndState) → length (items_waiting x) + length (items_unconfirmed x) ≡ length (held_items x)
held-length x =
    let e = ap length (held-is x) ∙ length-append (items_unconfirmed x) (items_waiting x) in
    omega (arith, e)

certain-places : (x : EndState) (t : List Item) → CertainAt x t
    → (n : ℕ) → n + length (held_items x) < cap_count (length (put_at x)) → WasTakenAt n (put_at x) t
certain-places x t c =
    prefix-places (put_at x) t (length (held_items x)) (cap_count (length (put_at x))) (counted-few (length (put_at x)))
    (subst (λ h. IsBeginning (take (cap_count (length (put_at x)) - h) (put_at x)) t) (held-length x) c)

places-certain : (x : EndState) (t : List Item)
    → ((n : ℕ) → n + length (held_items x) < cap_count (length (put_at x)) → WasTakenAt n (put_at x) t)
    → CertainAt x t
places-certain x t w =
    subst (λ h. IsBeginning (take (cap_count (length (put_at x)) - h) (put_at x)) t) (sym (held-length x))
    (places-prefix (put_at x) t (length (held_items x)) (cap_count (length (put_at x)))
    (counted-few (length (put_at x))) w)

-- What the partner of an interlocking took: the field element joined to its number is one.
number-is : (n m : ℕ) (joined : Option ℕ) → joined ≡ Some m → m ≡ n → is_number n joined ≡ true
number-is n m None e is = absurd (none-some m e)
number-is n m (Some k) e is = let f = same_Some k m e in grind (arith, nat_tests, f, is)

is-number : (n : ℕ) (joined : Option ℕ) → is_number n joined ≡ true → joined ≡ Some n
is-number n None e = absurd (let f : false ≡ true → ⊥ = λ k. cc in f e)
is-number n (Some k) e = ap Some (eqb-true k n e)

-- of each field element that is joined to n
abbrev JoinedAt : List JoinedEnd → ℕ → ℕ → JoinedEnd → Type 0
JoinedAt fes n i f = IsOpened fes i f × (f.joined ≡ Some n)

found-from : (fes : List JoinedEnd) (n i : ℕ) (f : JoinedEnd) → JoinedAt fes n i f
    → ((j : ℕ) (e : JoinedEnd) → JoinedAt fes n j e → j ≡ i) → taken_from_il n fes ≡ taken_at f.end
found-from [] n i f h one = absurd (opened-none i f h.0)
found-from (x ∷ before) n i f h one =
    elim (opened-cases x before i f h.0) [
      | inl it ↦
          ap (λ b. cond b (taken_at x.end) (taken_from_il n before))
          (number-is n n x.joined (ap (λ (y : JoinedEnd). y.joined) it.is ∙ h.1) refl)
          ∙ ap (λ (y : JoinedEnd). taken_at y.end) it.is
      | inr older ↦
          by_test (λ b. is_number n x.joined ≡ b → cond b (taken_at x.end) (taken_from_il n before) ≡ taken_at f.end)
          (is_number n x.joined)
          (λ is is'. absurd
          (let same = one (length before + 1) x (opened-first x before, is-number n x.joined is) in
          let w = within before i f older in
          omega (arith, same, w)))
          (λ is is'. found-from before n i f (older, h.1) (λ j e o. one j e (opened-before x before j e o.0, o.1))) refl
    ]

nobody-from : (fes : List JoinedEnd) (n : ℕ) → ((i : ℕ) (f : JoinedEnd) → JoinedAt fes n i f → ⊥)
    → taken_from_il n fes ≡ []
nobody-from [] n none = refl
nobody-from (x ∷ before) n none =
    by_test (λ b. is_number n x.joined ≡ b → cond b (taken_at x.end) (taken_from_il n before) ≡ [])
    (is_number n x.joined)
    (λ is is'. absurd (none (length before + 1) x (opened-first x before, is-number n x.joined is)))
    (λ is is'. nobody-from before n (λ i f o. none i f (opened-before x before i f o.0, o.1))) refl

-- somebody is joined to it or nobody is
record Somebody (fes : List JoinedEnd) (n : ℕ) : Type 0 where
  i : ℕ
  f : JoinedEnd
  at : JoinedAt fes n i f

somebody : (fes : List JoinedEnd) (n : ℕ) → Somebody fes n ⊎ ((i : ℕ) (f : JoinedEnd) → JoinedAt fes n i f → ⊥)
somebody [] n = inr (λ i f h. opened-none i f h.0)
somebody (x ∷ before) n =
    by_test (λ b. is_number n x.joined ≡ b → Somebody (x ∷ before) n ⊎ ((i : ℕ) (f : JoinedEnd)
    → JoinedAt (x ∷ before) n i f → ⊥)) (is_number n x.joined)
    (λ is is'. inl (record { i = length before + 1; f = x; at = (opened-first x before, is-number n x.joined is) }))
    (λ is is'.
    elim (somebody before n) [
      | inl s ↦ inl (record { i = s.i; f = s.f; at = (opened-before x before s.i s.f s.at.0, s.at.1) })
      | inr none ↦
          inr
          (λ i f h.
          elim (opened-cases x before i f h.0) [
            | inl it ↦
                absurd
                (let t : true ≡ false =
                sym (number-is n n x.joined (ap (λ (y : JoinedEnd). y.joined) it.is ∙ h.1) refl) ∙ is in
                let f : true ≡ false → ⊥ = λ k. cc in
                f t)
            | inr older ↦ none i f (older, h.1)
          ])
    ]) refl

-- who is joined to one number is one
neither : (i j : ℕ) → (i < j → ⊥) → (j < i → ⊥) → j ≡ i
neither i j p q = omega arith

not-less : (n : ℕ) → n < n → ⊥
not-less n h = omega arith

one-joined : (w : World) → HeadlineByPlace w → (n i j : ℕ) (f e : JoinedEnd) → JoinedAt w.fes n i f
    → JoinedAt w.fes n j e → j ≡ i
one-joined w h n i j f e a b =
    neither i j (λ le. not-less n (h.later_with_later i j n n f e a.0 b.0 a.1 b.1 le))
    (λ le. not-less n (h.later_with_later j i n n e f b.0 a.0 b.1 a.1 le))

joins : (w : World) → HeadlineByPlace w → (n i : ℕ) (f : JoinedEnd) → JoinedAt w.fes n i f
    → (g : EndState) × AreJoined w i n f.end g
joins w h n i f a =
    let p = h.partners i n f a.0 a.1 in
    (p.il, record { joined = f; opened = a.0; is = refl; to = a.1; il_opened = p.opened })

il-took : (w : World) → HeadlineByPlace w → (t : List Item) → PartnerTook w Il t
    → t ≡ taken_from_il (length w.ils) w.fes
il-took w h t took =
    elim took [
      | inl s ↦
          (let j = s.1.2 in
          s.2 ∙ ap taken_at (sym j.is)
          ∙ sym
          (found-from w.fes (length w.ils) s.1.0 j.joined (j.opened, j.to)
          (λ k e o. one-joined w h (length w.ils) s.1.0 k j.joined e (j.opened, j.to) o)))
      | inr none ↦
          none.1
          ∙ sym
          (nobody-from w.fes (length w.ils)
          (λ i f a. let j = joins w h (length w.ils) i f a in none.0 f.end (i, j.0, j.1)))
    ]

il-has : (w : World) → HeadlineByPlace w → PartnerTook w Il (taken_from_il (length w.ils) w.fes)
il-has w h =
    elim (somebody w.fes (length w.ils)) [
      | inl s ↦
          (let j = joins w h (length w.ils) s.i s.f s.at in
          inl (
            s.f.end,
            (s.i, j.0, j.1),
            found-from w.fes (length w.ils) s.i s.f s.at (λ k e o. one-joined w h (length w.ils) s.i k s.f e s.at o),
          ))
      | inr none ↦
          inr ((λ y p. none p.0 p.2.joined (p.2.opened, p.2.to)), nobody-from w.fes (length w.ils) none)
    ]

fe-took : (w : World) → HeadlineByPlace w → (f : JoinedEnd) → IsOpened w.fes (length w.fes) f → (t : List Item)
    → PartnerTook w Fe t
    → (joined : Option ℕ) → f.joined ≡ joined → t ≡ taken_from_fe w.ils joined
fe-took w h f o t (inl s) joined e =
    let j = s.1.2 in
    let to : joined ≡ Some s.1.0 =
    sym e ∙ ap (λ (y : JoinedEnd). y.joined) (one-number w.fes (length w.fes) f j.joined o j.opened) ∙ j.to in
    s.2
    ∙ sym (ap (taken_from_fe w.ils) to ∙ ap taken_by (opened-found w.ils s.1.0 s.0 j.il_opened))
fe-took w h f o t (inr none) None e = none.1
fe-took w h f o t (inr none) (Some n) e =
    absurd (let j = joins w h n (length w.fes) f (o, e) in none.0 j.0 (n, f.end, j.1))

fe-has : (w : World) → HeadlineByPlace w → (f : JoinedEnd) → IsOpened w.fes (length w.fes) f
    → (joined : Option ℕ) → f.joined ≡ joined → PartnerTook w Fe (taken_from_fe w.ils joined)
fe-has w h f o None e =
    inr (
      (λ y p. none-some p.0
          (sym e ∙ ap (λ (y : JoinedEnd). y.joined) (one-number w.fes (length w.fes) f p.2.joined o p.2.opened)
          ∙ p.2.to)),
      refl,
    )
fe-has w h f o (Some n) e =
    let j = joins w h n (length w.fes) f (o, e) in
    inl (j.0, (n, f.end, j.1), ap taken_by (opened-found w.ils n j.0 j.1.il_opened))

-- what is said of each present end and of what its partner took
abbrev AtFe : (EndState → List Item → Type 0) → List EndState → List JoinedEnd → Type 0
AtFe P ils [] = Unit {0}
AtFe P ils (f ∷ fs) = P f.end (taken_from_fe ils f.joined)

abbrev AtIl : (EndState → List Item → Type 0) → World → Option EndState → Type 0
AtIl P w None = Unit {0}
AtIl P w (Some g) = P g (taken_from_il (length w.ils) w.fes)

abbrev AtEach : (EndState → List Item → Type 0) → World → Type 0
AtEach P w = (side : Side) (x : EndState) (t : List Item) → present side w ≡ Some x → PartnerTook w side t → P x t

il-each : (P : EndState → List Item → Type 0) (w : World) → HeadlineByPlace w → (r : Option EndState) → present Il w ≡ r
    → AtIl P w r
    → (x : EndState) (t : List Item) → present Il w ≡ Some x → PartnerTook w Il t → P x t
il-each P w h None e at x t is took = absurd (none-some x (sym e ∙ is))
il-each P w h (Some g) e at x t is took =
    subst (λ y. P y t) (same_Some g x (sym e ∙ is)) (subst (P g) (sym (il-took w h t took)) at)

each-il : (P : EndState → List Item → Type 0) (w : World) → HeadlineByPlace w → AtEach P w → (r : Option EndState)
    → present Il w ≡ r → AtIl P w r
each-il P w h each None e = tt
each-il P w h each (Some g) e = each Il g (taken_from_il (length w.ils) w.fes) e (il-has w h)

fe-each : (P : EndState → List Item → Type 0) (w : World) → HeadlineByPlace w → (fes : List JoinedEnd) → w.fes ≡ fes
    → AtFe P w.ils fes
    → (x : EndState) (t : List Item) → present Fe w ≡ Some x → PartnerTook w Fe t → P x t
fe-each P w h [] e at x t is took = absurd (none-some x (sym (ap (λ fs. latest (ends_of fs)) e) ∙ is))
fe-each P w h (f ∷ fs) e at x t is took =
    subst (λ y. P y t) (same_Some f.end x (sym (ap (λ fs. latest (ends_of fs)) e) ∙ is))
    (subst (P f.end) (sym (fe-took w h f (latest-opened w.fes f fs e) t took f.joined refl)) at)

each-fe : (P : EndState → List Item → Type 0) (w : World) → HeadlineByPlace w → AtEach P w → (fes : List JoinedEnd)
    → w.fes ≡ fes → AtFe P w.ils fes
each-fe P w h each [] e = tt
each-fe P w h each (f ∷ fs) e =
    each Fe f.end (taken_from_fe w.ils f.joined) (ap (λ fs. latest (ends_of fs)) e)
    (fe-has w h f (latest-opened w.fes f fs e) f.joined refl)

-- the three promises of a present end
abbrev Accounts : EndState → List Item → Type 0
Accounts x t = IsAccountedFor x t

abbrev Agrees : EndState → List Item → Type 0
Agrees x t = IsDone x → AgreeUpTo (length (put_at x)) (put_at x) t

abbrev Places : EndState → List Item → Type 0
Places x t = (n : ℕ) → n + length (held_items x) < cap_count (length (put_at x)) → WasTakenAt n (put_at x) t

il-taken : (w : World) (r : Option EndState)
    → AtOpened (λ g. WasTaken g (taken_from_il (length w.ils) w.fes)) r ↔ AtIl Accounts w r
il-taken w None = ((λ h. tt), (λ h. tt))
il-taken w (Some g) =
    (accounted g (taken_from_il (length w.ils) w.fes), was-taken g (taken_from_il (length w.ils) w.fes))

fe-taken : (ils : List EndState) (fes : List JoinedEnd) → FeTaken ils fes ↔ AtFe Accounts ils fes
fe-taken ils [] = ((λ h. tt), (λ h. tt))
fe-taken ils (f ∷ fs) = (accounted f.end (taken_from_fe ils f.joined), was-taken f.end (taken_from_fe ils f.joined))

il-settled : (w : World) (r : Option EndState)
    → AtOpened (λ g. SettledAt g (taken_from_il (length w.ils) w.fes)) r ↔ AtIl Agrees w r
il-settled w None = ((λ h. tt), (λ h. tt))
il-settled w (Some g) =
    (settled-agrees g (taken_from_il (length w.ils) w.fes), agrees-settled g (taken_from_il (length w.ils) w.fes))

fe-settled : (ils : List EndState) (fes : List JoinedEnd) → SettledFe ils fes ↔ AtFe Agrees ils fes
fe-settled ils [] = ((λ h. tt), (λ h. tt))
fe-settled ils (f ∷ fs) =
    (settled-agrees f.end (taken_from_fe ils f.joined), agrees-settled f.end (taken_from_fe ils f.joined))

il-certain : (w : World) (r : Option EndState)
    → AtOpened (λ g. CertainAt g (taken_from_il (length w.ils) w.fes)) r ↔ AtIl Places w r
il-certain w None = ((λ h. tt), (λ h. tt))
il-certain w (Some g) =
    (certain-places g (taken_from_il (length w.ils) w.fes), places-certain g (taken_from_il (length w.ils) w.fes))

fe-certain : (ils : List EndState) (fes : List JoinedEnd) → CertainFe ils fes ↔ AtFe Places ils fes
fe-certain ils [] = ((λ h. tt), (λ h. tt))
fe-certain ils (f ∷ fs) =
    (certain-places f.end (taken_from_fe ils f.joined), places-certain f.end (taken_from_fe ils f.joined))

of-sides : (P : EndState → List Item → Type 0) (w : World) → HeadlineByPlace w → AtIl P w (present Il w)
    → AtFe P w.ils w.fes → AtEach P w
of-sides P w h il fe Il = il-each P w h (present Il w) refl il
of-sides P w h il fe Fe = fe-each P w h w.fes refl fe

pub confirmed-twice : (w : World) → HeadlineByPlace w → (ConfirmedTaken w ↔ ConfirmedByPlace w)
confirmed-twice w h = (
  λ c. of-sides Accounts w h ((il-taken w (present Il w)).0 c.0) ((fe-taken w.ils w.fes).0 c.1),
  λ c. (
    (il-taken w (present Il w)).1 (each-il Accounts w h c (present Il w) refl),
    (fe-taken w.ils w.fes).1 (each-fe Accounts w h c w.fes refl),
  ),
)

pub settled-twice : (w : World) → HeadlineByPlace w → (Settled w ↔ SettledByPlace w)
settled-twice w h = (
  λ c. of-sides Agrees w h ((il-settled w (present Il w)).0 c.0) ((fe-settled w.ils w.fes).0 c.1),
  λ c. (
    (il-settled w (present Il w)).1 (each-il Agrees w h c (present Il w) refl),
    (fe-settled w.ils w.fes).1 (each-fe Agrees w h c w.fes refl),
  ),
)

pub confirmed-again : HeadlineByPlaceLaw → ConfirmedTakenLaw → ConfirmedByPlaceLaw
confirmed-again headline law es typed genuine =
    (confirmed-twice (run es start) (headline es typed genuine)).0 (law es typed ((genuine-twice es start).1 genuine))

pub settled-again : HeadlineByPlaceLaw → SettledLaw → SettledByPlaceLaw
settled-again headline law es typed genuine =
    (settled-twice (run es start) (headline es typed genuine)).0 (law es typed ((genuine-twice es start).1 genuine))

pub certain-twice : (w : World) → HeadlineByPlace w → (Certain w ↔ CertainByPlace w)
certain-twice w h = (
  λ c. of-sides Places w h ((il-certain w (present Il w)).0 c.0) ((fe-certain w.ils w.fes).0 c.1),
  λ c. (
    (il-certain w (present Il w)).1 (each-il Places w h c (present Il w) refl),
    (fe-certain w.ils w.fes).1 (each-fe Places w h c w.fes refl),
  ),
)

pub certain-again : HeadlineByPlaceLaw → CertainLaw → CertainByPlaceLaw
certain-again headline law es typed genuine =
    (certain-twice (run es start) (headline es typed genuine)).0 (law es typed ((genuine-twice es start).1 genuine))
