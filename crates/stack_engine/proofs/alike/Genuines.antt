-- Both tellings of Genuine are one.
use Rattle.stack_engine.proofs.Words.{[], AllByRecursion, ap, arith, arrivals_of, AtArrivals, AtOpened, Bool, by_test, bytes_eq, bytes_eq-Decides, Call, Calls}
use Rattle.stack_engine.proofs.Words.{code_octets, cond, Datagram, drop, EndState, eqb-true, Event, false, Fe, Genuine, GenuineCall, GenuineEvent, apply_event, has_made, Il}
use Rattle.stack_engine.proofs.Words.{is_live, IsGenuine, List, Made, nat_tests, None, Open, Option, Part, present, refl, refusal, rule_of, run, Side, slice_get, Some}
use Rattle.stack_engine.proofs.Words.{subst, suc, sym, take, true, upper_of, World, zero, ℕ, ◌&&◌, ◌+◌, ◌-◌, ◌==◌, ◌↔◌, ◌∙◌, ◌∷◌, ◌≡◌}
use Rattle.stack_engine.proofs.Words.{CodeRule, Close, Deliver, InitDone, Put, Tick}
use Rattle.std.proofs.lemmas.Option.{none-some, same_Some}
use Rattle.stack_engine.specs.CallsByPlace.{GoesUp, IsCallAt, other}
use Rattle.stack_engine.specs.PremiseByPlace.{GenuineByPlace, ComesIn, dead_of, IsAlive, IsAnswered}
use Rattle.stack_engine.proofs.alike.Calls.{call-each, each-call}
use Rattle.stack_engine.proofs.alike.Places.{get-dropped}
use Rattle.stack_engine.proofs.alike.Closed.{closed-shut, shut-closed}

-- a PDU of these bytes among those made
record IsAmongMade (rule : CodeRule) (octets : List ℕ) (ms : List Made) : Type 0 where
  index : ℕ
  made : Made
  there : slice_get ms index ≡ Some made
  text : octets ≡ upper_of rule made

made-among : (rule : CodeRule) (octets : List ℕ) (ms : List Made) → has_made rule octets ms ≡ true
    → IsAmongMade rule octets ms
made-among rule octets [] e = absurd (let f : false ≡ true → ⊥ = λ k. cc in f e)
made-among rule octets (m ∷ ms) e =
    by_test (λ b. bytes_eq octets (upper_of rule m) ≡ b → cond b true (has_made rule octets ms) ≡ true
    → IsAmongMade rule octets (m ∷ ms))
    (bytes_eq octets (upper_of rule m))
    (λ is is' or. record {
      index = zero;
      made = m;
      there = refl;
      text = (bytes_eq-Decides octets (upper_of rule m)).0 is;
    })
    (λ is is' or. let r = made-among rule octets ms or in record {
      index = suc r.index;
      made = r.made;
      there = r.there;
      text = r.text;
    }) refl e

either : (b : Bool) → cond b true true ≡ true
either true = refl
either false = refl

among-made : (rule : CodeRule) (octets : List ℕ) (ms : List Made) (k : ℕ) (m : Made) → slice_get ms k ≡ Some m
    → octets ≡ upper_of rule m
    → has_made rule octets ms ≡ true
among-made rule octets [] k m e is = absurd (none-some m e)
among-made rule octets (o ∷ ms) zero m e is =
    ap (λ b. cond b true (has_made rule octets ms))
    ((bytes_eq-Decides octets (upper_of rule o)).1 (is ∙ ap (upper_of rule) (sym (same_Some o m e))))
among-made rule octets (o ∷ ms) (suc k) m e is =
    ap (λ b. cond (bytes_eq octets (upper_of rule o)) true b) (among-made rule octets ms k m e is)
    ∙ either (bytes_eq octets (upper_of rule o))

same-eqb : (a b : ℕ) → a ≡ b → a == b ≡ true
same-eqb a b e = grind (arith, nat_tests)

both-true : (a b : Bool) → a && b ≡ true → (a ≡ true) × (b ≡ true)
both-true true true e = (refl, refl)
both-true true false e = absurd (let f : false ≡ true → ⊥ = λ k. cc in f e)
both-true false b e = absurd (let f : false ≡ true → ⊥ = λ k. cc in f e)

true-both : (a b : Bool) → a ≡ true → b ≡ true → a && b ≡ true
true-both a b p q = rw (p, q) refl

-- live, of a side
alive : (side : Side) (w : World) (y : EndState) (octets : List ℕ) (peer : Option EndState)
    → present (other side) w ≡ peer
    → is_live y peer (dead_of (other side) w) octets ≡ true → IsAlive side w y octets
alive side w y octets None e h = absurd (let f : false ≡ true → ⊥ = λ k. cc in f h)
alive side w y octets (Some peer) e h =
    let both = both-true (code_octets (rule_of y.settings).length == code_octets (rule_of peer.settings).length)
    (has_made (rule_of peer.settings) octets (drop (dead_of (other side) w) peer.machine.made)) h in
    let r = made-among (rule_of peer.settings) octets (drop (dead_of (other side) w) peer.machine.made) both.1 in
    record {
      by =
          record {
            maker = peer;
            present = e;
            index = dead_of (other side) w + r.index;
            made = r.made;
            there = sym (get-dropped (dead_of (other side) w) peer.machine.made r.index) ∙ r.there;
            text = r.text;
          };
      living = omega arith;
      code = eqb-true (code_octets (rule_of y.settings).length) (code_octets (rule_of peer.settings).length) both.0;
    }

is-alive : (side : Side) (w : World) (y : EndState) (octets : List ℕ) → IsAlive side w y octets
    → is_live y (present (other side) w) (dead_of (other side) w) octets ≡ true
is-alive side w y octets a =
    let d = dead_of (other side) w in
    let at : d + (a.by.index - d) ≡ a.by.index = (let l = a.living in omega (arith, l)) in
    ap (λ peer. is_live y peer d octets) a.by.present
    ∙ true-both (code_octets (rule_of y.settings).length == code_octets (rule_of a.by.maker.settings).length)
    (has_made (rule_of a.by.maker.settings) octets (drop d a.by.maker.machine.made))
    (same-eqb (code_octets (rule_of y.settings).length) (code_octets (rule_of a.by.maker.settings).length) a.code)
    (among-made (rule_of a.by.maker.settings) octets (drop d a.by.maker.machine.made) (a.by.index - d) a.by.made
    (get-dropped d a.by.maker.machine.made (a.by.index - d) ∙ ap (slice_get a.by.maker.machine.made) at
    ∙ a.by.there) a.by.text)

answered : (side : Side) (w : World) (y : EndState) (octets : List ℕ)
    → IsGenuine (present (other side) w) (dead_of (other side) w) y octets
    → IsAnswered side w y octets
answered side w y octets h lives asked =
    alive side w y octets (present (other side) w) refl (h (closed-shut y.machine.connection lives) asked)

is-answered : (side : Side) (w : World) (y : EndState) (octets : List ℕ) → IsAnswered side w y octets
    → IsGenuine (present (other side) w) (dead_of (other side) w) y octets
is-answered side w y octets h shut asked = is-alive side w y octets (h (shut-closed y.machine.connection shut) asked)

-- at each part that comes in a call
parts-each : (P : Part → Type 0) (ps : List Part) → AllByRecursion P ps → (k : ℕ) (p : Part) → slice_get ps k ≡ Some p
    → P p
parts-each P [] h k p e = absurd (none-some p e)
parts-each P (q ∷ ps) h zero p e = subst P (same_Some q p e) h.0
parts-each P (q ∷ ps) h (suc k) p e = parts-each P ps h.1 k p e

each-parts : (P : Part → Type 0) (ps : List Part) → ((k : ℕ) (p : Part) → slice_get ps k ≡ Some p → P p)
    → AllByRecursion P ps
each-parts P [] h = tt
each-parts P (q ∷ ps) h = (h zero q refl, each-parts P ps (λ k p e. h (suc k) p e))

-- what a delivery brings, so that two that are equal bring the same
abbrev pub brought : Call → List Part
brought (Deliver channel octets now) = arrivals_of (Datagram octets now)
brought _ = []

pub comes-each : (P : Part → Type 0) (c : Call) → AllByRecursion P (brought c) → (k : ℕ) (p : Part) → ComesIn c k p
    → P p
comes-each P c h k p u = parts-each P (brought c) h k p (ap (λ d. slice_get (brought d) k) u.delivers ∙ u.there)

pub each-comes : (P : Part → Type 0) (c : Call) → ((k : ℕ) (p : Part) → ComesIn c k p → P p)
    → AllByRecursion P (brought c)
each-comes P (Deliver channel octets now) h =
    each-parts P (arrivals_of (Datagram octets now))
    (λ k p e. h k p (record { channel = channel; octets = octets; now = now; delivers = refl; there = e }))
each-comes P (Tick now) h = tt
each-comes P (Close now) h = tt
each-comes P (Put kind payload now) h = tt
each-comes P (InitDone now) h = tt

arrivals-brought : (P : EndState → List ℕ → Type 0) (c : Call) (x : EndState)
    → AtArrivals P c x ↔ AllByRecursion (λ (p : Part). P x p.1) (brought c)
arrivals-brought P (Deliver channel octets now) x = ((λ h. h), (λ h. h))
arrivals-brought P (Tick now) x = ((λ h. h), (λ h. h))
arrivals-brought P (Close now) x = ((λ h. h), (λ h. h))
arrivals-brought P (Put kind payload now) x = ((λ h. h), (λ h. h))
arrivals-brought P (InitDone now) x = ((λ h. h), (λ h. h))

-- of one call of a side
pub record GenuineAt (side : Side) (c : Call) (w : World) (x : EndState) : Type 0 where
  pub comes : (k : ℕ) (p : Part) → ComesIn c k p → IsAnswered side w x p.1
  pub goes_up : (k : ℕ) (p : Part) (y : EndState) → GoesUp c x k p y → IsAnswered side w y p.1

abbrev Judges : Side → World → EndState → List ℕ → Type 0
Judges side w = IsGenuine (present (other side) w) (dead_of (other side) w)

call-at : (side : Side) (c : Call) (w : World) (x : EndState)
    → GenuineCall (present (other side) w) (dead_of (other side) w) c x → GenuineAt side c w x
call-at side c w x h =
    record {
      comes =
          λ k p u. answered side w x p.1 (comes-each (λ q. Judges side w x q.1) c
          ((arrivals-brought (Judges side w) c x).0 h.0) k p u);
      goes_up = λ k p y u. answered side w y p.1 (call-each (Judges side w) c x h.1 k p y u);
    }

at-call : (side : Side) (c : Call) (w : World) (x : EndState) → GenuineAt side c w x
    → GenuineCall (present (other side) w) (dead_of (other side) w) c x
at-call side c w x h = (
  (arrivals-brought (Judges side w) c x).1
      (each-comes (λ q. Judges side w x q.1) c (λ k p u. is-answered side w x p.1 (h.comes k p u))),
  each-call (Judges side w) c x (λ k p y u. is-answered side w y p.1 (h.goes_up k p y u)),
)

pub opened-at : (P : EndState → Type 0) (r : Option EndState) → AtOpened P r → (x : EndState) → r ≡ Some x → P x
opened-at P None h x e = absurd (none-some x e)
opened-at P (Some y) h x e = subst P (same_Some y x e) h

pub at-opened : (P : EndState → Type 0) (r : Option EndState) → ((x : EndState) → r ≡ Some x → P x) → AtOpened P r
at-opened P None h = tt
at-opened P (Some y) h = h y refl

event-at : (side : Side) (c : Call) (w : World) → GenuineEvent (Calls side c) w → (x : EndState)
    → present side w ≡ Some x → GenuineAt side c w x
event-at Il c w h x e = call-at Il c w x (opened-at (GenuineCall (present Fe w) w.dead_fe c) (present Il w) h x e)
event-at Fe c w h x e = call-at Fe c w x (opened-at (GenuineCall (present Il w) w.dead_il c) (present Fe w) h x e)

at-event : (e : Event) (w : World) → ((side : Side) (c : Call) (x : EndState) → e ≡ Calls side c
    → present side w ≡ Some x → GenuineAt side c w x) → GenuineEvent e w
at-event (Open side s first now) w h = tt
at-event (Calls Il c) w h =
    at-opened (GenuineCall (present Fe w) w.dead_fe c) (present Il w) (λ x e. at-call Il c w x (h Il c x refl e))
at-event (Calls Fe c) w h =
    at-opened (GenuineCall (present Il w) w.dead_il c) (present Fe w) (λ x e. at-call Fe c w x (h Fe c x refl e))

-- of a whole list
each-at : (es : List Event) (w : World) → Genuine es w → (n : ℕ) (side : Side) (c : Call) (x : EndState)
    → IsCallAt es w n side c x
    → GenuineAt side c (run (take n es) w) x
each-at [] w h n side c x at = absurd (none-some (Calls side c) at.event)
each-at (e ∷ es) w h zero side c x at =
    event-at side c w (subst (λ d. refusal d w ≡ None → GenuineEvent d w) (same_Some e (Calls side c) at.event) h.0
    at.accepted) x at.at
each-at (e ∷ es) w h (suc n) side c x at =
    each-at es (apply_event w e) h.1 n side c x (record { event = at.event; accepted = at.accepted; at = at.at })

at-each : (es : List Event) (w : World)
    → ((n : ℕ) (side : Side) (c : Call) (x : EndState) → IsCallAt es w n side c x
    → GenuineAt side c (run (take n es) w) x) → Genuine es w
at-each [] w h = tt
at-each (e ∷ es) w h = (
  λ accepted.
      at-event e w
      (λ side c x is at. h zero side c x (record {
        event = ap Some is;
        accepted = subst (λ d. refusal d w ≡ None) is
            accepted;
        at = at;
      })),
  at-each es (apply_event w e) (λ n side c x at.
      h (suc n) side c x (record { event = at.event; accepted = at.accepted; at = at.at })),
)

pub genuine-twice : (es : List Event) (w : World) → Genuine es w ↔ GenuineByPlace es w
genuine-twice es w = (
  λ h. record {
    comes = λ n k side c p x at u. (each-at es w h n side c x at).comes k p u;
    goes_up = λ n k side c p x y at u. (each-at es w h n side c x at).goes_up k p y u;
  },
  λ h. at-each es w
      (λ n side c x at.
      record { comes = λ k p u. h.comes n k side c p x at u; goes_up = λ k p y u. h.goes_up n k side c p x y at u }),
)
