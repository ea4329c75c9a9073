-- Both tellings of freshness are one.
use Rattle.stack_engine.proofs.Words.{◌↔◌, [], AllFresh, ap, arith, AtOpened, Call, Calls, drop, EndState, Event, Fe, Fresh, FreshCall, FreshEvent, Freshness, apply_event, Il, List}
use Rattle.stack_engine.proofs.Words.{Made, made_of, None, Ok, Open, Option, part_step, Part, Pdu, present, refl, refusal, rule_of, safe_seen, Side, Some, start}
use Rattle.stack_engine.proofs.Words.{subst, suc, sym, taken_at, TakesFresh, time_of, World, zero, ℕ, ◌-◌, ◌∙◌, ◌∷◌, ◌≡◌, ◌≢◌}
use Rattle.std.proofs.lemmas.Option.{none-some, same_Some}
use Rattle.stack_engine.specs.CallsByPlace.{GoesUp, other}
use Rattle.stack_engine.specs.FreshByPlace.{FreshByPlace, FreshByPlaceLaw, IsFreshAt}
use Rattle.stack_engine.proofs.alike.Genuines.{genuine-twice}
use Rattle.stack_engine.proofs.alike.Calls.{call-each, each-call}
use Rattle.stack_engine.proofs.alike.Places.{drop-get, get-drop}

fresh-at : (now : ℕ) (peer : List Made) (octets : List ℕ) (y : EndState)
    → (p : Pdu) × (safe_seen (rule_of y.settings) octets ≡ Ok p) × Fresh y.machine p now peer
    → IsFreshAt now peer octets y
fresh-at now peer octets y h =
    let f = h.2 in
    record {
      pdu = h.0;
      read = h.1;
      i = f.index;
      carrier = f.carrier;
      made = drop-get f.index peer f.carrier f.rest f.at;
      is = f.is;
      j = f.carrier.behind - 1;
      basis = f.basis;
      own = drop-get (f.carrier.behind - 1) y.machine.made f.basis f.own_rest f.own_at;
      upon = (let b = f.has_basis in omega (arith, b));
      number = f.number;
      stamp = f.stamp;
      recent = f.recent;
    }

at-fresh : (now : ℕ) (peer : List Made) (octets : List ℕ) (y : EndState) → IsFreshAt now peer octets y
    → (p : Pdu) × (safe_seen (rule_of y.settings) octets ≡ Ok p) × Fresh y.machine p now peer
at-fresh now peer octets y h =
    let before : h.j ≡ h.carrier.behind - 1 = (let u = h.upon in omega (arith, u)) in (
      h.pdu,
      h.read,
      record {
        index = h.i;
        carrier = h.carrier;
        rest = drop (suc h.i) peer;
        at = get-drop h.i peer h.carrier h.made;
        is = h.is;
        has_basis = (let u = h.upon in omega (arith, u));
        basis = h.basis;
        own_rest = drop (suc h.j) y.machine.made;
        own_at = ap (λ k. drop k y.machine.made) (sym before) ∙ get-drop h.j y.machine.made h.basis h.own;
        number = h.number;
        stamp = h.stamp;
        recent = h.recent;
      },
    )

-- of one call
abbrev FreshParts : List Made → Call → EndState → Type 0
FreshParts peer c x =
    (k : ℕ) (p : Part) (y : EndState) → GoesUp c x k p y → taken_at (part_step (time_of c) p.1 y) ≢ taken_at y
    → IsFreshAt (time_of c) peer p.1 y

parts-fresh : (peer : List Made) (c : Call) (x : EndState) → FreshCall peer c x → FreshParts peer c x
parts-fresh peer c x h k p y u takes =
    fresh-at (time_of c) peer p.1 y (call-each (TakesFresh (time_of c) peer) c x h k p y u takes)

fresh-parts : (peer : List Made) (c : Call) (x : EndState) → FreshParts peer c x → FreshCall peer c x
fresh-parts peer c x h =
    each-call (TakesFresh (time_of c) peer) c x (λ k p y u takes. at-fresh (time_of c) peer p.1 y (h k p y u takes))

opened-fresh : (peer : List Made) (c : Call) (r : Option EndState) → AtOpened (FreshCall peer c) r → (x : EndState)
    → r ≡ Some x → FreshParts peer c x
opened-fresh peer c None h x e = absurd (none-some x e)
opened-fresh peer c (Some y) h x e = subst (FreshParts peer c) (same_Some y x e) (parts-fresh peer c y h)

fresh-opened : (peer : List Made) (c : Call) (r : Option EndState) → ((x : EndState) → r ≡ Some x → FreshParts peer c x)
    → AtOpened (FreshCall peer c) r
fresh-opened peer c None h = tt
fresh-opened peer c (Some y) h = fresh-parts peer c y (h y refl)

event-fresh : (side : Side) (c : Call) (w : World) → FreshEvent (Calls side c) w → (x : EndState)
    → present side w ≡ Some x
    → FreshParts (made_of (present (other side) w)) c x
event-fresh Il c w h = opened-fresh (made_of (present Fe w)) c (present Il w) h
event-fresh Fe c w h = opened-fresh (made_of (present Il w)) c (present Fe w) h

fresh-event : (e : Event) (w : World)
    → ((side : Side) (c : Call) (x : EndState) → e ≡ Calls side c → present side w ≡ Some x
    → FreshParts (made_of (present (other side) w)) c x)
    → FreshEvent e w
fresh-event (Open side s first now) w h = tt
fresh-event (Calls Il c) w h = fresh-opened (made_of (present Fe w)) c (present Il w) (λ x e. h Il c x refl e)
fresh-event (Calls Fe c) w h = fresh-opened (made_of (present Il w)) c (present Fe w) (λ x e. h Fe c x refl e)

-- of a whole list
by-place : (es : List Event) (w : World) → AllFresh es w → FreshByPlace es w
by-place [] w h n k side c p x y at u = absurd (none-some (Calls side c) at.event)
by-place (e ∷ es) w h zero k side c p x y at u =
    let is = same_Some e (Calls side c) at.event in
    event-fresh side c w (subst (λ d. refusal d w ≡ None → FreshEvent d w) is h.0 at.accepted) x at.at k p y u
by-place (e ∷ es) w h (suc n) k side c p x y at u =
    by-place es (apply_event w e) h.1 n k side c p x y (record { event = at.event; accepted = at.accepted; at = at.at })
    u

by-recursion : (es : List Event) (w : World) → FreshByPlace es w → AllFresh es w
by-recursion [] w h = tt
by-recursion (e ∷ es) w h = (
  λ accepted.
      fresh-event e w
      (λ side c x is at k p y u.
      h zero k side c p x y
      (record { event = ap Some is; accepted = subst (λ d. refusal d w ≡ None) is accepted; at = at }) u),
  by-recursion es (apply_event w e)
      (λ n k side c p x y at u. h (suc n) k side c p x y
      (record { event = at.event; accepted = at.accepted; at = at.at }) u),
)

pub fresh-twice : (es : List Event) (w : World) → AllFresh es w ↔ FreshByPlace es w
fresh-twice es w = (by-place es w, by-recursion es w)

pub fresh-again : Freshness → FreshByPlaceLaw
fresh-again law es typed genuine = by-place es start (law es typed ((genuine-twice es start).1 genuine))
