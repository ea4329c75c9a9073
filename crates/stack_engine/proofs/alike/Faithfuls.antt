-- Both tellings of Faithful are one.
use Rattle.stack_engine.proofs.Words.{[], AllByRecursion, AllFaithful, ap, Call, Calls, CarriesPdu, CarriesAll, CodeRule, Datagram, drop}
use Rattle.stack_engine.proofs.Words.{EndState, Event, Faithful, FaithfulCall, FaithfulEvent, Fe, GuardHolds, GuardsHold, apply_event, Il, Input, IsNear, IsNoClose, JoinedEnd, latest, List}
use Rattle.stack_engine.proofs.Words.{None, OfBoth, Open, Option, Part, present, RedTick, refl, refusal, rule_of, run, SameRule, Side}
use Rattle.stack_engine.proofs.Words.{slice_get, Some, start, subst, suc, sym, take, time_of, World, zero, ends_of, EndSettings, ℕ, ◌↔◌, ◌∙◌, ◌∷◌, ◌≡◌, ◌≢◌}
use Rattle.stack_engine.proofs.Words.{Close, Deliver, InitDone, Put, Tick}
use Rattle.std.proofs.lemmas.Option.{none-some, same_Some}
use Rattle.stack_engine.specs.CallsByPlace.{GoesUp, input_of, IsCallAt, other}
use Rattle.stack_engine.specs.PremiseByPlace.{BearsIndex, ComesIn, FaithfulByPlace, GuardKeeps}
use Rattle.stack_engine.proofs.alike.Calls.{call-each, each-call}
use Rattle.stack_engine.proofs.alike.Genuines.{at-opened, brought, comes-each, each-comes, genuine-twice, opened-at}
use Rattle.stack_engine.specs.Faithful.{NothingLostLaw}
use Rattle.stack_engine.specs.NothingLostByPlace.{NothingLostByPlaceLaw}
use Rattle.stack_engine.proofs.alike.Losses.{nothing-lost-twice, same-rule}
use Rattle.stack_engine.proofs.Words.{FirstMissingLaw}
use Rattle.stack_engine.proofs.alike.Nears.{comes-near, near-comes}
use Rattle.stack_engine.proofs.alike.Places.{drop-get, get-drop}

-- a part bears the index of a PDU that the peer made
bears : (side : Side) (w : World) (p : Part) (peer : Option EndState) → present (other side) w ≡ peer
    → CarriesPdu peer p → BearsIndex side w p
bears side w p None e h = absurd h
bears side w p (Some peer) e h =
    record {
      by =
          record {
            maker = peer;
            present = e;
            index = p.0;
            made = h.0;
            there = drop-get p.0 peer.machine.made h.0 h.1 h.2;
            text = h.3;
          };
      index = refl;
    }

is-borne : (side : Side) (w : World) (p : Part) → BearsIndex side w p → CarriesPdu (present (other side) w) p
is-borne side w p b =
    subst (λ peer. CarriesPdu peer p) (sym b.by.present) (
      b.by.made,
      drop (suc p.0) b.by.maker.machine.made,
      get-drop p.0 b.by.maker.machine.made b.by.made (ap (slice_get b.by.maker.machine.made) (sym b.index)
          ∙ b.by.there),
      b.by.text,
    )

carries-brought : (peer : Option EndState) (c : Call) → CarriesAll peer c ↔ AllByRecursion (CarriesPdu peer) (brought c)
carries-brought peer (Deliver channel octets now) = ((λ h. h), (λ h. h))
carries-brought peer (Tick now) = ((λ h. h), (λ h. h))
carries-brought peer (Close now) = ((λ h. h), (λ h. h))
carries-brought peer (Put kind payload now) = ((λ h. h), (λ h. h))
carries-brought peer (InitDone now) = ((λ h. h), (λ h. h))

-- no closing
not-close : (c : Call) → IsNoClose c → (now : ℕ) → c ≢ Close now
not-close (Close then) h now e = h
not-close c h now e = subst IsNoClose e h

is-no-close : (c : Call) → ((now : ℕ) → c ≢ Close now) → IsNoClose c
is-no-close (Close now) h = h now refl
is-no-close _ h = tt

-- the guards
abbrev HoldsAt : ℕ → EndState → List ℕ → Type 0
HoldsAt now y octets = GuardHolds y.machine now

abbrev Guarded : Call → EndState → Type 0
Guarded c x = ((i : Input) → input_of c ≡ Some i → GuardKeeps (time_of c) x)
    × ((k : ℕ) (p : Part) (y : EndState) → GoesUp c x k p y → GuardKeeps (time_of c) y)

guards : (c : Call) (x : EndState) → GuardsHold c x → Guarded c x
guards (Tick now) x h = ((λ i e. h.0), call-each (HoldsAt now) (Tick now) x h.1)
guards (Deliver channel octets now) x h = ((λ i e. h.0), call-each (HoldsAt now) (Deliver channel octets now) x h.1)
guards (Close now) x h = ((λ i e. absurd (none-some i e)), (λ k p y u. absurd (none-some u.input u.brings)))
guards (Put kind payload now) x h = ((λ i e. absurd (none-some i e)), (λ k p y u. absurd (none-some u.input u.brings)))
guards (InitDone now) x h = ((λ i e. absurd (none-some i e)), (λ k p y u. absurd (none-some u.input u.brings)))

guarded-holds : (c : Call) (x : EndState) → Guarded c x → GuardsHold c x
guarded-holds (Tick now) x h = (h.0 (RedTick now) refl, each-call (HoldsAt now) (Tick now) x h.1)
guarded-holds (Deliver channel octets now) x h =
    (h.0 (Datagram octets now) refl, each-call (HoldsAt now) (Deliver channel octets now) x h.1)
guarded-holds (Close now) x h = tt
guarded-holds (Put kind payload now) x h = tt
guarded-holds (InitDone now) x h = tt

-- of one call of a side
record FaithfulAt (side : Side) (c : Call) (w : World) (x : EndState) : Type 0 where
  not_closed : (now : ℕ) → c ≢ Close now
  indexed : (k : ℕ) (p : Part) → ComesIn c k p → BearsIndex side w p
  guarded : Guarded c x

call-at : (side : Side) (c : Call) (w : World) (x : EndState) → FaithfulCall (present (other side) w) c x
    → FaithfulAt side c w x
call-at side c w x h =
    record {
      not_closed = not-close c h.0;
      indexed = λ k p u. bears side w p (present (other side) w) refl
          (comes-each (CarriesPdu (present (other side) w)) c ((carries-brought (present (other side) w) c).0 h.1) k p
          u);
      guarded = guards c x h.2;
    }

at-call : (side : Side) (c : Call) (w : World) (x : EndState) → FaithfulAt side c w x
    → FaithfulCall (present (other side) w) c x
at-call side c w x h = (
  is-no-close c h.not_closed,
  (carries-brought (present (other side) w) c).1
      (each-comes (CarriesPdu (present (other side) w)) c (λ k p u. is-borne side w p (h.indexed k p u))),
  guarded-holds c x h.guarded,
)

-- an end that was never opened has no present incarnation
nobody-il : (ils : List EndState) → ils ≡ [] → latest ils ≡ None
nobody-il ils e = ap latest e

il-nobody : (ils : List EndState) → latest ils ≡ None → ils ≡ []
il-nobody [] e = refl
il-nobody (x ∷ ils) e = absurd (none-some x (sym e))

fe-nobody : (fes : List JoinedEnd) → latest (ends_of fes) ≡ None → fes ≡ []
fe-nobody [] e = refl
fe-nobody (f ∷ fes) e = absurd (none-some f.end (sym e))

open-once : (side : Side) (s : EndSettings) (first now : ℕ) (w : World) → FaithfulEvent (Open side s first now) w
    → present side w ≡ None
open-once Il s first now w h = nobody-il w.ils h
open-once Fe s first now w h = ap (λ fs. latest (ends_of fs)) h

call-event : (side : Side) (c : Call) (w : World) → FaithfulEvent (Calls side c) w → (x : EndState)
    → present side w ≡ Some x → FaithfulAt side c w x
call-event Il c w h x e = call-at Il c w x (opened-at (FaithfulCall (present Fe w) c) (present Il w) h x e)
call-event Fe c w h x e = call-at Fe c w x (opened-at (FaithfulCall (present Il w) c) (present Fe w) h x e)

is-event : (e : Event) (w : World)
    → ((side : Side) (s : EndSettings) (first now : ℕ) → e ≡ Open side s first now → present side w ≡ None)
    → ((side : Side) (c : Call) (x : EndState) → e ≡ Calls side c → present side w ≡ Some x → FaithfulAt side c w x)
    → FaithfulEvent e w
is-event (Open Il s first now) w once calls = il-nobody w.ils (once Il s first now refl)
is-event (Open Fe s first now) w once calls = fe-nobody w.fes (once Fe s first now refl)
is-event (Calls Il c) w once calls =
    at-opened (FaithfulCall (present Fe w) c) (present Il w) (λ x e. at-call Il c w x (calls Il c x refl e))
is-event (Calls Fe c) w once calls =
    at-opened (FaithfulCall (present Il w) c) (present Fe w) (λ x e. at-call Fe c w x (calls Fe c x refl e))

-- of each event of a list
pub each-event : (es : List Event) (w : World) → AllFaithful es w → (n : ℕ) (e : Event) → slice_get es n ≡ Some e
    → refusal e (run (take n es) w) ≡ None → FaithfulEvent e (run (take n es) w)
each-event [] w h n e at ok = absurd (none-some e at)
each-event (d ∷ es) w h zero e at ok = subst (λ d. refusal d w ≡ None → FaithfulEvent d w) (same_Some d e at) h.0 ok
each-event (d ∷ es) w h (suc n) e at ok = each-event es (apply_event w d) h.1 n e at ok

event-each : (es : List Event) (w : World)
    → ((n : ℕ) (e : Event) → slice_get es n ≡ Some e → refusal e (run (take n es) w) ≡ None
    → FaithfulEvent e (run (take n es) w)) → AllFaithful es w
event-each [] w h = tt
event-each (d ∷ es) w h = (h zero d refl, event-each es (apply_event w d) (λ n e at ok. h (suc n) e at ok))

at : (es : List Event) → AllFaithful es start → (n : ℕ) (side : Side) (c : Call) (x : EndState)
    → IsCallAt es start n side c x
    → FaithfulAt side c (run (take n es) start) x
at es h n side c x a =
    call-event side c (run (take n es) start) (each-event es start h n (Calls side c) a.event a.accepted) x a.at

both-opened : (P : EndState → EndState → Type 0) (a b : Option EndState) → OfBoth P a b → (il fe : EndState)
    → a ≡ Some il → b ≡ Some fe → P il fe
both-opened P None b h il fe e k = absurd (none-some il e)
both-opened P (Some x) None h il fe e k = absurd (none-some fe k)
both-opened P (Some x) (Some y) h il fe e k = subst (λ z. P z fe) (same_Some x il e) (subst (P x) (same_Some y fe k) h)

opened-both : (P : EndState → EndState → Type 0) (a b : Option EndState)
    → ((il fe : EndState) → a ≡ Some il → b ≡ Some fe → P il fe) → OfBoth P a b
opened-both P None b h = tt
opened-both P (Some x) None h = tt
opened-both P (Some x) (Some y) h = h x y refl refl

near-of : (es : List Event) → Faithful es → (side : Side) (x : EndState) → present side (run es start) ≡ Some x
    → IsNear x
near-of es h Il x e = opened-at IsNear (present Il (run es start)) h.il_near x e
near-of es h Fe x e = opened-at IsNear (present Fe (run es start)) h.fe_near x e

by-place : FirstMissingLaw → (es : List Event) → Faithful es → FaithfulByPlace es
by-place missing es h =
    record {
      genuine = (genuine-twice es start).0 h.genuine;
      opened_once = λ n side s first now e ok. open-once side s first now (run (take n es) start)
          (each-event es start h.events n (Open side s first now) e ok);
      not_closed = λ n side c x now a. (at es h.events n side c x a).not_closed now;
      indexed = λ n k side c p x a u. (at es h.events n side c x a).indexed k p u;
      holds = λ n side c x i a e. (at es h.events n side c x a).guarded.0 i e;
      holds_up = λ n k side c p x y a u. (at es h.events n side c x a).guarded.1 k p y u;
      near = λ side x e. comes-near missing x.settings.q x.inputs (near-of es h side x e).0;
      in_time = λ side x e. (near-of es h side x e).1;
      one_length =
          λ il fe a b. ap (λ (r : CodeRule). r.length)
          (both-opened SameRule (present Il (run es start)) (present Fe (run es start)) h.same_rule il fe a b);
      one_value =
          λ il fe a b. ap (λ (r : CodeRule). r.initial_value)
          (both-opened SameRule (present Il (run es start)) (present Fe (run es start)) h.same_rule il fe a b);
    }

by-recursion : FirstMissingLaw → (es : List Event) → FaithfulByPlace es → Faithful es
by-recursion missing es h =
    record {
      genuine = (genuine-twice es start).1 h.genuine;
      events =
          event-each es start
          (λ n e there ok.
          is-event e (run (take n es) start)
          (λ side s first now is. h.opened_once n side s first now (there
          ∙ ap Some is) (subst (λ d. refusal d (run (take n es) start) ≡ None) is ok))
          (λ side c x is e.
          let a : IsCallAt es start n side c x =
          record {
            event = there ∙ ap Some is;
            accepted = subst (λ d. refusal d (run (take n es) start) ≡ None) is ok;
            at = e;
          } in
          record {
            not_closed = λ now. h.not_closed n side c x now a;
            indexed = λ k p u. h.indexed n k side c p x a u;
            guarded = (λ i is. h.holds n side c x i a is, λ k p y u. h.holds_up n k side c p x y a u);
          }));
      il_near =
          at-opened IsNear (present Il (run es start))
          (λ x e. (near-comes missing x.settings.q x.inputs (h.near Il x e), h.in_time Il x e));
      fe_near =
          at-opened IsNear (present Fe (run es start))
          (λ x e. (near-comes missing x.settings.q x.inputs (h.near Fe x e), h.in_time Fe x e));
      same_rule =
          opened-both SameRule (present Il (run es start)) (present Fe (run es start))
          (λ il fe a b. same-rule (rule_of il.settings) (rule_of fe.settings) (h.one_length il fe a b)
          (h.one_value il fe a b));
    }

pub faithful-twice : FirstMissingLaw → (es : List Event) → Faithful es ↔ FaithfulByPlace es
faithful-twice missing es = (by-place missing es, by-recursion missing es)

pub nothing-lost-again : FirstMissingLaw → NothingLostLaw → NothingLostByPlaceLaw
nothing-lost-again missing law es typed faithful =
    (nothing-lost-twice (run es start)).0 (law es typed (by-recursion missing es faithful))
