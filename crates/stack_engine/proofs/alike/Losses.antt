-- Both tellings of "nothing is lost" are one.
use Rattle.stack_engine.proofs.Words.{◌↔◌, append-nil}
use Rattle.stack_engine.proofs.Words.{[], AllArrived, AllThere, ap, arith, AsksNothing, AtOpened, Bool, by_test, CodeRule, cond, EndState, Established, false}
use Rattle.stack_engine.proofs.Words.{eqb-true, Fe, has_number, IfAllArrived, Il, inl, inr, Input, is_closed, is_shut, items_waiting, length}
use Rattle.stack_engine.proofs.Words.{List, list_any, Made, Match, nat_tests, None, NothingLost, OfBoth, Option, Part, Phase, present, put_at, refl}
use Rattle.stack_engine.proofs.Words.{rule_of, Side, slice_get, Some, subst, suc, sym, taken_at, true, WaitsForWindow, World, zero, ℕ, ◌++◌, ◌==◌}
use Rattle.stack_engine.proofs.Words.{arrivals, arrivals_of, first_version, ◌||◌, ◌∙◌, ◌∷◌, ◌≡◌, ◌≢◌, ◌≤◌}
use Rattle.std.specs.List.{slice_index}
use Rattle.std.proofs.lemmas.Option.{none-some, same_Some, slice_get_within}
use Rattle.safe_pdu.specs.declared.Kind.TheVariants.{RetrReq}
use Rattle.pdi_session.specs.Laws.{is_established, was_established}
use Rattle.stack_engine.specs.Faithful.{InStep}
use Rattle.stack_engine.specs.CallsByPlace.{Came}
use Rattle.stack_engine.specs.OpenUnits.{items_among}
use Rattle.stack_engine.specs.NothingLostByPlace.{NothingLostByPlace, AreInOnePhase, Fit, HasHeardAll, IsAllThere}
use Rattle.stack_engine.specs.NothingLostByPlace.{WaitsForRoom, WasTakenOrWaits}
use Rattle.stack_engine.proofs.alike.Places.{as-long, front-parted, get-some, parted-begins}
use Rattle.stack_engine.proofs.alike.Held.{items-alike, open-unconfirmed}
use Rattle.stack_engine.proofs.alike.Closed.{closed-of, closed-shut, shut-closed}

false-true : false ≡ true → ⊥
false-true e = cc

-- no request among what was made
asks-at : (ms : List Made) → AsksNothing ms → (n : ℕ) (m : Made) → slice_get ms n ≡ Some m → m.pdu.kind ≢ RetrReq
asks-at [] h n m e = absurd (none-some m e)
asks-at (o ∷ ms) h zero m e = subst (λ (y : Made). y.pdu.kind ≢ RetrReq) (same_Some o m e) h.0
asks-at (o ∷ ms) h (suc n) m e = asks-at ms h.1 n m e

at-asks : (ms : List Made) → ((n : ℕ) (m : Made) → slice_get ms n ≡ Some m → m.pdu.kind ≢ RetrReq) → AsksNothing ms
at-asks [] h = tt
at-asks (o ∷ ms) h = (h zero o refl, at-asks ms (λ n m e. h (suc n) m e))

-- what came under a number
pub record IsIn (number : ℕ) (ps : List Part) : Type 0 where
  pub index : ℕ
  pub part : Part
  pub there : slice_get ps index ≡ Some part
  pub is : part.0 ≡ number

in-parts : (k : ℕ) (ps : List Part) → has_number k ps ≡ true → IsIn k ps
in-parts k [] e = absurd (false-true e)
in-parts k (p ∷ ps) e =
    by_test (λ b. p.0 == k ≡ b → b || has_number k ps ≡ true → IsIn k (p ∷ ps)) (p.0 == k)
    (λ is is' or. record { index = zero; part = p; there = refl; is = eqb-true p.0 k is })
    (λ is is' or. let r = in-parts k ps or in record { index = suc r.index; part = r.part; there = r.there; is = r.is })
    refl e

same-eqb : (a b : ℕ) → a ≡ b → a == b ≡ true
same-eqb a b e = grind (arith, nat_tests)

or-true : (b : Bool) → b || true ≡ true
or-true true = refl
or-true false = refl

pub parts-in : (k : ℕ) (ps : List Part) (index : ℕ) (q : Part) → slice_get ps index ≡ Some q → q.0 ≡ k
    → has_number k ps ≡ true
parts-in k [] index q e is = absurd (none-some q e)
parts-in k (p ∷ ps) zero q e is =
    ap (λ b. b || has_number k ps) (same-eqb p.0 k (ap (λ (o : Part). o.0) (same_Some p q e) ∙ is))
parts-in k (p ∷ ps) (suc index) q e is = ap (λ b. (p.0 == k) || b) (parts-in k ps index q e is) ∙ or-true (p.0 == k)

pub number-append : (k : ℕ) (xs ys : List Part) → has_number k (xs ++ ys) ≡ (has_number k xs || has_number k ys)
number-append k [] ys = refl
number-append k (x ∷ xs) ys =
    by_test (λ b. b || has_number k (xs ++ ys) ≡ ((b || has_number k xs) || has_number k ys)) (x.0 == k) (λ e. refl)
    (λ e. number-append k xs ys)

pub came : (k : ℕ) (inputs : List Input) → has_number k (arrivals inputs) ≡ true → Came k inputs
came k [] e = absurd (false-true e)
came k (i ∷ inputs) e =
    by_test (λ b. has_number k (arrivals_of i) ≡ b → b || has_number k (arrivals inputs) ≡ true
    → Came k (i ∷ inputs)) (has_number k (arrivals_of i))
    (λ is is' or.
    let r = in-parts k (arrivals_of i) is in
    record { place = zero; input = i; at = refl; index = r.index; part = r.part; there = r.there; is = r.is })
    (λ is is' or.
    let r = came k inputs or in
    record {
      place = suc r.place;
      input = r.input;
      at = r.at;
      index = r.index;
      part = r.part;
      there = r.there;
      is = r.is;
    }) refl
    (sym (number-append k (arrivals_of i) (arrivals inputs)) ∙ e)

pub came-at : (k : ℕ) (inputs : List Input) (place : ℕ) (i : Input) → slice_get inputs place ≡ Some i
    → has_number k (arrivals_of i) ≡ true
    → has_number k (arrivals inputs) ≡ true
came-at k [] place i e h = absurd (none-some i e)
came-at k (j ∷ inputs) zero i e h =
    number-append k (arrivals_of j) (arrivals inputs)
    ∙ ap (λ b. b || has_number k (arrivals inputs)) (ap (λ o. has_number k (arrivals_of o)) (same_Some j i e) ∙ h)
came-at k (j ∷ inputs) (suc place) i e h =
    number-append k (arrivals_of j) (arrivals inputs)
    ∙ ap (λ b. has_number k (arrivals_of j) || b) (came-at k inputs place i e h)
    ∙ or-true (has_number k (arrivals_of j))

heard-all : (x y : EndState) → (is_shut x ≡ false → AllArrived x y) → HasHeardAll x y
heard-all x y h lives k m e =
    came k x.inputs (h (closed-shut x.machine.connection lives) k (slice_get_within y.machine.made k m e))

all-heard : (x y : EndState) → HasHeardAll x y → is_shut x ≡ false → AllArrived x y
all-heard x y h lives k le =
    let m = get-some y.machine.made k le in
    let c = h (shut-closed x.machine.connection lives) k m.0 m.1 in
    came-at k x.inputs c.place c.input c.at (parts-in k (arrivals_of c.input) c.index c.part c.there c.is)

-- what was put was taken or waits
there : (x y : EndState) → put_at x ≡ taken_at y ++ items_waiting x → WasTakenOrWaits x y
there x y e =
    let p =
    front-parted (put_at x) (taken_at y) (items_among x.session.waiting) (taken_at y) ([], append-nil (taken_at y))
    (e ∙ ap (λ is. taken_at y ++ is) (sym (items-alike x.session.waiting))) in
    record { counted = p.counted; was_taken = p.first; waits = p.behind }

same-there : (x y : EndState) → WasTakenOrWaits x y → put_at x ≡ taken_at y ++ items_waiting x
same-there x y h =
    let b =
    parted-begins (put_at x) (taken_at y) (items_among x.session.waiting)
    (length (taken_at y)) (record { counted = h.counted; first = h.was_taken; behind = h.waits }) in
    b.2
    ∙ ap (λ front. front ++ items_among x.session.waiting) (as-long b.0 (taken_at y) b.1 (b.3))
    ∙ ap (λ is. taken_at y ++ is) (items-alike x.session.waiting)

-- waiting for room
waits-room : (x : EndState) → WaitsForWindow x → WaitsForRoom x
waits-room x h some =
    subst (λ (us : List (List ℕ)). x.machine.window ≤ length us) (sym (open-unconfirmed x)) (h some)

room-waits : (x : EndState) → WaitsForRoom x → WaitsForWindow x
room-waits x h some = subst (λ (us : List (List ℕ)). x.machine.window ≤ length us) (open-unconfirmed x) (h some)

no-length : (ms : List (List ℕ)) → length ms ≡ 0 → ms ≡ []
no-length [] e = refl
no-length (m ∷ ms) e = absurd (omega (arith, e))

-- settings fit
at-version : (v : ℕ) (vs : List ℕ) → list_any (λ u. u == v) vs ≡ true → (place : ℕ) × (slice_get vs place ≡ Some v)
at-version v [] e = absurd (false-true e)
at-version v (u ∷ vs) e =
    by_test (λ b. u == v ≡ b → b || list_any (λ u. u == v) vs ≡ true
    → (place : ℕ) × (slice_get (u ∷ vs) place ≡ Some v)) (u == v)
    (λ is is' or. (zero, ap Some (eqb-true u v is))) (λ is is' or. let r = at-version v vs or in (suc r.0, r.1)) refl e

version-at : (v : ℕ) (vs : List ℕ) (place : ℕ) → slice_get vs place ≡ Some v → list_any (λ u. u == v) vs ≡ true
version-at v [] place e = absurd (none-some v e)
version-at v (u ∷ vs) zero e = ap (λ b. b || list_any (λ u. u == v) vs) (same-eqb u v (same_Some u v e))
version-at v (u ∷ vs) (suc place) e = ap (λ b. (u == v) || b) (version-at v vs place e) ∙ or-true (u == v)

first-is : (vs : List ℕ) → first_version vs ≡ slice_index vs 0
first-is [] = refl
first-is (v ∷ vs) = refl

fits : (il fe : EndState) → Match il fe → Fit il.settings fe.settings
fits il fe m =
    let v = at-version (first_version il.settings.versions) fe.settings.versions m.version in
    record {
      il_knows = record { identifier = sym m.fe_identifier; name = sym m.fe_name };
      fe_knows = record { identifier = sym m.il_identifier; name = sym m.il_name };
      code_length = ap (λ (r : CodeRule). r.length) m.rule;
      initial_value = ap (λ (r : CodeRule). r.initial_value) m.rule;
      protocol = m.protocol;
      place = v.0;
      version = v.1 ∙ ap Some (first-is il.settings.versions);
    }

pub same-rule : (r s : CodeRule) → r.length ≡ s.length → r.initial_value ≡ s.initial_value → r ≡ s
same-rule r s p q = λ i. record { length = p i; initial_value = q i }

matches : (il fe : EndState) → Fit il.settings fe.settings → Match il fe
matches il fe f =
    record {
      rule = same-rule (rule_of il.settings) (rule_of fe.settings) f.code_length f.initial_value;
      protocol = f.protocol;
      version =
          version-at (first_version il.settings.versions) fe.settings.versions f.place (f.version
          ∙ ap Some (sym (first-is il.settings.versions)));
      il_identifier = sym f.fe_knows.identifier;
      fe_identifier = sym f.il_knows.identifier;
      il_name = sym f.fe_knows.name;
      fe_name = sym f.il_knows.name;
    }

-- phases
is-established : (p : Phase) → is_established p ≡ true → p ≡ Established
is-established Established e = refl
is-established _ e = absurd (false-true e)

established-at : (ps : List Phase) → was_established ps ≡ true → (n : ℕ) × (slice_get ps n ≡ Some Established)
established-at [] e = absurd (false-true e)
established-at (p ∷ ps) e =
    by_test (λ b. is_established p ≡ b → cond b true (was_established ps) ≡ true
    → (n : ℕ) × (slice_get (p ∷ ps) n ≡ Some Established)) (is_established p)
    (λ is is' or. (zero, ap Some (is-established p is))) (λ is is' or. let r = established-at ps or in (suc r.0, r.1))
    refl e

cond-true : (b : Bool) → cond b true true ≡ true
cond-true true = refl
cond-true false = refl

at-established : (ps : List Phase) (n : ℕ) → slice_get ps n ≡ Some Established → was_established ps ≡ true
at-established [] n e = absurd (none-some Established e)
at-established (p ∷ ps) zero e = ap (λ q. cond (is_established q) true (was_established ps)) (same_Some p Established e)
at-established (p ∷ ps) (suc n) e = ap (λ b. cond (is_established p) true b) (at-established ps n e)
    ∙ cond-true (is_established p)

one-phase : (il fe : EndState) → InStep il fe → AreInOnePhase il fe
one-phase il fe (inl h) =
    record {
      before = λ none. (h.1, h.2);
      since = λ n e. absurd (false-true (sym h.0 ∙ at-established fe.session.history.phases n e));
    }
one-phase il fe (inr h) =
    record {
      before = λ none. absurd (let e = established-at fe.session.history.phases h.0 in none e.0 e.1);
      since = λ n e. (h.1, h.2);
    }

in-step : (il fe : EndState) → AreInOnePhase il fe → InStep il fe
in-step il fe h =
    by_test (λ b. was_established fe.session.history.phases ≡ b
    → InStep il fe) (was_established fe.session.history.phases)
    (λ is is'. let e = established-at fe.session.history.phases is in let p = h.since e.0 e.1 in inr (is, p.0, p.1))
    (λ is is'.
    let p = h.before (λ n e. false-true (sym is ∙ at-established fe.session.history.phases n e)) in
    inl (is, p.0, p.1)) refl

-- with all arrived
all-there : (il fe : EndState) → AllThere il fe → IsAllThere il fe
all-there il fe a =
    record {
      commands = there il fe a.commands;
      status = there fe il a.status;
      il_waits = waits-room il a.il_waits;
      fe_waits = waits-room fe a.fe_waits;
      il_keeps = λ shut. ap length (a.il_keeps (ap is_closed shut));
      fe_keeps = λ shut. ap length (a.fe_keeps (ap is_closed shut));
      up = λ f. (a.il_up (matches il fe f), a.fe_up (matches il fe f));
      phases = λ f e k. one-phase il fe (a.in_step (matches il fe f) e k);
    }

is-there : (il fe : EndState) → IsAllThere il fe → AllThere il fe
is-there il fe a =
    record {
      il_waits = room-waits il a.il_waits;
      fe_waits = room-waits fe a.fe_waits;
      il_keeps = λ shut. no-length il.session.waiting (a.il_keeps (closed-of il.machine.connection shut));
      fe_keeps = λ shut. no-length fe.session.waiting (a.fe_keeps (closed-of fe.machine.connection shut));
      commands = same-there il fe a.commands;
      status = same-there fe il a.status;
      il_up = λ m. (a.up (fits il fe m)).0;
      fe_up = λ m. (a.up (fits il fe m)).1;
      in_step = λ m e k. in-step il fe (a.phases (fits il fe m) e k);
    }

-- of both
opened-asks : (r : Option EndState) → AtOpened (λ x. AsksNothing x.machine.made) r
    → (x : EndState) (n : ℕ) (m : Made) → r ≡ Some x → slice_get x.machine.made n ≡ Some m → m.pdu.kind ≢ RetrReq
opened-asks None h x n m e at = absurd (none-some x e)
opened-asks (Some y) h x n m e at =
    asks-at y.machine.made h n m (ap (λ (z : EndState). slice_get z.machine.made n) (same_Some y x e) ∙ at)

asks-opened : (r : Option EndState)
    → ((x : EndState) (n : ℕ) (m : Made) → r ≡ Some x → slice_get x.machine.made n ≡ Some m → m.pdu.kind ≢ RetrReq)
    → AtOpened (λ x. AsksNothing x.machine.made) r
asks-opened None h = tt
asks-opened (Some y) h = at-asks y.machine.made (λ n m at. h y n m refl at)

abbrev IfHeard : EndState → EndState → Type 0
IfHeard il fe = HasHeardAll il fe → HasHeardAll fe il → IsAllThere il fe

if-heard : (il fe : EndState) → IfAllArrived il fe → IfHeard il fe
if-heard il fe h a b = all-there il fe (h (all-heard il fe a) (all-heard fe il b))

heard-if : (il fe : EndState) → IfHeard il fe → IfAllArrived il fe
heard-if il fe h a b = is-there il fe (h (heard-all il fe a) (heard-all fe il b))

of-both : (a b : Option EndState) → OfBoth IfAllArrived a b → (il fe : EndState) → a ≡ Some il → b ≡ Some fe
    → IfHeard il fe
of-both None b h il fe e k = absurd (none-some il e)
of-both (Some x) None h il fe e k = absurd (none-some fe k)
of-both (Some x) (Some y) h il fe e k =
    subst (λ z. IfHeard z fe) (same_Some x il e) (subst (IfHeard x) (same_Some y fe k) (if-heard x y h))

both-of : (a b : Option EndState) → ((il fe : EndState) → a ≡ Some il → b ≡ Some fe → IfHeard il fe)
    → OfBoth IfAllArrived a b
both-of None b h = tt
both-of (Some x) None h = tt
both-of (Some x) (Some y) h = heard-if x y (h x y refl refl)

of-sides : (w : World) → NothingLost w → (side : Side) (x : EndState) (n : ℕ) (m : Made) → present side w ≡ Some x
    → slice_get x.machine.made n ≡ Some m → m.pdu.kind ≢ RetrReq
of-sides w h Il = opened-asks (present Il w) h.il_asks_nothing
of-sides w h Fe = opened-asks (present Fe w) h.fe_asks_nothing

pub nothing-lost-twice : (w : World) → NothingLost w ↔ NothingLostByPlace w
nothing-lost-twice w = (
  λ h. record { asks_nothing = of-sides w h; all_there = of-both (present Il w) (present Fe w) h.all_there },
  λ h. record {
    il_asks_nothing = asks-opened (present Il w) (h.asks_nothing Il);
    fe_asks_nothing = asks-opened (present Fe w) (h.asks_nothing Fe);
    all_there = both-of (present Il w) (present Fe w) h.all_there;
  },
)
