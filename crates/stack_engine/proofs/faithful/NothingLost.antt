-- Nothing is lost over faithful lists: of ends with crossed identifiers, and of ends that accept no peer.
use Rattle.stack_engine.proofs.Words.{[], all_heard_by_fe, all_heard_by_il, AllArrived, AllFaithful, Among, answered, ap, append-nil, are_fit, AreFrom}
use Rattle.stack_engine.proofs.Words.{AreInStep, AreTyped, arith, arrivals, arrive_octets, AsksNothing, AtCall, AtInput, AtOpened, by_cond, by_test, Call, call}
use Rattle.stack_engine.proofs.Words.{call_fe, call_il, call_refusal, Calls, change_world, client_state, Clock, Close, Closed, CodeRule, comes_up, cond}
use Rattle.stack_engine.proofs.Words.{connection_of, ConnectionState, Crossed, Datagram, Deliver, Dialogue, drop, ends_of, EndSettings, EndState, eq-eqb}
use Rattle.stack_engine.proofs.Words.{eqb-true, Err, Event, FaithfulCall, FaithfulEvent, false, false≢true, Fe, first_missing, first_version, Fits, Genuine}
use Rattle.stack_engine.proofs.Words.{GenuineCall, GenuineEvent, goes_on, GuardHolds, Guards, handed_up, apply_event, heard, heard_as, Hears, History}
use Rattle.stack_engine.proofs.Words.{IdentifiedLaw, Idle, IfAllArrived, IfOpen, Il, incarnation, InitDone, inl, Input, inr, is_closed, is_connected}
use Rattle.stack_engine.proofs.Words.{is_early, is_nil, is_shut, is_stranger, IsBeginning, IsGenuine, IsNear, IsRunning, IsTyped, IsUp, items_of, items_waiting}
use Rattle.stack_engine.proofs.Words.{SessionPair, JoinedEnd, judge_units, KeepsOrder, latest, leaves, length, List, ltb-false, Made, made_of, Match, MatchOption}
use Rattle.stack_engine.proofs.Words.{may_send, messages_in, Move, move, moved, nat_tests, new_end, None, NothingLostCrossedLaw, NothingLostLaw, OfBoth, Ok}
use Rattle.stack_engine.proofs.Words.{Open, Option, OrderlyLaw, Pdu, Phase, phase_in, Put, put_at, RedTick, refl, refusal, Result, bring_up, rule_of, run}
use Rattle.stack_engine.proofs.Words.{SafeFault, seen_by, server_state, session_of, session_refusal, Settings, Side, Some, start, State, StaysOpen}
use Rattle.stack_engine.proofs.Words.{found_telegram, length-append, subst, suc, sym, taken_at, Tele, tele_seen, TeleFault, telegrams_in, texts, Tick, Ticks, time_of, true, unconfirmed, units, UnitsThere, WaitsForWindow}
use Rattle.stack_engine.proofs.Words.{with_machine, World, zero, ℕ, ⊎_elim, ◌++◌, ◌+◌, ◌<◌, ◌==◌, ◌∙◌, ◌∷◌, ◌≡◌, ◌≢◌, ◌≤◌, ◌⊎◌}
use Rattle.stack_engine.proofs.Words.{guard_step, guarded-is, tick_step, ticked-is}
use Rattle.stack_engine.proofs.faithful.Faithfuls.{AheadOf, back-run, bears, crossed-fe, crossed-il, Grown, grown-call, Known, not-empty, ord-run, ord-start}
use Rattle.stack_engine.proofs.faithful.Faithfuls.{OrdAt, OrdWorld, passed_count}
use Rattle.stack_engine.proofs.faithful.Order.{found, IsNth, length-first}
use Rattle.stack_engine.proofs.one.Received.{AreGood, Begins, begins-keeps, closed-early, early-connected, early-stays, Fails, Heeds, idle-done, idle-put}
use Rattle.stack_engine.proofs.one.Received.{IsEarly, IsGood, Machined, Whole}
use Rattle.stack_engine.proofs.one.Sent.{all-parts, and-parts, call-keeps, came, call-packs-at, closed-is, Goes, handed-none, IsTypedCall, keep-goes_on}
use Rattle.stack_engine.proofs.one.Sent.{keep-settle, Laws, nil-behind, nil-front, Packs, packs-some, PacksAt, Spoken}
use Rattle.stack_engine.proofs.two.AllJudged.{all_judged}
use Rattle.stack_engine.proofs.two.PairPromises.{checksum-short, early-by, good-sent, nil-is, not-closed}
use Rattle.stack_engine.proofs.two.Machines.{both-call, Comes, genuine-heard, not-stranger, own-same, peer-same, TextsOf}
use Rattle.stack_engine.proofs.two.JointSessions.{joint-new, JointEnds, law-now, Paired, paired-event, paired-run, paired-start, PairedWorld}
use Rattle.stack_engine.proofs.two.Worlds.{AllWhole, at-call, begin-came, begin-then, items-append, machines_as, Mapped, MappedWorld, opens, queue-is, queue-put, served, states}
use Rattle.stack_engine.proofs.two.Worlds.{texts-latest, typed-call, unless, unserved}
use Rattle.safe_machine.specs.Law as L
use Rattle.safe_machine.specs.World as M

nth-below : (r : CodeRule) (ms : List Made) (n : ℕ) (octets : List ℕ) → IsNth r ms n octets → n < length ms
nth-below r [] zero octets h = let e = h.2 in cc
nth-below r [] (suc n) octets h = let e = h.2 in cc
nth-below r (m ∷ ms) zero octets h = omega arith
nth-below r (m ∷ ms) (suc n) octets h = let lt = nth-below r ms n octets h in omega (arith, lt)

-- with all of the peer's PDUs arrived, as many went up
count-is : (p : Laws) (x y : EndState) → IsNear x → Known (Some y) x → AllArrived x y
    → passed_count (Some x) ≡ length y.machine.made
count-is p x y near known all =
    let arrived = arrivals x.inputs in
    let m : ℕ = first_missing arrived in
    let is = (p.missing arrived).0 in
    let up : passed_count (Some x) ≡ m =
    ap length (p.masking x.settings.q x.settings.t_seq x.inputs near.0 near.1) ∙ length-first m arrived
    in
    let not-less : m < length y.machine.made → ⊥ = λ lt. false≢true (sym is.not_there ∙ all m lt) in
    let not-more : length y.machine.made < m → ⊥ = λ lt.
    let nth = found (rule_of y.settings) y.machine.made (length y.machine.made) arrived
    (is.all_below (length y.machine.made) lt) known.carry in
    let below = nth-below (rule_of y.settings) y.machine.made (length y.machine.made) _ nth in
    omega (arith, below)
    in
    up ∙ omega (arith, not-less, not-more)

pub keeps : (p : Laws) (ils : List EndState) (fes : List JoinedEnd) (di df : ℕ) (o : OrdWorld ils fes di df)
    → KeepsOrder (passed_count (latest ils)) (passed_count (latest (ends_of fes)))
    (machines_as ils fes o.joined di df o.clock_il o.clock_fe)
keeps p ils fes di df o =
    let es = o.ordered.events in
    subst (λ n. KeepsOrder n (passed_count (latest (ends_of fes)))
    (machines_as ils fes o.joined di df o.clock_il o.clock_fe)) o.ordered.heard_il
    (subst (λ n. KeepsOrder (all_heard_by_il es 0) n (machines_as ils fes o.joined di df o.clock_il o.clock_fe))
    o.ordered.heard_fe
    (subst (KeepsOrder (all_heard_by_il es 0) (all_heard_by_fe es 0)) o.ordered.leads
    (p.in_order es o.ordered.genuine o.ordered.timely o.ordered.in_order)))

pub il-quiet : (p : Laws) (ils : List EndState) (fes : List JoinedEnd) (di df : ℕ) → OrdWorld ils fes di df
    → AtOpened (λ x. AsksNothing x.machine.made) (latest ils)
il-quiet p [] fes di df o = tt
il-quiet p (x ∷ before) fes di df o = (keeps p (x ∷ before) fes di df o).il_asks_nothing

pub fe-quiet : (p : Laws) (ils : List EndState) (fes : List JoinedEnd) (di df : ℕ) → OrdWorld ils fes di df
    → AtOpened (λ x. AsksNothing x.machine.made) (latest (ends_of fes))
fe-quiet p ils [] di df o = tt
fe-quiet p ils (f ∷ fs) di df o = (keeps p ils (f ∷ fs) di df o).fe_asks_nothing

-- What an opening gives and each call keeps, over a genuine list of events.
module _ (P : EndState → Type 0) (opened : (side : Side) (s : EndSettings) (first now : ℕ) → are_fit side s ≡ true
    → P (new_end side s first now))
    (called : (peer : Option EndState) (dead : ℕ) (c : Call) (x : EndState) → IsTypedCall c → GenuineCall peer dead c x
    → P x → P (call c x)) where
  abbrev pub Each : World → Type 0
  Each w = AtOpened P (latest w.ils) × AtOpened P (latest (ends_of w.fes))

  each-il : (c : Call) (ils : List EndState) (peer : Option EndState) (dead : ℕ) → IsTypedCall c
      → AtOpened (GenuineCall peer dead c) (latest ils)
      → AtOpened P (latest ils) → AtOpened P (latest (call_il c ils))
  each-il c [] peer dead t g h = tt
  each-il c (x ∷ before) peer dead t g h = called peer dead c x t g h

  each-fe : (c : Call) (ils : List EndState) (fes : List JoinedEnd) (peer : Option EndState) (dead : ℕ) → IsTypedCall c
      → AtOpened (GenuineCall peer dead c) (latest (ends_of fes)) → AtOpened P (latest (ends_of fes))
      → AtOpened P (latest (ends_of (call_fe c ils fes)))
  each-fe c ils [] peer dead t g h = tt
  each-fe c ils (f ∷ fs) peer dead t g h = called peer dead c f.end t g h

  each-changed : (e : Event) (w : World) → IsTyped e → refusal e w ≡ None → GenuineEvent e w → Each w
      → Each (change_world e w)
  each-changed (Open Il s first now) w t ok g h = (opened Il s first now (opens Il s now (latest w.ils) ok).fit, h.1)
  each-changed (Open Fe s first now) w t ok g h =
      (h.0, opened Fe s first now (opens Fe s now (latest (ends_of w.fes)) ok).fit)
  each-changed (Calls Il c) w t ok g h =
      (each-il c w.ils (latest (ends_of w.fes)) w.dead_fe (typed-call Il c t) g h.0, h.1)
  each-changed (Calls Fe c) w t ok g h = (h.0, each-fe c w.ils w.fes (latest w.ils) w.dead_il (typed-call Fe c t) g h.1)

  pub each-run : (es : List Event) (w : World) → AreTyped es → Genuine es w → Each w → Each (run es w)
  each-run [] w t g h = h
  each-run (e ∷ es) w t g h =
      each-run es (apply_event w e) t.1 g.1 (unless Each (refusal e w) w (change_world e w) h
      (λ ok. each-changed e w t.0 ok (g.0 ok) h))

-- packing, over events
abbrev pub PacksWorld : List EndState → List JoinedEnd → Type 0
PacksWorld ils fes = AtOpened PacksAt (latest ils) × AtOpened PacksAt (latest (ends_of fes))

pub packs-run : (p : Laws) (es : List Event) (w : World) → AreTyped es → Genuine es w → PacksWorld w.ils w.fes
    → PacksWorld (run es w).ils (run es w).fes
packs-run p es w t g h =
    each-run PacksAt (λ side s first now fit. ((packs-some side s fit).0, inl refl))
    (λ peer dead c x t g h. call-packs-at c x (grown-call p.moves (IsGenuine peer dead) c x t g.1).set h) es w t g h

pub waits-by : (x : EndState) → Packs x → (may_send x.machine ≡ false
    → x.machine.window ≤ length (unconfirmed x.machine)) → WaitsForWindow x
waits-by x (inl nil) full = λ some. absurd (some (nil-is x.session.waiting nil))
waits-by x (inr not) full = λ some. full not

-- with all units taken, everything put is taken except what waits
all-taken : Laws → (a b : Side) (x y : EndState) → Spoken a x → Spoken b y → Heeds y → is_shut y ≡ false
    → y.machine.taken ≡ units x.machine.made
    → put_at x ≡ taken_at y ++ items_waiting x
all-taken laws a b x y sx sy he on units-are =
    grind (
      arith,
      nat_tests,
      items-append,
      queue-is,
      queue-put,
      he.on,
      laws.taken,
      sy.talk.events,
      sy.talk.history,
      sy.whole,
    )

pub there : (p : Laws) (ils : List EndState) (fes : List JoinedEnd) (di df : ℕ) → OrdWorld ils fes di df
    → AheadOf ils fes
    → Paired ils fes di df → PacksWorld ils fes
    → OfBoth IfOpen (latest ils) (latest (ends_of fes))
there p [] fes di df o a q k = tt
there p (x ∷ before) [] di df o a q k = tt
there p (x ∷ before) (f ∷ fs) di df o a q k = λ from-fe from-il il-on fe-on.
    let h = q.mapped in
    let y = f.end in
    let law = keeps p (x ∷ before) (f ∷ fs) di df o in
    let i : passed_count (Some x) ≡ length y.machine.made = count-is p x y a.il_near o.il_knows from-fe in
    let j : passed_count (Some y) ≡ length x.machine.made = count-is p y x a.fe_near o.fe_knows from-il in
    let of-il = law.il_all (not-closed x.machine.connection il-on) (not-closed y.machine.connection fe-on) i j in
    let of-fe = law.fe_all (not-closed x.machine.connection il-on) (not-closed y.machine.connection fe-on) i j in
    record {
      il_up = of-il.up;
      fe_up = of-fe.up;
      il_taken = of-il.taken;
      fe_taken = of-fe.taken;
      il_waits = waits-by x k.0.1 of-il.full;
      fe_waits = waits-by y k.1.1 of-fe.full;
      commands = all-taken p Il Fe x y h.il_whole.0.spoken h.fe_whole.0.spoken h.fe_whole.0.heeds fe-on of-fe.taken;
      status = all-taken p Fe Il y x h.fe_whole.0.spoken h.il_whole.0.spoken h.il_whole.0.heeds il-on of-il.taken;
    }

pub orderly : Laws → OrderlyLaw
orderly p es typed f crossed =
    let w = run es start in
    let a : AheadOf w.ils w.fes = record {
      il_near = f.il_near;
      fe_near = f.fe_near;
      same_rule = f.same_rule;
      crossed = crossed;
    } in
    let o : OrdAt w = ord-run p es start typed f.genuine f.events a paired-start ord-start in
    let q : PairedWorld w = paired-run p es start typed f.genuine paired-start in
    let k : PacksWorld w.ils w.fes = packs-run p es start typed f.genuine (tt, tt) in
    record {
      il_asks_nothing = il-quiet p w.ils w.fes w.dead_il w.dead_fe o;
      fe_asks_nothing = fe-quiet p w.ils w.fes w.dead_il w.dead_fe o;
      units_there = there p w.ils w.fes w.dead_il w.dead_fe o a q k;
    }

-- sessions begin with their connections, over events
abbrev BeginsWorld : List EndState → List JoinedEnd → Type 0
BeginsWorld ils fes = AtOpened Begins (latest ils) × AtOpened Begins (latest (ends_of fes))

none-ended : ◌≡◌ {A = Option Phase} None (Some Idle) → ⊥
none-ended e = cc

new-begins : (side : Side) (s : EndSettings) (first now : ℕ) → Begins (new_end side s first now)
new-begins Il s first now =
    record { early = λ _. (refl, refl); begun = λ on. absurd (false≢true on); ended = λ e. none-ended e }
new-begins Fe s first now =
    record { early = λ _. (refl, refl); begun = λ on. absurd (false≢true on); ended = λ e. none-ended e }

begins-call : (p : Laws) (peer : Option EndState) (dead : ℕ) (c : Call) (x : EndState) → IsTypedCall c
    → GenuineCall peer dead c x → Begins x
    → Begins (call c x)
begins-call p peer dead c x t g h =
    call-keeps c (IsGenuine peer dead) Begins x (begins-keeps p (time_of c) (IsGenuine peer dead)) t g.1 h

begins-run : (p : Laws) (es : List Event) (w : World) → AreTyped es → Genuine es w → BeginsWorld w.ils w.fes
    → BeginsWorld (run es w).ils (run es w).fes
begins-run p es w t g h =
    each-run Begins (λ side s first now fit. new-begins side s first now) (begins-call p) es w t g h

-- The sessions of the two ends are joint, each took a prefix of what the other sent, and it is well formed.
record Together (x y : EndState) : Type 0 where
  joint : JointEnds y.settings x y
  il_took : IsBeginning x.machine.taken (units y.machine.made)
  fe_took : IsBeginning y.machine.taken (units x.machine.made)
  il_good : AreGood x.machine.taken
  fe_good : AreGood y.machine.taken

good-begins : (side : Side) (us : List (List ℕ)) (y : EndState) → Spoken side y → IsBeginning us (units y.machine.made)
    → AreGood us
good-begins side us y sp b = (all-parts IsGood us b.0 (subst AreGood (sym b.1) (good-sent side y sp))).0

none-begins : {X : Type 0} (a b : List X) → a ≡ [] → IsBeginning a b
none-begins a b none = (b, ap (λ l. l ++ b) none)

nobody : (number : ℕ) (x : EndState) (f : JoinedEnd) → f.joined ≡ None
    → (x.machine.taken ≡ []) ⊎ L.IsJoined number (served (f ∷ [])) → x.machine.taken ≡ []
nobody number x f h k = grind (arith, nat_tests)

together : (p : Laws) (x : EndState) (f : JoinedEnd) (di df : ℕ) → Paired (x ∷ []) (f ∷ []) di df → (o : Option ℕ)
    → f.joined ≡ o
    → Together x f.end
together p x f di df q None free =
    let h = q.mapped in
    let law = law-now p (x ∷ []) (f ∷ []) di df h in
    let fe-none : f.end.machine.taken ≡ [] = subst (λ o. L.TakesBeginnings (states (x ∷ [])) f.end.machine o) free
    law.beginnings.0 in
    let il-none : x.machine.taken ≡ [] = nobody 1 x f free law.only_joined.0 in
    record {
      joint = joint-new p.one_more x f.end h.il_whole.0.spoken h.fe_whole.0.spoken il-none fe-none;
      il_took = none-begins x.machine.taken (units f.end.machine.made) il-none;
      fe_took = none-begins f.end.machine.taken (units x.machine.made) fe-none;
      il_good = subst AreGood (sym il-none) tt;
      fe_good = subst AreGood (sym fe-none) tt;
    }
together p x f di df q (Some number) is =
    let h = q.mapped in
    let law = law-now p (x ∷ []) (f ∷ []) di df h in
    let pair : MatchOption (incarnation (x ∷ []) number) ⊥ (λ g. JointEnds f.end.settings g f.end) = q.pairs.0 number is
    in
    let takes = subst (λ o. L.TakesBeginnings (states (x ∷ [])) f.end.machine o) is law.beginnings.0 in
    by_test (λ b. MatchOption (cond b (Some x) None) ⊥ (λ g. JointEnds f.end.settings g f.end)
    → MatchOption (cond b (Some x.machine) None) ⊥
    (λ (il : State). IsBeginning f.end.machine.taken (units il.made) × IsBeginning il.taken (units f.end.machine.made))
    → Together x f.end)
    (number == 0 + 1)
    (λ _ j t. record {
      joint = j;
      il_took = t.1;
      fe_took = t.0;
      il_good = good-begins Fe x.machine.taken f.end h.fe_whole.0.spoken t.1;
      fe_good = good-begins Il f.end.machine.taken x
          h.il_whole.0.spoken t.0;
    })
    (λ _ j t. absurd j) pair takes

-- if nothing was put, nothing was taken, and nothing waits
nothing-begins : {X : Type 0} (a b : List X) → b ≡ [] → IsBeginning a b → a ≡ []
nothing-begins a b none h = nil-front a h.0 (h.1 ∙ none)

nothing-waits : (p : Laws) (side : Side) (x : EndState) → Spoken side x → put_at x ≡ [] → items_waiting x ≡ []
nothing-waits p side x sp none = grind (arith, nil-behind, items-append, queue-is, queue-put p side x sp)

record Empty (x y : EndState) : Type 0 where
  il : put_at x ≡ []
  fe : put_at y ≡ []

-- if a telegram ended one of them, nothing was put at either
own-put : (p : Laws) (side : Side) (x : EndState) → Spoken side x → (phase : Phase)
    → x.session.history.ended_in ≡ Some phase → is_early phase ≡ true
    → put_at x ≡ []
own-put p side x sp phase =
    subst (λ (h : History). h.ended_in ≡ Some phase → is_early phase ≡ true → h.put ≡ []) (sym sp.talk.history)
    (p.own_early x.settings.addressing (session_of side x.settings) sp.talk.events phase)

some-of : (o : Option Phase) → o ≢ None → (phase : Phase) × (o ≡ Some phase)
some-of o h = grind (arith, nat_tests)

empty-by : (p : Laws) (x y : EndState) → Spoken Il x → Spoken Fe y → Together x y → Fails x ⊎ Fails y → Empty x y
empty-by p x y sx sy t (inl fails) =
    let s = some-of x.session.history.ended_in (fails t.il_good) in
    let early = (early-by p.phases x y (checksum-short Fe y.settings sy.fit) t.joint).0 s.0 s.1 in
    record { il = own-put p Il x sx s.0 s.1 early.0; fe = early.1 }
empty-by p x y sx sy t (inr fails) =
    let s = some-of y.session.history.ended_in (fails t.fe_good) in
    let early = (early-by p.phases x y (checksum-short Fe y.settings sy.fit) t.joint).1 s.0 s.1 in
    record { il = early.1; fe = own-put p Fe y sy s.0 s.1 early.0 }

-- at most one telegram is read from each message
few-read : (ms : List (List ℕ)) → length (telegrams_in ms) ≤ length ms
few-read [] = omega arith
few-read (m ∷ ms) =
    let one = one-read (tele_seen m) in
    let rest = few-read ms in
    omega (arith, one, rest, length-append (found_telegram (tele_seen m)) (telegrams_in ms))
  where
    one-read : (seen : Result Tele TeleFault) → length (found_telegram seen) ≤ 1
    one-read (Ok t) = omega arith
    one-read (Err fault) = omega arith

texts-length : (ts : List Tele) → length (texts ts) ≡ length ts
texts-length [] = refl
texts-length (t ∷ ts) = ap suc (texts-length ts)

begins-short : {X : Type 0} (a b : List X) → IsBeginning a b → length a ≤ length b
begins-short a b h = let all = ap length h.1 in omega (arith, all, length-append a h.0)

none-left : (ms : List (List ℕ)) → length ms ≤ 0 → ms ≡ []
none-left [] h = refl
none-left (m ∷ ms) h = absurd (omega (arith, h))

-- if the other has judged all of the queue, all of it was sent
judged-sent : (side other : Side) (x y : EndState) → Spoken side x → Spoken other y
    → IsBeginning y.machine.taken (units x.machine.made)
    → y.session.history.judged ≡ x.session.history.queue → x.session.waiting ≡ []
judged-sent side other x y sx sy took all =
    let sent = messages_in (units x.machine.made) in
    let judged = begins-short y.session.history.judged (telegrams_in sent)
    (begin-then y.session.history.judged (came y.machine) (telegrams_in sent) sy.begins
    (begin-came y.machine.taken (units x.machine.made) took)) in
    let same = ap length all in
    let queue = ap length sx.talk.queue in
    none-left x.session.waiting (omega (
      arith,
      judged,
      same,
      queue,
      few-read sent,
      texts-length x.session.history.queue,
      length-append sent x.session.waiting,
    ))

-- if a telegram ended one of them, no message waits at either
record Drained (x y : EndState) : Type 0 where
  il : x.session.waiting ≡ []
  fe : y.session.waiting ≡ []

drained-by : (p : Laws) (x y : EndState) → Spoken Il x → Spoken Fe y → Together x y → Fails x ⊎ Fails y → Drained x y
drained-by p x y sx sy t fails =
    let ended : (x.session.history.ended_in ≢ None) ⊎ (y.session.history.ended_in ≢ None) =
    ⊎_elim (λ f. inl (f t.il_good)) (λ f. inr (f t.fe_good)) fails in
    let all = subst (λ (h : SessionPair). (h.il.ended_in ≢ None) ⊎ (h.fe.ended_in ≢ None)
    → (h.il.judged ≡ h.fe.queue) × (h.fe.judged ≡ h.il.queue)) t.joint.leads
    (all_judged x.settings.addressing y.settings.addressing (first_version x.settings.versions) y.settings.versions
    y.settings.checksum (checksum-short Fe y.settings sy.fit) t.joint.events t.joint.in_turn)
    ended in
    record { il = judged-sent Il Fe x y sx sy t.fe_took all.1; fe = judged-sent Fe Il y x sy sx t.il_took all.0 }

-- ends that match do not fail
fits-by : (x y : EndState) → Match x y → Fits x.settings.addressing (first_version x.settings.versions)
    y.settings.addressing y.settings.versions
fits-by x y m = record { protocol = m.protocol; own = m.il_name; peer = sym m.fe_name; taken = m.version }

match-stays : (p : Laws) (x y : EndState) → Spoken Fe y → Together x y → Begins y → Match x y → Fails x ⊎ Fails y → ⊥
match-stays p x y sy t b m fails =
    let law = p.matching x.settings.addressing y.settings.addressing (first_version x.settings.versions)
    y.settings.versions y.settings.checksum
    (checksum-short Fe y.settings sy.fit) (fits-by x y m) t.joint.events t.joint.in_turn in
    let both : (x.session.history.ended_in ≡ None)
    × ((phase : Phase) → y.session.history.ended_in ≡ Some phase → phase ≡ Idle) =
    subst (λ (h : SessionPair). (h.il.ended_in ≡ None) × ((phase : Phase) → h.fe.ended_in ≡ Some phase → phase ≡ Idle))
    t.joint.leads law
    in
    ⊎_elim (λ f. f t.il_good both.0)
    (λ f. let s = some-of y.session.history.ended_in (f t.fe_good) in b.ended (s.1 ∙ ap Some (both.1 s.0 s.1))) fails

-- a message waits only for the window
up-waits : (x : EndState) → x.machine.connection ≡ IsUp → Packs x → WaitsForWindow x
up-waits x up packs = grind (arith, nat_tests, ltb-false, waits-by)

early-waits : (x : EndState) → IsEarly x.machine.connection → Begins x → WaitsForWindow x
early-waits x early b = λ some. absurd (some (b.early early).1)

client-waits : (x : EndState) (n : ℕ) → x.machine.connection ≡ client_state n → Begins x → Packs x → WaitsForWindow x
client-waits x zero is b packs = early-waits x (inr is) b
client-waits x (suc n) is b packs = up-waits x is packs

server-waits : (x : EndState) (n : ℕ) → x.machine.connection ≡ server_state n → Begins x → Packs x → WaitsForWindow x
server-waits x zero is b packs = early-waits x (inl is) b
server-waits x (suc zero) is b packs = early-waits x (inr is) b
server-waits x (suc (suc n)) is b packs = up-waits x is packs

is-open : (c : ConnectionState) → c ≢ Closed → is_closed c ≡ false
is-open c on = by_test (λ b. is_closed c ≡ b → b ≡ false) (is_closed c) (λ shut _. absurd (on (closed-of c shut)))
    (λ _ _. refl) refl
  where
    closed-of : (c : ConnectionState) → is_closed c ≡ true → c ≡ Closed
    closed-of Closed e = refl
    closed-of _ e = cc

-- all of the other's queue was judged
judged-all : (side : Side) (x y : EndState) → Spoken side y
    → x.session.history.judged ≡ telegrams_in (messages_in x.machine.taken)
    → x.machine.taken ≡ units y.machine.made → y.session.waiting ≡ []
    → x.session.history.judged ≡ y.session.history.queue
judged-all side x y sy whole took none = grind (arith, queue-is side y sy, append-nil)

true-not-false : true ≡ false → ⊥
true-not-false e = cc

all-there : (p : Laws) (ils : List EndState) (fes : List JoinedEnd) (di df : ℕ) → OrdWorld ils fes di df
    → AheadOf ils fes
    → Paired ils fes di df → PacksWorld ils fes → BeginsWorld ils fes
    → OfBoth IfAllArrived (latest ils) (latest (ends_of fes))
all-there p [] fes di df o a q k b = tt
all-there p (x ∷ before) [] di df o a q k b = tt
all-there p (x ∷ g ∷ before) (f ∷ fs) di df o a q k b = absurd (let l = o.once.0 in omega (arith, l))
all-there p (x ∷ []) (f ∷ e ∷ fs) di df o a q k b = absurd (let l = o.once.1 in omega (arith, l))
all-there p (x ∷ []) (f ∷ []) di df o a q k b = λ from-fe from-il.
    let y = f.end in
    let h = q.mapped in
    let t : Together x y = together p x f di df q f.joined refl in
    let law = keeps p (x ∷ []) (f ∷ []) di df o in
    let sx = h.il_whole.0.spoken in
    let sy = h.fe_whole.0.spoken in
    let stays : o.closed ≡ false → (is_shut x ≡ false) × (is_shut y ≡ false) = λ none.
    let s = subst StaysOpen o.ordered.leads (p.stays o.ordered.events o.ordered.genuine o.ordered.timely
    o.ordered.in_order (o.ordered.closes ∙ none)) in (
      is-open x.machine.connection (s.il (not-empty (states []) M.unopened_state)),
      is-open y.machine.connection (s.fe (not-empty (served []) unserved)),
    )
    in
    let units-there : o.closed ≡ false → UnitsThere x y = λ none. there p (x ∷ []) (f ∷ []) di df o a q k
    (from-fe (stays none).0)
    (from-il (stays none).1) (stays none).0 (stays none).1 in
    let drained : (o.closed ≡ false → ⊥) → Drained x y = λ not.
    by_test (λ _. Drained x y) o.closed (λ is. drained-by p x y sx sy t (o.fails is)) (λ is. absurd (not is))
    in
    let il-drained : is_shut x ≡ true → x.session.waiting ≡ [] = λ shut.
    (drained (λ none. true-not-false (sym shut ∙ (stays none).0))).il in
    let fe-drained : is_shut y ≡ true → y.session.waiting ≡ [] = λ shut.
    (drained (λ none. true-not-false (sym shut ∙ (stays none).1))).fe in
    let kept : Match x y → o.closed ≡ false = λ m.
    by_test (λ c. o.closed ≡ c → c ≡ false) o.closed (λ _ is. absurd (match-stays p x y sy t b.1 m (o.fails is)))
    (λ _ _. refl) refl
    in
    record {
      il_waits =
          by_test (λ _. WaitsForWindow x) (is_shut x) (λ shut some. absurd (some (il-drained shut)))
          (λ on. client-waits x (passed_count (Some x)) (law.client (not-closed x.machine.connection on)) b.0 k.0.1);
      fe_waits =
          by_test (λ _. WaitsForWindow y) (is_shut y) (λ shut some. absurd (some (fe-drained shut)))
          (λ on. server-waits y (passed_count (Some y)) (law.server (not-closed y.machine.connection on)) b.1 k.1.1);
      il_keeps = il-drained;
      fe_keeps = fe-drained;
      commands =
          by_test (λ c. o.closed ≡ c → put_at x ≡ taken_at y ++ items_waiting x) o.closed
          (λ _ is.
          let none = empty-by p x y sx sy t (o.fails is) in
          let took = nothing-begins (taken_at y) (put_at x) none.il (fronts x y sy t).1 in
          none.il ∙ sym (ap (λ is. is ++ items_waiting x) took ∙ nothing-waits p Il x sx none.il))
          (λ _ is. (units-there is).commands) refl;
      status =
          by_test (λ c. o.closed ≡ c → put_at y ≡ taken_at x ++ items_waiting y) o.closed
          (λ _ is.
          let none = empty-by p x y sx sy t (o.fails is) in
          let took = nothing-begins (taken_at x) (put_at y) none.fe (fronts x y sy t).0 in
          none.fe ∙ sym (ap (λ is. is ++ items_waiting y) took ∙ nothing-waits p Fe y sy none.fe))
          (λ _ is. (units-there is).status) refl;
      il_up = λ m. (units-there (kept m)).il_up;
      fe_up = λ m. (units-there (kept m)).fe_up;
      in_step = λ m il-none fe-none.
          let is = kept m in
          let u = units-there is in
          let on = stays is in
          let step = p.in_step x.settings.addressing y.settings.addressing (first_version x.settings.versions)
          y.settings.versions y.settings.checksum
          (checksum-short Fe y.settings sy.fit) t.joint.events t.joint.in_turn in
          (subst (λ (h : SessionPair). IsRunning h.il → IsRunning h.fe → h.il.judged ≡ h.fe.queue
          → h.fe.judged ≡ h.il.queue → AreInStep h.il h.fe) t.joint.leads
          step)
          (record { begun = b.0.begun (ap is_connected u.il_up); unended = h.il_whole.0.heeds.on on.0 })
          (record { begun = b.1.begun (ap is_connected u.fe_up); unended = h.fe_whole.0.heeds.on on.1 })
          (judged-all Fe x y sy (sx.whole on.0) u.il_taken fe-none)
          (judged-all Il y x sx (sy.whole on.1) u.fe_taken il-none);
    }
  where
    fronts : (x y : EndState) → Spoken Fe y → Together x y → IsBeginning (taken_at x) (put_at y)
        × IsBeginning (taken_at y) (put_at x)
    fronts x y sy t =
        subst (λ (h : SessionPair). IsBeginning h.il.taken h.fe.put × IsBeginning h.fe.taken h.il.put) t.joint.leads
        (p.fronts x.settings.addressing y.settings.addressing (first_version x.settings.versions) y.settings.versions
        y.settings.checksum
        (checksum-short Fe y.settings sy.fit) t.joint.events t.joint.in_turn)

pub nothing-lost-crossed : Laws → NothingLostCrossedLaw
nothing-lost-crossed p es typed f crossed =
    grind (
      arith,
      nat_tests,
      all-there,
      begins-run,
      fe-quiet,
      il-quiet,
      ord-run,
      ord-start,
      packs-run,
      paired-run,
      paired-start,
    )

-- machine, settings and session are as before
pub record Idles (x y : EndState) : Type 0 where
  pub machine : y.machine ≡ x.machine
  pub set : y.settings ≡ x.settings
  pub session : y.session ≡ x.session

-- a part of a PDU that no peer made for this end
pub deaf-to : Laws → (side : Side) (x : EndState) (peer : Option EndState) (dead now : ℕ) (octets : List ℕ)
    → x.machine.settings ≡ connection_of side x.settings → TextsOf peer
    → ((p : Pdu) → Among p (drop dead (made_of peer)) → is_stranger x.machine p ≡ false → ⊥)
    → x.machine.connection ≢ Closed → GuardHolds x.machine now
    → Comes peer dead x octets
    → arrive_octets octets now x.machine ≡ x.machine
deaf-to laws side x peer dead now octets same texts nobody on holds comes = go (seen_by x.machine octets) refl
  where
    go : (r : Result Pdu SafeFault) → seen_by x.machine octets ≡ r → move (heard_as r now) x.machine ≡ x.machine
    go (Err fault) e = holds
    go (Ok p) e =
        by_test (λ b. is_stranger x.machine p ≡ b → move (Hears p now) x.machine ≡ x.machine) (is_stranger x.machine p)
        (λ is _. laws.strangers p now x.machine is ∙ holds)
        (λ meant _. absurd (nobody p (genuine-heard laws side x peer dead now octets same texts comes.1 (Ok p) e on
        meant) meant)) refl

module _ (now : ℕ) (Q : EndState → List ℕ → Type 0) (x : EndState) (early : IsEarly x.machine.connection)
    (none : x.session.waiting ≡ [])
    (holds : GuardHolds x.machine now)
    (deaf : (octets : List ℕ) (y : EndState) → Idles x y → Q y octets → arrive_octets octets now y.machine ≡ y.machine)
  where
    early-of : (y : EndState) → Idles x y → IsEarly y.machine.connection
    early-of y h = subst (λ (s : State). IsEarly s.connection) (sym h.machine) early

    never-shut : (y : EndState) → Idles x y → is_shut y ≡ true → ⊥
    never-shut y h shut = closed-early (subst IsEarly (closed-is y.machine.connection shut) (early-of y h))

    i-heard : (octets : List ℕ) (y : EndState) → Q y octets → Idles x y → Idles x (heard now octets y)
    i-heard octets y q h =
        let same = deaf octets y h q in
        let c = y.machine.connection in
        let stays : bring_up (comes_up c c) y.session
        ≡ y.session = ap (λ b. bring_up b y.session) (early-stays c (early-of y h)) in
        subst (λ (s : State). Idles x (leaves now (judge_units (handed_up y s) y.session).leaving
        (answered octets y s)))
        (sym same)
        (by_units (handed_up y y.machine) (handed-none y y.machine refl) y octets stays h)
      where
        by_units : (us : List (List ℕ)) → us ≡ [] → (y : EndState) (octets : List ℕ)
            → bring_up (comes_up y.machine.connection y.machine.connection) y.session
            ≡ y.session → Idles x y
            → Idles x (leaves now (judge_units us y.session).leaving
            (record {
              settings = y.settings;
              red = y.red;
              inputs = y.inputs;
              machine = y.machine;
              session =
                  bring_up (comes_up y.machine.connection y.machine.connection) (judge_units us y.session).left;
              request = (answered octets y y.machine).request;
              time = y.time;
            }))
        by_units [] e y octets stays h = record { machine = h.machine; set = h.set; session = stays ∙ h.session }
        by_units (u ∷ us) e y octets stays h = cc

    i-goes : Goes now Q (Idles x)
    i-goes =
        record {
          ends = λ y shut h. absurd (never-shut y h shut);
          hears = i-heard;
          sends =
              λ y may some h. absurd (false≢true (sym some ∙ ap (λ (d : Dialogue). is_nil d.waiting) h.session
              ∙ ap is_nil none));
        }

    pub i-moved : (m : Move) (y : EndState) → y ≡ moved m x → move m x.machine ≡ x.machine → Idles x y
    i-moved m y is still =
        subst (Idles x) (sym is)
        (keep-settle now Q (Idles x) i-goes (with_machine (move m x.machine) x)
        (record { machine = still; set = refl; session = refl }))

    pub i-goes_on : (i : Input) (y : EndState) → AtInput Q now i y → Idles x y → Idles x (goes_on now i y)
    i-goes_on i y q h =
        keep-goes_on now Q (Idles x) i-goes i y q (record { machine = h.machine; set = h.set; session = h.session }) h

-- an end that is as it was opened
record CalmAs (s : State) (d : Dialogue) : Type 0 where
  early : IsEarly s.connection
  quiet : AsksNothing s.made
  phase : phase_in d ≡ Idle
  waiting : d.waiting ≡ []
  put : d.history.put ≡ []
  taken : d.history.taken ≡ []

abbrev Calm : EndState → Type 0
Calm x = CalmAs x.machine x.session

calm-idles : (x y : EndState) → Idles x y → Calm x → Calm y
calm-idles x y h c = subst (λ (s : State). CalmAs s y.session) (sym h.machine)
    (subst (λ (d : Dialogue). CalmAs x.machine d) (sym h.session) c)

-- the peer has made nothing for this end
abbrev Deaf : Option EndState → ℕ → EndState → Type 0
Deaf peer dead x = (p : Pdu) → Among p (drop dead (made_of peer)) → is_stranger x.machine p ≡ false → ⊥

early-open : (c : ConnectionState) → IsEarly c → c ≢ Closed
early-open c early = λ closed. closed-early (subst IsEarly closed early)

still-tick : (now : ℕ) (s : State) → IsEarly s.connection → GuardHolds s now → move (Ticks now) s ≡ s
still-tick now s early holds = grind (arith, early-connected, holds)

not-refused : (c : Call) (x : EndState) → call_refusal c (Some x) ≡ None → session_refusal c x ≡ None
not-refused c x h =
    by_cond (λ o. o ≡ None → session_refusal c x ≡ None) _ (Some Clock) (session_refusal c x) (λ _ e. cc) (λ _ e. e) h

-- so no part that comes moves it
deaf-of : (l : Laws) → (side : Side) (x : EndState) (peer : Option EndState) (dead t : ℕ) → Whole side x → TextsOf peer
    → Deaf peer dead x
    → IsEarly x.machine.connection
    → (octets : List ℕ) (y : EndState) → Idles x y → GuardHolds y.machine t × Comes peer dead y octets
    → arrive_octets octets t y.machine ≡ y.machine
deaf-of l side x peer dead t w texts deaf early octets y i q =
    deaf-to l side y peer dead t octets (ap (λ (s : State). s.settings) i.machine ∙ w.machined.same
    ∙ ap (connection_of side) (sym i.set))
    texts
    (λ p among meant. deaf p among (ap (λ (s : State). is_stranger s p) (sym i.machine) ∙ meant))
    (early-open y.machine.connection (subst (λ (s : State). IsEarly s.connection) (sym i.machine) early)) q.0 q.1

calm-call : (l : Laws) → (side : Side) (x : EndState) (peer : Option EndState) (dead : ℕ) (c : Call) → Whole side x
    → TextsOf peer
    → Deaf peer dead x → call_refusal c (Some x) ≡ None → FaithfulCall peer c x
    → AtCall (Comes peer dead) c x → Calm x → Calm (call c x)
calm-call l side x peer dead (Close t) w texts deaf ok f q h = absurd f.0
calm-call l side x peer dead (Put kind payload t) w texts deaf ok f q h =
    grind (arith, nat_tests, idle-put, not-refused, h.phase)
calm-call l side x peer dead (InitDone t) w texts deaf ok f q h =
    grind (arith, nat_tests, idle-done, not-refused, h.phase)
calm-call l side x peer dead (Tick t) w texts deaf ok f q h =
    let Q : EndState → List ℕ → Type 0 = λ y o. GuardHolds y.machine t × Comes peer dead y o in
    by_test (λ b. is_shut x ≡ b → Calm (record (cond b x (goes_on t (RedTick t) (tick_step t x))) { time = t }))
    (is_shut x) (λ _ _. h)
    (λ on _.
    calm-idles x (goes_on t (RedTick t) (tick_step t x))
    (i-goes_on t Q x h.early h.waiting f.2.0 (deaf-of l side x peer dead t w texts deaf h.early) (RedTick t)
    (tick_step t x)
    (both-call (λ y o. GuardHolds y.machine t) (Comes peer dead) (Tick t) x f.2.1 q on)
    (i-moved t Q x h.early h.waiting f.2.0 (deaf-of l side x peer dead t w texts deaf h.early) (Ticks t) (tick_step t x)
    (ticked-is t x) (still-tick t x.machine h.early f.2.0))) h)
    refl
calm-call l side x peer dead (Deliver channel octets t) w texts deaf ok f q h =
    let Q : EndState → List ℕ → Type 0 = λ y o. GuardHolds y.machine t × Comes peer dead y o in
    by_test (λ b. is_shut x ≡ b → Calm (record (cond b x (goes_on t (Datagram octets t) (guard_step t x))) {
      time = t;
    })) (is_shut x) (λ _ _. h)
    (λ on _.
    calm-idles x (goes_on t (Datagram octets t) (guard_step t x))
    (i-goes_on t Q x h.early h.waiting f.2.0 (deaf-of l side x peer dead t w texts deaf h.early) (Datagram octets t)
    (guard_step t x)
    (both-call (λ y o. GuardHolds y.machine t) (Comes peer dead) (Deliver channel octets t) x f.2.1 q on)
    (i-moved t Q x h.early h.waiting f.2.0 (deaf-of l side x peer dead t w texts deaf h.early) (Guards t)
    (guard_step t x) (guarded-is t x) f.2.0)) h) refl

-- ends that are not crossed
abbrev Unmet : EndState → EndState → Type 0
Unmet il fe = Crossed il fe → ⊥

among-bears : (s : Settings) (n : ℕ) (ms : List Made) (p : Pdu) → AreFrom s ms → Among p (drop n ms)
    → (p.receiver ≡ s.peer) × (p.sender ≡ s.own)
among-bears s zero [] p h a = absurd a
among-bears s (suc n) [] p h a = absurd a
among-bears s zero (m ∷ ms) p h (inl is) =
    (ap (λ (q : Pdu). q.receiver) (sym is) ∙ h.0.0, ap (λ (q : Pdu). q.sender) (sym is) ∙ h.0.1)
among-bears s zero (m ∷ ms) p h (inr a) = among-bears s zero ms p h.1 a
among-bears s (suc n) (m ∷ ms) p h a = among-bears s n ms p h.1 a

-- what the peer made for its own peer, as this end
record Told (x y : EndState) : Type 0 where
  own : y.settings.connection.peer ≡ x.settings.connection.own
  peer : y.settings.connection.own ≡ x.settings.connection.peer

told : IdentifiedLaw → (a b : Side) (x y : EndState) (dead : ℕ) (p : Pdu) → Machined a x → Machined b y
    → Among p (drop dead y.machine.made)
    → is_stranger x.machine p ≡ false → Told x y
told law a b x y dead p mx my among meant =
    let ids = among-bears y.machine.settings dead y.machine.made p (bears law b y my) among in
    let both = and-parts (p.receiver == x.machine.settings.own) (p.sender == x.machine.settings.peer)
    (not-stranger _ meant) in
    let own-x : x.machine.settings.own ≡ x.settings.connection.own = ap (λ (c : Settings). c.own) mx.same
    ∙ own-same a x.settings in
    let peer-x : x.machine.settings.peer ≡ x.settings.connection.peer = ap (λ (c : Settings). c.peer) mx.same
    ∙ peer-same a x.settings in
    let own-y : y.machine.settings.own ≡ y.settings.connection.own = ap (λ (c : Settings). c.own) my.same
    ∙ own-same b y.settings in
    let peer-y : y.machine.settings.peer ≡ y.settings.connection.peer = ap (λ (c : Settings). c.peer) my.same
    ∙ peer-same b y.settings in
    record {
      own = sym peer-y ∙ sym ids.0 ∙ eqb-true p.receiver x.machine.settings.own both.0 ∙ own-x;
      peer = sym own-y ∙ sym ids.1 ∙ eqb-true p.sender x.machine.settings.peer both.1 ∙ peer-x;
    }

drop-nil : (n : ℕ) (p : Pdu) → Among p (drop n []) → ⊥
drop-nil n p h = grind (arith, nat_tests)

deaf-il : IdentifiedLaw → (x : EndState) (o : List EndState) (dead : ℕ) → Whole Il x → AllWhole Fe o
    → OfBoth Unmet (Some x) (latest o) → Deaf (latest o) dead x
deaf-il law x [] dead w ws u = λ p among meant. drop-nil dead p among
deaf-il law x (y ∷ ys) dead w ws u = λ p among meant.
    let t = told law Il Fe x y dead p w.machined ws.0.machined among meant in
    u (record { il_identifier = sym t.own; fe_identifier = t.peer })

deaf-fe : IdentifiedLaw → (x : EndState) (o : List EndState) (dead : ℕ) → Whole Fe x → AllWhole Il o
    → OfBoth Unmet (latest o) (Some x) → Deaf (latest o) dead x
deaf-fe law x [] dead w ws u = λ p among meant. drop-nil dead p among
deaf-fe law x (y ∷ ys) dead w ws u = λ p among meant.
    let t = told law Fe Il x y dead p w.machined ws.0.machined among meant in
    u (record { il_identifier = t.peer; fe_identifier = sym t.own })

-- over events
abbrev CalmWorld : World → Type 0
CalmWorld w = AtOpened Calm (latest w.ils) × AtOpened Calm (latest (ends_of w.fes))

abbrev UnmetWorld : World → Type 0
UnmetWorld w = OfBoth Unmet (latest w.ils) (latest (ends_of w.fes))

new-calm : (side : Side) (s : EndSettings) (first now : ℕ) → Calm (new_end side s first now)
new-calm Il s first now =
    record { early = inr refl; quiet = ((λ e. cc), tt); phase = refl; waiting = refl; put = refl; taken = refl }
new-calm Fe s first now =
    record { early = inl refl; quiet = tt; phase = refl; waiting = refl; put = refl; taken = refl }

calm-il : (p : Laws) → (c : Call) (ils : List EndState) (fes : List JoinedEnd) (di df : ℕ) → IsTypedCall c
    → call_refusal c (latest ils) ≡ None → AtOpened (GenuineCall (latest (ends_of fes)) df c) (latest ils)
    → AtOpened (FaithfulCall (latest (ends_of fes)) c) (latest ils) → OfBoth Unmet (latest ils) (latest (ends_of fes))
    → Mapped ils fes di df
    → AtOpened Calm (latest ils) → AtOpened Calm (latest (call_il c ils))
calm-il p c [] fes di df t ok g f u h k = tt
calm-il p c (x ∷ before) fes di df t ok g f u h k =
    calm-call p Il x (latest (ends_of fes)) df c h.il_whole.0 (texts-latest p.texts Fe (ends_of fes) h.fe_whole)
    (deaf-il p.identified x (ends_of fes) df h.il_whole.0 h.fe_whole u) ok f
    (at-call p df (latest (ends_of fes)) Il c x t h.il_whole.0 g.1) k

calm-fe : (p : Laws) → (c : Call) (ils : List EndState) (fes : List JoinedEnd) (di df : ℕ) → IsTypedCall c
    → call_refusal c (latest (ends_of fes)) ≡ None → AtOpened (GenuineCall (latest ils) di c) (latest (ends_of fes))
    → AtOpened (FaithfulCall (latest ils) c) (latest (ends_of fes)) → OfBoth Unmet (latest ils) (latest (ends_of fes))
    → Mapped ils fes di df
    → AtOpened Calm (latest (ends_of fes)) → AtOpened Calm (latest (ends_of (call_fe c ils fes)))
calm-fe p c ils [] di df t ok g f u h k = tt
calm-fe p c ils (x ∷ fs) di df t ok g f u h k =
    calm-call p Fe x.end (latest ils) di c h.fe_whole.0 (texts-latest p.texts Il ils h.il_whole)
    (deaf-fe p.identified x.end ils di h.fe_whole.0 h.il_whole u) ok f
    (at-call p di (latest ils) Fe c x.end t h.fe_whole.0 g.1) k

calm-changed : (p : Laws) → (e : Event) (w : World) → IsTyped e → refusal e w ≡ None → GenuineEvent e w
    → FaithfulEvent e w → UnmetWorld w
    → MappedWorld w → CalmWorld w → CalmWorld (change_world e w)
calm-changed p (Open Il s first now) w t ok g f u h k = (new-calm Il s first now, k.1)
calm-changed p (Open Fe s first now) w t ok g f u h k = (k.0, new-calm Fe s first now)
calm-changed p (Calls Il c) w t ok g f u h k =
    (calm-il p c w.ils w.fes w.dead_il w.dead_fe (typed-call Il c t) ok g f u h k.0, k.1)
calm-changed p (Calls Fe c) w t ok g f u h k =
    (k.0, calm-fe p c w.ils w.fes w.dead_il w.dead_fe (typed-call Fe c t) ok g f u h k.1)

-- ends that are not crossed in the end were not before
unmet-il : (x y : EndState) (f : Option EndState) → Grown x y → OfBoth Unmet (Some y) f → OfBoth Unmet (Some x) f
unmet-il x y None grown u = tt
unmet-il x y (Some f) grown u = λ crossed. u (crossed-il y x f (sym grown.set) crossed)

unmet-fe : (g : Option EndState) (x y : EndState) → Grown x y → OfBoth Unmet g (Some y) → OfBoth Unmet g (Some x)
unmet-fe None x y grown u = tt
unmet-fe (Some g) x y grown u = λ crossed. u (crossed-fe g y x (sym grown.set) crossed)

unmet-none : (g : Option EndState) → OfBoth Unmet g None
unmet-none None = tt
unmet-none (Some g) = tt

unmet-run : (p : Laws) (es : List Event) (w : World) → AreTyped es → Genuine es w → AllFaithful es w
    → UnmetWorld (run es w) → UnmetWorld w
unmet-run p es w t g f u =
    back-run p (OfBoth Unmet) unmet-il unmet-fe (λ y f u. tt) (λ g y u. unmet-none g) es w t g f u

calm-run : (p : Laws) → (es : List Event) (w : World) → AreTyped es → Genuine es w → AllFaithful es w
    → UnmetWorld (run es w)
    → PairedWorld w → CalmWorld w → CalmWorld (run es w)
calm-run p [] w t g f u h k = k
calm-run p (e ∷ es) w t g f u h k =
    let here : UnmetWorld w = unmet-run p (e ∷ es) w t g f u in
    calm-run p es (apply_event w e) t.1 g.1 f.1 u (paired-event p e w t.0 g.0 h)
    (unless CalmWorld (refusal e w) w (change_world e w) k
    (λ ok. calm-changed p e w t.0 ok (g.0 ok) (f.0 ok) here h.mapped k))

-- what it says
quiet-of : (o : Option EndState) → AtOpened Calm o → AtOpened (λ x. AsksNothing x.machine.made) o
quiet-of None h = tt
quiet-of (Some x) h = h.quiet

calm-keeps : (x : EndState) → Calm x → items_waiting x ≡ []
calm-keeps x a = ap (λ ms. items_of (telegrams_in ms)) a.waiting

calm-nothing : (x y : EndState) → Calm x → Calm y → put_at x ≡ taken_at y ++ items_waiting x
calm-nothing x y a b = a.put ∙ sym (ap (λ is. is ++ items_waiting x) b.taken ∙ calm-keeps x a)

calm-there : (il fe : Option EndState) → OfBoth Unmet il fe → AtOpened Calm il → AtOpened Calm fe
    → OfBoth IfAllArrived il fe
calm-there None fe u a b = tt
calm-there (Some x) None u a b = tt
calm-there (Some x) (Some y) u a b = λ from-fe from-il.
    record {
      il_waits = λ some. absurd (some a.waiting);
      fe_waits = λ some. absurd (some b.waiting);
      il_keeps = λ shut. a.waiting;
      fe_keeps = λ shut. b.waiting;
      commands = calm-nothing x y a b;
      status = calm-nothing y x b a;
      il_up = λ m. absurd (u (record { il_identifier = m.il_identifier; fe_identifier = m.fe_identifier }));
      fe_up = λ m. absurd (u (record { il_identifier = m.il_identifier; fe_identifier = m.fe_identifier }));
      in_step =
          λ m none-il none-fe. absurd (u (record { il_identifier = m.il_identifier; fe_identifier = m.fe_identifier }));
    }

-- crossed, or not
met-or : (il fe : Option EndState) → OfBoth Crossed il fe ⊎ OfBoth Unmet il fe
met-or None fe = inl tt
met-or (Some x) None = inl tt
met-or (Some x) (Some y) = grind (arith, nat_tests, eq-eqb, eqb-true)

pub nothing-lost : Laws → NothingLostLaw
nothing-lost p es typed f =
    grind (arith, nat_tests, calm-run, calm-there, met-or, nothing-lost-crossed, paired-start, quiet-of)
