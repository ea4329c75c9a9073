-- What the pairs say over every genuine list: what neither waits nor is in an unconfirmed unit was taken; the headline;
-- freshness.
use Rattle.stack_engine.proofs.Words.{[], AllByRecursion, AllFresh, ap, append-nil, append_assoc, are_fit, AreTyped, arith, AtOpened, Bool, by_test, Call}
use Rattle.stack_engine.proofs.Words.{call_refusal, Calls, CHECKSUM_MAX, Closed, cond, ConfirmedTakenLaw, connection_of, ConnectionState, ends_of, EndsEarly}
use Rattle.stack_engine.proofs.Words.{EndSettings, EndState, eqb-true, Event, false, Fe, FeTaken, first_version, found_messages, FreshCall, FreshEvent}
use Rattle.stack_engine.proofs.Words.{Freshness, Genuine, GenuineCall, GenuineEvent, apply_event, HasMessage, HeadlineLaw, Il, incarnation, is_closed, is_nil}
use Rattle.stack_engine.proofs.Words.{is_number, IsBeginning, IsTyped, Item, items_of, items_unconfirmed, items_waiting, SessionPair, JoinedEnd, latest, length}
use Rattle.stack_engine.proofs.Words.{length-append, List, made_of, MatchOption, messages_in, nat_tests, None, not, Ok, Open, Option, Phase, PhaseLaw, put_at}
use Rattle.stack_engine.proofs.Words.{ReachedLaw, ReachedState, refl, refusal, run, SettledAt, SettledFe, SettledLaw, Side, Some, start, subst, sym, taken_at}
use Rattle.stack_engine.proofs.Words.{taken_from_fe, taken_from_il, TakesFresh, Tele, telegrams_in, texts, time_of, true, unconfirmed, unit_seen, units}
use Rattle.stack_engine.proofs.Words.{WasTaken, World, ℕ, ◌++◌, ◌+◌, ◌==◌, ◌∙◌, ◌∷◌, ◌≡◌, ◌≢◌, ◌≤◌}
use Rattle.stack_engine.specs.Settled.{CertainAt, CertainFe, CertainLaw, taken_by}
use Rattle.stack_end.specs.Certain.{confirmed_of}
use Rattle.std.specs.Prelude.{suc, take, zero}
use Rattle.stack_engine.proofs.one.Received.{AreGood, Heeds, IsGood, Machined, Reads, Whole}
use Rattle.stack_engine.proofs.one.Sent.{all-parts, and-parts, came, IsTypedCall, Laws, messages-append, nil-front, Spoken, telegrams-append, Unpacks}
use Rattle.stack_engine.proofs.two.Machines.{Comes, fe-keeps, FeAt, il-keeps, IlAt}
use Rattle.stack_engine.proofs.two.JointSessions.{eqb-same, inc-none, inc-some, inc-whole, JointEnds, law-now, PairAt, Paired, paired-event, paired-run, paired-start}
use Rattle.stack_engine.proofs.two.JointSessions.{PairedWorld}
use Rattle.stack_engine.proofs.two.Worlds.{all-take, AllWhole, at-call, before-length, call-at, call-timely, fe-fresh, fe-incarnations, found-fe, found-il}
use Rattle.stack_engine.proofs.two.Worlds.{il-fresh, il-incarnations, items-append, joins-fall, machines, Mapped, MappedWorld, only-joined, peer-fe, peer-il}
use Rattle.stack_engine.proofs.two.Worlds.{queue-is, queue-put, served, states, states-length, typed-call}
use Rattle.safe_machine.specs.Law as L

-- of two prefixes of a list the shorter is a prefix of the longer
shorter : {X : Type 0} (a x b y : List X) → a ++ x ≡ b ++ y → length a ≤ length b → IsBeginning a b
shorter [] x b y e le = (b, refl)
shorter (m ∷ a) x [] y e le = absurd (omega (arith, le))
shorter (m ∷ a) x (n ∷ b) y e le =
    let heads : m ≡ n = cc in
    let tails : a ++ x ≡ b ++ y = cc in
    let rest = shorter a x b y tails (omega (arith, le)) in
    (rest.0, ap (λ k. k ∷ (a ++ rest.0)) heads ∙ ap (λ l. n ∷ l) rest.1)

begin-items : (us vs : List (List ℕ)) → IsBeginning us vs
    → IsBeginning (items_of (telegrams_in (messages_in us))) (items_of (telegrams_in (messages_in vs)))
begin-items us vs h = (
  items_of (telegrams_in (messages_in h.0)),
  sym (items-append (telegrams_in (messages_in us)) (telegrams_in (messages_in h.0)))
      ∙ ap items_of (sym (telegrams-append (messages_in us) (messages_in h.0))
      ∙ ap telegrams_in (sym (messages-append us h.0))
      ∙ ap (λ ws. telegrams_in (messages_in ws)) h.1),
)

-- what was put, by units confirmed and not, and messages that wait
put-parts : Laws → (side : Side) (x : EndState) (cb : List (List ℕ)) → Spoken side x
    → cb ++ unconfirmed x.machine ≡ units x.machine.made
    → put_at x ≡ items_of (telegrams_in (messages_in cb)) ++ items_unconfirmed x ++ items_waiting x
put-parts laws side x cb sp e =
    grind (
      arith,
      queue-put laws side x sp,
      queue-is side x sp,
      messages-append,
      telegrams-append,
      items-append,
      append_assoc,
    )

-- all that an end sent is well formed
reads-texts : (ts : List Tele) → AllByRecursion HasMessage ts → AllByRecursion Reads (texts ts)
reads-texts [] h = tt
reads-texts (t ∷ ts) h = ((t, h.0.read), reads-texts ts h.1)

good-units : (us : List (List ℕ)) → AllByRecursion Unpacks us → AllByRecursion Reads (messages_in us) → AreGood us
good-units [] h k = tt
good-units (u ∷ us) h k =
    let e : unit_seen u ≡ Ok h.0.0 = h.0.1 in
    let parts = all-parts Reads h.0.0 (messages_in us)
    (subst (λ r. AllByRecursion Reads (found_messages r ++ messages_in us)) e k) in
    ((h.0.0, e, parts.0), good-units us h.1 parts.1)

pub good-sent : (side : Side) (x : EndState) → Spoken side x → AreGood (units x.machine.made)
good-sent side x sp =
    good-units (units x.machine.made) sp.unpack
    (all-parts Reads (messages_in (units x.machine.made)) x.session.waiting
    (subst (AllByRecursion Reads) sp.talk.queue (reads-texts x.session.history.queue sp.talk.messages))).0

-- x's units that are confirmed were taken by y
was-taken : Laws → (a b : Side) (x y : EndState) → Spoken a x → Heeds y → ReachedState x.machine
    → IsBeginning y.machine.taken (units x.machine.made)
    → length (units x.machine.made) ≤ length y.machine.taken + length (unconfirmed x.machine)
    → ((phase : Phase) → y.session.history.ended_in ≡ Some phase → put_at x ≡ []) → (o : Option Phase)
    → y.session.history.ended_in ≡ o
    → WasTaken x (taken_at y)
was-taken laws a b x y sp he r begins count early None ended =
    let cb = r.confirmed_before in
    let good : AreGood y.machine.taken = (all-parts IsGood y.machine.taken begins.0
    (subst AreGood (sym begins.1) (good-sent a x sp))).0 in
    let all : taken_at y ≡ items_of (came y.machine) = he.taken ended good ∙ ap items_of (he.judged ended good) in
    let le : length cb ≤ length y.machine.taken =
    let e = length-append cb (unconfirmed x.machine) in let f = ap length r.ends in omega (arith, e, f, count)
    in
    let front : IsBeginning cb y.machine.taken = shorter cb (unconfirmed x.machine) y.machine.taken begins.0 (r.ends
    ∙ sym begins.1) le in (
      items_of (telegrams_in (messages_in cb)),
      subst (IsBeginning (items_of (telegrams_in (messages_in cb)))) (sym all) (begin-items cb y.machine.taken front),
      put-parts laws a x cb sp r.ends,
    )
was-taken laws a b x y sp he r begins count early (Some phase) ended =
    let cb = r.confirmed_before in
    let put = put-parts laws a x cb sp r.ends in
    let none : items_of (telegrams_in (messages_in cb))
    ≡ [] = nil-front _ (items_unconfirmed x) (nil-front _ (items_waiting x) (sym put ∙ early phase ended))
    in
    (items_of (telegrams_in (messages_in cb)), (taken_at y, ap (λ is. is ++ taken_at y) none), put)

-- if no end is joined, nothing is confirmed
none-taken : Laws → (a : Side) (x : EndState) → Spoken a x → ReachedState x.machine
    → length (units x.machine.made) ≤ length (unconfirmed x.machine)
    → WasTaken x []
none-taken laws a x sp r count =
    let cb = r.confirmed_before in
    let nothing : cb ≡ [] = length-none cb (let e = length-append cb (unconfirmed x.machine) in
    let f = ap length r.ends in omega (arith, e, f, count)) in (
      items_of (telegrams_in (messages_in cb)),
      ([], append-nil _ ∙ ap (λ us. items_of (telegrams_in (messages_in us))) nothing),
      put-parts laws a x cb sp r.ends,
    )
  where
    length-none : (us : List (List ℕ)) → length us ≤ 0 → us ≡ []
    length-none [] h = refl
    length-none (u ∷ us) h = absurd (omega (arith, h))

reached-state : ReachedLaw → (side : Side) (x : EndState) → Machined side x → ReachedState x.machine
reached-state law side x h =
    subst ReachedState (sym h.machine) (law (connection_of side x.settings) h.first h.began h.moves)

-- the sessions of a pair
pub checksum-short : (side : Side) (s : EndSettings) → are_fit side s ≡ true → length s.checksum ≤ CHECKSUM_MAX
checksum-short side s h = grind (arith, nat_tests, and-parts)

pub early-by : PhaseLaw → (g f : EndState) → length f.settings.checksum ≤ CHECKSUM_MAX → JointEnds f.settings g f
    → EndsEarly g.session.history f.session.history × EndsEarly f.session.history g.session.history
early-by law g f short j =
    subst (λ (h : SessionPair). EndsEarly h.il h.fe × EndsEarly h.fe h.il) j.leads
    (law g.settings.addressing f.settings.addressing (first_version g.settings.versions) f.settings.versions
    f.settings.checksum short j.events j.in_turn)

pub not-closed : (c : ConnectionState) → is_closed c ≡ false → c ≢ Closed
not-closed c h e = let no : true ≡ false = ap is_closed (sym e) ∙ h in cc

-- the interlocking
number-is : (number : ℕ) (o : Option ℕ) → is_number number o ≡ true → o ≡ Some number
number-is number o h = grind (arith, nat_tests, eqb-true)

number-same : (number : ℕ) (o : Option ℕ) → L.is_number number o ≡ is_number number o
number-same number o = grind (arith, nat_tests)

-- a joined pair: each took a prefix of what the other sent, and what follows if one of them was ended early
pair-of : (p : Laws) (ils : List EndState) (f : JoinedEnd) (number : ℕ) (g : EndState) → Whole Fe f.end
    → L.TakesBeginnings (states ils) f.end.machine f.joined → PairAt ils f → f.joined ≡ Some number
    → incarnation ils number ≡ Some g
    → (IsBeginning f.end.machine.taken (units g.machine.made) × IsBeginning g.machine.taken (units f.end.machine.made))
    × (EndsEarly g.session.history f.end.session.history × EndsEarly f.end.session.history g.session.history)
pair-of p ils f number g wf law pair is inc = (
  subst (λ o. MatchOption o ⊥ (λ il. IsBeginning f.end.machine.taken (units il.made)
      × IsBeginning il.taken (units f.end.machine.made)))
      (inc-some ils number g inc) (subst (λ o. L.TakesBeginnings (states ils) f.end.machine o) is law),
  early-by p.phases g f.end (checksum-short Fe f.end.settings wf.spoken.fit)
      (subst (λ o. MatchOption o ⊥ (λ y. JointEnds f.end.settings y f.end)) inc (pair number is)),
)

il-with : (p : Laws) (g : EndState) (before : List EndState) (number : ℕ) (f : JoinedEnd) → number ≡ length before + 1
    → Whole Il g → Whole Fe f.end
    → L.TakesBeginnings (states (g ∷ before)) f.end.machine f.joined → PairAt (g ∷ before) f → f.joined ≡ Some number
    → length (units g.machine.made) ≤ length f.end.machine.taken + length (unconfirmed g.machine)
    → WasTaken g (taken_at f.end)
il-with p g before number f at wg wf law pair is count =
    let inc : incarnation (g ∷ before) number ≡ Some g = ap (λ b. cond b (Some g) (incarnation before number))
    (ap (λ n. n == length before + 1) at ∙ eqb-same (length before + 1)) in
    let both = pair-of p (g ∷ before) f number g wf law pair is inc in
    was-taken p Il Fe g f.end wg.spoken wf.heeds (reached-state p.reached Il g wg.machined) both.0.0 count
    (λ phase e. (both.1.1 phase e).1)
    f.end.session.history.ended_in refl

-- the interlocking
il-from : (p : Laws) (g : EndState) (before : List EndState) (number : ℕ) → number ≡ length before + 1 → Whole Il g
    → (fes : List JoinedEnd)
    → AllWhole Fe (ends_of fes)
    → L.AllTakeBeginnings (states (g ∷ before)) (served fes) → AllByRecursion (PairAt (g ∷ before)) fes
    → length (units g.machine.made) ≤ L.taken_from_il number (served fes) + length (unconfirmed g.machine)
    → WasTaken g (taken_from_il number fes)
il-from p g before number at whole [] ws law ps count =
    none-taken p Il g whole.spoken (reached-state p.reached Il g whole.machined)
    (omega (arith, count))
il-from p g before number at whole (f ∷ fs) ws law ps count =
    by_test (λ b. is_number number f.joined ≡ b
    → length (units g.machine.made) ≤ cond b (length f.end.machine.taken) (L.taken_from_il number (served fs))
    + length (unconfirmed g.machine) → WasTaken g (cond b (taken_at f.end) (taken_from_il number fs)))
    (is_number number f.joined)
    (λ is _ few. il-with p g before number f at whole ws.0 law.0 ps.0 (number-is number f.joined is) few)
    (λ _ _ few. il-from p g before number at whole fs ws.1 law.1 ps.1 few)
    refl
    (subst (λ b. length (units g.machine.made) ≤ cond b (length f.end.machine.taken)
    (L.taken_from_il number (served fs)) + length (unconfirmed g.machine))
    (number-same number f.joined) count)

-- the field element
fe-from : (p : Laws) (ils : List EndState) (f : JoinedEnd) (number : ℕ) → Whole Fe f.end → AllWhole Il ils
    → L.TakesBeginnings (states ils) f.end.machine f.joined → PairAt ils f → f.joined ≡ Some number
    → (o : Option EndState) → incarnation ils number ≡ o
    → length (units f.end.machine.made) ≤ L.taken_count (L.incarnation (states ils) number)
    + length (unconfirmed f.end.machine) → WasTaken f.end (taken_by o)
fe-from p ils f number wf ws law pair is None inc count =
    grind (arith, nat_tests, inc-none, none-taken, reached-state, wf.machined, wf.spoken)
fe-from p ils f number wf ws law pair is (Some g) inc count =
    let both = pair-of p ils f number g wf law pair is inc in
    let few = subst (λ o. length (units f.end.machine.made) ≤ L.taken_count o + length (unconfirmed f.end.machine))
    (inc-some ils number g inc) count in
    was-taken p Fe Il f.end g wf.spoken (inc-whole ils number g ws inc).heeds
    (reached-state p.reached Fe f.end wf.machined) both.0.1 few
    (λ phase e. (both.1.0 phase e).1) g.session.history.ended_in refl

fe-joined : (p : Laws) (ils : List EndState) (f : JoinedEnd) → Whole Fe f.end → AllWhole Il ils
    → L.TakesBeginnings (states ils) f.end.machine f.joined → PairAt ils f
    → (o : Option ℕ) → f.joined ≡ o → length (units f.end.machine.made) ≤ L.taken_from_fe (states ils) o
    + length (unconfirmed f.end.machine)
    → WasTaken f.end (taken_from_fe ils o)
fe-joined p ils f wf ws law pair None is count =
    none-taken p Fe f.end wf.spoken (reached-state p.reached Fe f.end wf.machined) (omega (arith, count))
fe-joined p ils f wf ws law pair (Some number) is count =
    fe-from p ils f number wf ws law pair is (incarnation ils number) refl count

-- both
confirmed-il : (p : Laws) (ils : List EndState) (fes : List JoinedEnd) (di df : ℕ) → Paired ils fes di df
    → AtOpened (λ g. WasTaken g (taken_from_il (length ils) fes)) (latest ils)
confirmed-il p [] fes di df w = tt
confirmed-il p (g ∷ before) fes di df w =
    let h = w.mapped in
    let m = machines (g ∷ before) fes di df h.clock_il h.clock_fe in
    let lost = subst L.LosesNothing h.reached.leads (p.lost h.reached.events h.reached.genuine) in
    let count = lost.from_il in
    let law = law-now p (g ∷ before) fes di df h in
    let number : length (g ∷ before) ≡ length before + 1 = omega arith in
    il-from p g before (length (g ∷ before)) number h.il_whole.0 fes h.fe_whole law.beginnings w.pairs
    (subst (λ n. length (units g.machine.made) ≤ L.taken_from_il n (served fes) + length (unconfirmed g.machine))
    (states-length (g ∷ before))
    (subst (λ fs. length (units g.machine.made) ≤ L.taken_from_il (length (states (g ∷ before))) fs
    + length (unconfirmed g.machine))
    (fe-incarnations (served fes))
    (subst (λ ss. length (units g.machine.made) ≤ L.taken_from_il (length ss) (L.fe_incarnations m)
    + length (unconfirmed g.machine))
    (il-incarnations (states (g ∷ before))) count)))

confirmed-fe : (p : Laws) (ils : List EndState) (fes : List JoinedEnd) (di df : ℕ) → Paired ils fes di df
    → FeTaken ils fes
confirmed-fe p ils [] di df w = tt
confirmed-fe p ils (f ∷ fs) di df w =
    let h = w.mapped in
    let lost = subst L.LosesNothing h.reached.leads (p.lost h.reached.events h.reached.genuine) in
    let count = lost.from_fe in
    let law = law-now p ils (f ∷ fs) di df h in
    fe-joined p ils f h.fe_whole.0 h.il_whole law.beginnings.0 w.pairs.0 f.joined refl
    (subst (λ ss. length (units f.end.machine.made) ≤ L.taken_from_fe ss f.joined + length (unconfirmed f.end.machine))
    (il-incarnations (states ils)) count)

pub confirmed-taken : Laws → ConfirmedTakenLaw
confirmed-taken p es typed genuine =
    let w = run es start in
    let q = paired-run p es start typed genuine paired-start in
    (confirmed-il p w.ils w.fes w.dead_il w.dead_fe q, confirmed-fe p w.ils w.fes w.dead_il w.dead_fe q)

-- a settled end has all taken
pub nil-is : {X : Type 0} (xs : List X) → is_nil xs ≡ true → xs ≡ []
nil-is xs h = grind (arith, nat_tests)

pub not-true : (b : Bool) → not b ≡ true → b ≡ false
not-true b h = grind (arith, nat_tests)

settled-at : (x : EndState) (taken : List Item) → WasTaken x taken → SettledAt x taken
settled-at x taken h = grind (arith, nat_tests, and-parts, append-nil, nil-is, not-true)

settled-il : (ils : List EndState) (fes : List JoinedEnd) (number : ℕ)
    → AtOpened (λ g. WasTaken g (taken_from_il number fes)) (latest ils)
    → AtOpened (λ g. SettledAt g (taken_from_il number fes)) (latest ils)
settled-il [] fes number h = tt
settled-il (g ∷ before) fes number h = settled-at g (taken_from_il number fes) h

settled-fe : (ils : List EndState) (fes : List JoinedEnd) → FeTaken ils fes → SettledFe ils fes
settled-fe ils [] h = tt
settled-fe ils (f ∷ fs) h = settled-at f.end (taken_from_fe ils f.joined) h

pub settled : ConfirmedTakenLaw → SettledLaw
settled law es typed genuine =
    let w = run es start in
    let h = law es typed genuine in
    (settled-il w.ils w.fes (length w.ils) h.0, settled-fe w.ils w.fes h.1)

-- of the telegrams put the first are certain
take-front : {X : Type 0} (n : ℕ) (a b : List X) → n ≤ length a → IsBeginning (take n (a ++ b)) a
take-front zero a b h = (a, refl)
take-front (suc n) [] b h = absurd (omega (arith, h))
take-front (suc n) (x ∷ a) b h = let k = take-front n a b (omega (arith, h)) in (k.0, ap (λ xs. x ∷ xs) k.1)

certain-at : (x : EndState) (taken : List Item) → WasTaken x taken → CertainAt x taken
certain-at x taken h =
    let confirmed = h.0 in
    let rest = items_unconfirmed x ++ items_waiting x in
    let put : put_at x ≡ confirmed ++ rest = h.2 ∙ append_assoc confirmed (items_unconfirmed x) (items_waiting x) in
    let long : length (put_at x) ≡ length confirmed + (length (items_unconfirmed x) + length (items_waiting x)) =
    ap length put ∙ length-append confirmed rest
    ∙ ap (λ n. length confirmed + n) (length-append (items_unconfirmed x) (items_waiting x)) in
    let few : confirmed_of x ≤ length confirmed = omega (arith, long) in
    let front : IsBeginning (take (confirmed_of x) (put_at x)) confirmed =
    subst (λ put. IsBeginning (take (confirmed_of x) put) confirmed) (sym put)
    (take-front (confirmed_of x) confirmed rest few) in
    (front.0 ++ h.1.0, sym (append_assoc _ front.0 h.1.0) ∙ ap (λ xs. xs ++ h.1.0) front.1 ∙ h.1.1)

certain-il : (ils : List EndState) (fes : List JoinedEnd) (number : ℕ)
    → AtOpened (λ g. WasTaken g (taken_from_il number fes)) (latest ils)
    → AtOpened (λ g. CertainAt g (taken_from_il number fes)) (latest ils)
certain-il [] fes number h = tt
certain-il (g ∷ before) fes number h = certain-at g (taken_from_il number fes) h

certain-fe : (ils : List EndState) (fes : List JoinedEnd) → FeTaken ils fes → CertainFe ils fes
certain-fe ils [] h = tt
certain-fe ils (f ∷ fs) h = certain-at f.end (taken_from_fe ils f.joined) h

pub certain : ConfirmedTakenLaw → CertainLaw
certain law es typed genuine =
    let w = run es start in
    let h = law es typed genuine in
    (certain-il w.ils w.fes (length w.ils) h.0, certain-fe w.ils w.fes h.1)

-- the headline
pub headline : Laws → HeadlineLaw
headline laws es typed genuine =
    grind (arith, nat_tests, all-take, joins-fall, law-now, only-joined, paired-run, paired-start, states-length)

-- what an end takes is fresh
fresh-il : (laws : Laws) (c : Call) (ils : List EndState) (fes : List JoinedEnd) (di df : ℕ) → IsTypedCall c
    → call_refusal c (latest ils) ≡ None
    → AtOpened (GenuineCall (latest (ends_of fes)) df c) (latest ils) → Mapped ils fes di df
    → AtOpened (FreshCall (made_of (latest (ends_of fes))) c) (latest ils)
fresh-il laws c [] fes di df typed ok g h = tt
fresh-il laws c (x ∷ before) fes di df typed ok g h =
    let now = time_of c in
    let m = machines (x ∷ before) fes di df h.clock_il h.clock_fe in
    let peer = latest (ends_of fes) in
    let is = peer-fe laws.texts (x ∷ before) fes di df h in
    call-at c (Comes peer df) (TakesFresh now (made_of peer)) (IlAt m now) x (il-keeps laws m peer df now is)
    (il-fresh laws m peer df now is) typed
    (at-call laws df peer Il c x typed h.il_whole.0 g.1) (found-il x before fes di df now h (call-timely c x ok))

fresh-fe : (laws : Laws) (c : Call) (ils : List EndState) (fes : List JoinedEnd) (di df : ℕ) → IsTypedCall c
    → call_refusal c (latest (ends_of fes)) ≡ None
    → AtOpened (GenuineCall (latest ils) di c) (latest (ends_of fes)) → Mapped ils fes di df
    → AtOpened (FreshCall (made_of (latest ils)) c) (latest (ends_of fes))
fresh-fe laws c ils [] di df typed ok g h = tt
fresh-fe laws c ils (f ∷ before) di df typed ok g h =
    let now = time_of c in
    let m = machines ils (f ∷ before) di df h.clock_il h.clock_fe in
    let is = peer-il laws.texts ils (f ∷ before) di df h in
    call-at c (Comes (latest ils) di) (TakesFresh now (made_of (latest ils))) (FeAt ils f m now) f.end
    (fe-keeps laws ils f m di now (before-length ils) is)
    (fe-fresh laws ils f m di now is) typed
    (at-call laws di (latest ils) Fe c f.end typed h.fe_whole.0 g.1)
    (found-fe ils f before di df now h (call-timely c f.end ok))

fresh-event : (laws : Laws) (e : Event) (w : World) → IsTyped e → refusal e w ≡ None → GenuineEvent e w → MappedWorld w
    → FreshEvent e w
fresh-event laws (Open side s first now) w t ok g h = tt
fresh-event laws (Calls Il c) w t ok g h = fresh-il laws c w.ils w.fes w.dead_il w.dead_fe (typed-call Il c t) ok g h
fresh-event laws (Calls Fe c) w t ok g h = fresh-fe laws c w.ils w.fes w.dead_il w.dead_fe (typed-call Fe c t) ok g h

all-fresh : (laws : Laws) (es : List Event) (w : World) → AreTyped es → Genuine es w → PairedWorld w → AllFresh es w
all-fresh laws [] w t g k = tt
all-fresh laws (e ∷ es) w t g k = (
  λ ok. fresh-event laws e w t.0 ok (g.0 ok) k.mapped,
  all-fresh laws es (apply_event w e) t.1 g.1
      (paired-event laws e w t.0 g.0 k),
)

pub freshness : Laws → Freshness
freshness laws es typed genuine = all-fresh laws es start typed genuine paired-start
