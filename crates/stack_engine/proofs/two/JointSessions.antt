-- The sessions of each joined pair are joint, for any calls.
use Rattle.stack_engine.proofs.Words.{[], AllByRecursion, answered, ap, append-nil, append_assoc, AreTyped, arith, arrive_octets, Arrives, AtFe, AtIl, AtOpened}
use Rattle.stack_engine.proofs.Words.{Bool, by_test, Call, call, call_fe, call_il, call_refusal, Calls, change_world, Closes, comes_up, Completes, cond, Dialogue}
use Rattle.stack_engine.proofs.Words.{ends_of, EndSettings, EndState, eqb-true, Err, Event, false, Fe, first_version, found_messages, found_telegram, Genuine}
use Rattle.stack_engine.proofs.Words.{GenuineCall, GenuineEvent, GoesUp, add_event, add_events, handed_by, handed_up, apply_events, apply_event, heard, History, Il}
use Rattle.stack_engine.proofs.Words.{incarnation, inl, inr, InTurn, is_ended, is_shut, IsBeginning, IsNext, IsTyped, SessionPair, new_sessions, joined_by, JoinedEnd}
use Rattle.stack_engine.proofs.Words.{PairEvent, is_joining, judge_messages, judge_read, judge_units, judge_unpacked, Judgement, latest, leaves, Leaving, length}
use Rattle.stack_engine.proofs.Words.{List, MatchOption, messages_in, nat_tests, new_end, None, request_after, Ok, Open, Option, OverLaw, PackFault, phase_in, Puts}
use Rattle.stack_engine.proofs.Words.{refl, refusal, Result, bring_up, run, SessionEvent, Side, Some, start, State, subst, sym, Tele, tele_seen, TeleFault}
use Rattle.stack_engine.proofs.Words.{telegrams_in, time_of, true, unit_seen, units, unless_leaving, World, ℕ, ◌++◌, ◌+◌, ◌<◌, ◌==◌, ◌∙◌, ◌∷◌, ◌≡◌, ◌≤◌, ◌⊎◌}
use Rattle.pdi_session.specs.JoinedSessions.{apply_event as happens-joined, OneMoreLaw}
use Rattle.stack_engine.proofs.one.Received.{Heeding, heeding-read, heeding-unpacked, IsGood, Reads, Whole}
use Rattle.stack_engine.proofs.one.Sent.{all-map, call-keeps, came, hands-up, Hearing, hearing-read, hearing-unpacked, IsTypedCall, Keeps, Laws}
use Rattle.stack_engine.proofs.one.Sent.{leaves-same, nil-behind, nil-front, Spoken, telegrams-append}
use Rattle.stack_engine.proofs.two.Machines.{Comes, fe-heard, fe-keeps, fe_at, FeAt, FeHeard, il-heard, il-keeps, il_at, IlAt, joins-both, noted-first, PeerIs}
use Rattle.stack_engine.proofs.two.Machines.{Reached}
use Rattle.stack_engine.proofs.two.Worlds.{after-fe, after-il, AllWhole, at-call, before-length, begin-came, begin-then, call-timely, fe-incarnations, found-fe}
use Rattle.stack_engine.proofs.two.Worlds.{found-il, il-incarnations, joined-same, law-of, machines, Mapped, mapped-open-fe, mapped-open-il, mapped-start}
use Rattle.stack_engine.proofs.two.Worlds.{opens, peer-fe, peer-il, queue-is, served, states, states-length, taken-before, typed-call, unless}
use Rattle.safe_machine.specs.Law as L
use Rattle.safe_machine.specs.World as M

-- two new sessions with the settings of two ends
abbrev pub new_pair : EndSettings → EndSettings → SessionPair
new_pair g f = new_sessions g.addressing (first_version g.versions) f.addressing f.versions f.checksum

-- events in turn lead to these histories
pub record Joint (b : SessionPair) (x y : History) : Type 0 where
  pub events : List PairEvent
  pub in_turn : InTurn events b
  pub leads : apply_events events b ≡ record { il = x; fe = y }

pub joint-il : OneMoreLaw → (b : SessionPair) (x y : History) (e : SessionEvent) → IsNext e x y → Joint b x y
    → Joint b (add_event e x) y
joint-il law b x y e next h =
    record {
      events = h.events ++ AtIl e ∷ [];
      in_turn =
          law.2 h.events (AtIl e) b h.in_turn (subst (λ (j : SessionPair). IsNext e j.il j.fe) (sym h.leads) next);
      leads = law.1 h.events (AtIl e) b ∙ ap (happens-joined (AtIl e)) h.leads;
    }

pub joint-fe : OneMoreLaw → (b : SessionPair) (x y : History) (e : SessionEvent) → IsNext e y x → Joint b x y
    → Joint b x (add_event e y)
joint-fe law b x y e next h =
    record {
      events = h.events ++ AtFe e ∷ [];
      in_turn =
          law.2 h.events (AtFe e) b h.in_turn (subst (λ (j : SessionPair). IsNext e j.fe j.il) (sym h.leads) next);
      leads = law.1 h.events (AtFe e) b ∙ ap (happens-joined (AtFe e)) h.leads;
    }

-- an event that brings nothing is always in turn
pub next-quiet : (e : SessionEvent) (x y : History) → handed_by e ≡ [] → IsNext e x y
next-quiet (Arrives t) x y h = cc
next-quiet _ x y h = tt

-- Of one of two sessions: J holds of its history, and stays if what happens is in turn.
module _ (y : History) (J : History → Type 0) (more : (e : SessionEvent) (x : History) → IsNext e x y → J x
    → J (add_event e x)) where
  begin-front : (a b : List Tele) → IsBeginning (a ++ b) y.queue → IsBeginning a y.queue
  begin-front a b h = (b ++ h.0, sym (append_assoc a b h.0) ∙ h.1)

  by-leaving : (o : Option Leaving) (first rest : Judgement) → J first.left.history
      → (first.leaving ≡ None → J rest.left.history) → first.leaving ≡ o
      → J (unless_leaving o first rest).left.history
  by-leaving None first rest one other e = other e
  by-leaving (Some why) first rest one other e = one

  joint-read : (seen : Result Tele TeleFault) (d : Dialogue) → is_ended (phase_in d) ≡ false
      → IsBeginning (d.history.judged ++ found_telegram seen) y.queue
      → J d.history → J (judge_read seen d).left.history
  joint-read (Ok t) d on begins h = more (Arrives t) d.history (on, begins) h
  joint-read (Err fault) d on begins h = h

  -- judging one piece after another
  joint-then : (a b : List Tele) (d : Dialogue) (first rest : Judgement) (A : Type 0) → Hearing d a first
      → Heeding A d first → is_ended (phase_in d) ≡ false
      → IsBeginning (d.history.judged ++ (a ++ b)) y.queue
      → (IsBeginning (d.history.judged ++ a) y.queue → J first.left.history)
      → (is_ended (phase_in first.left) ≡ false → IsBeginning (first.left.history.judged ++ b) y.queue
      → J first.left.history → J rest.left.history)
      → J (unless_leaving first.leaving first rest).left.history
  joint-then a b d first rest A hear heed on begins one other =
      let line : IsBeginning ((d.history.judged ++ a) ++ b) y.queue = subst (λ ts. IsBeginning ts y.queue)
      (sym (append_assoc d.history.judged a b)) begins in
      let there : J first.left.history = one (begin-front (d.history.judged ++ a) b line) in
      by-leaving first.leaving first rest there
      (λ none. other (heed.on none on)
      (subst (λ ts. IsBeginning (ts ++ b) y.queue)
      (sym (hear.judged ∙ ap (λ ts. d.history.judged ++ ts) (hear.whole none))) line) there) refl

  joint-messages : OverLaw → (ms : List (List ℕ)) (d : Dialogue) → is_ended (phase_in d) ≡ false
      → IsBeginning (d.history.judged ++ telegrams_in ms) y.queue
      → J d.history
      → J (judge_messages ms d).left.history
  joint-messages law [] d on begins h = h
  joint-messages law (m ∷ ms) d on begins h =
      let seen = tele_seen m in
      let first = judge_read seen d in
      joint-then (found_telegram seen) (telegrams_in ms) d first (judge_messages ms first.left) (Reads m)
      (hearing-read seen d) (heeding-read law m seen d refl)
      on begins
      (λ front. joint-read seen d on front h)
      (λ on-then rest there. joint-messages law ms first.left on-then rest there)

  joint-unpacked : OverLaw → (seen : Result (List (List ℕ)) PackFault) (d : Dialogue) → is_ended (phase_in d) ≡ false
      → IsBeginning (d.history.judged ++ telegrams_in (found_messages seen)) y.queue → J d.history
      → J (judge_unpacked seen d).left.history
  joint-unpacked law (Ok ms) d on begins h = joint-messages law ms d on begins h
  joint-unpacked law (Err fault) d on begins h = h

  joint-units : OverLaw → (us : List (List ℕ)) (d : Dialogue) → is_ended (phase_in d) ≡ false
      → IsBeginning (d.history.judged ++ telegrams_in (messages_in us))
      y.queue → J d.history
      → J (judge_units us d).left.history
  joint-units law [] d on begins h = h
  joint-units law (u ∷ us) d on begins h =
      let seen = unit_seen u in
      let first = judge_unpacked seen d in
      joint-then (telegrams_in (found_messages seen)) (telegrams_in (messages_in us)) d first
      (judge_units us first.left) (IsGood u) (hearing-unpacked seen d)
      (heeding-unpacked law u seen d refl) on
      (subst (λ ts. IsBeginning (d.history.judged ++ ts) y.queue)
      (telegrams-append (found_messages seen) (messages_in us)) begins)
      (λ front. joint-unpacked law seen d on front h)
      (λ on-then rest there. joint-units law us first.left on-then rest there)

  joint-rises : (b : Bool) (d : Dialogue) → J d.history → J (bring_up b d).history
  joint-rises true d h = more GoesUp d.history tt h
  joint-rises false d h = h

  joint-leaves : (now : ℕ) (why : Option Leaving) (x : EndState) → J x.session.history
      → J (leaves now why x).session.history
  joint-leaves now None x h = h
  joint-leaves now (Some why) x h = h

  -- bytes come to an end whose units are a prefix of what its peer sent
  pub joint-hears : Laws → (side : Side) (now : ℕ) (octets : List ℕ) (x : EndState) → Whole side x
      → IsBeginning (came (arrive_octets octets now x.machine)) y.queue → J x.session.history
      → J (heard now octets x).session.history
  joint-hears laws side now octets x whole begins h =
      let s = arrive_octets octets now x.machine in
      let step = hands-up laws.moves now octets x in
      let us = handed_up x s in
      let d = x.session in
      let j = judge_units us d in
      let left : J j.left.history =
      by_test (λ b. is_shut x ≡ b → J j.left.history) (is_shut x)
      (λ shut _. subst (λ vs. J (judge_units vs d).left.history) (sym (step.nothing shut)) h)
      (λ open-still _.
      joint-units laws.over us d (whole.heeds.on open-still)
      (subst (λ ts. IsBeginning ts y.queue) (step.all
      ∙ ap (λ ts. ts ++ telegrams_in (messages_in us)) (sym (whole.spoken.whole open-still))) begins) h)
      refl
      in
      joint-leaves now j.leaving (answered octets x s)
      (joint-rises (comes_up x.machine.connection s.connection) j.left left)

-- what came to an end that took a prefix of what its peer sent
pub begins-queue : (side : Side) (us : List (List ℕ)) (y : EndState) → Spoken side y
    → IsBeginning us (units y.machine.made)
    → IsBeginning (telegrams_in (messages_in us)) y.session.history.queue
begins-queue side us y sp begins =
    begin-then (telegrams_in (messages_in us)) (telegrams_in (messages_in (units y.machine.made)))
    y.session.history.queue
    (begin-came us (units y.machine.made) begins)
    (telegrams_in y.session.waiting, sym (queue-is side y sp))

-- two ends that have judged nothing are joint
abbrev all_handed : List SessionEvent → List Tele
all_handed [] = []
all_handed (e ∷ es) = handed_by e ++ all_handed es

judged-along : (es : List SessionEvent) (h : History) → (add_events es h).judged ≡ h.judged ++ all_handed es
judged-along [] h = sym (append-nil h.judged)
judged-along (e ∷ es) h = judged-along es (add_event e h) ∙ append_assoc h.judged (handed_by e) (all_handed es)

abbrev IsQuiet : SessionEvent → Type 0
IsQuiet e = handed_by e ≡ []

quiet-all : (es : List SessionEvent) → all_handed es ≡ [] → AllByRecursion IsQuiet es
quiet-all [] h = tt
quiet-all (e ∷ es) h =
    (nil-front (handed_by e) (all_handed es) h, quiet-all es (nil-behind (handed_by e) (all_handed es) h))

along-il : OneMoreLaw → (b : SessionPair) (es : List SessionEvent) (x y : History) → AllByRecursion IsQuiet es
    → Joint b x y → Joint b (add_events es x) y
along-il law b [] x y q h = h
along-il law b (e ∷ es) x y q h =
    along-il law b es (add_event e x) y q.1 (joint-il law b x y e (next-quiet e x y q.0) h)

along-fe : OneMoreLaw → (b : SessionPair) (es : List SessionEvent) (x y : History) → AllByRecursion IsQuiet es
    → Joint b x y → Joint b x (add_events es y)
along-fe law b [] x y q h = h
along-fe law b (e ∷ es) x y q h =
    along-fe law b es x (add_event e y) q.1 (joint-fe law b x y e (next-quiet e y x q.0) h)

quiet-events : (side : Side) (x : EndState) (sp : Spoken side x) → x.machine.taken ≡ []
    → AllByRecursion IsQuiet sp.talk.events
quiet-events side x sp none = grind (arith, nat_tests, judged-along, nil-front, quiet-all)

pub joint-new : OneMoreLaw → (g f : EndState) → Spoken Il g → Spoken Fe f → g.machine.taken ≡ [] → f.machine.taken ≡ []
    → Joint (new_pair g.settings f.settings) g.session.history f.session.history
joint-new law g f sg sf ng nf =
    let b = new_pair g.settings f.settings in
    let start-at : Joint b b.il b.fe = record { events = []; in_turn = tt; leads = refl } in
    subst (λ (h : History). Joint b h f.session.history) (sym sg.talk.history)
    (subst (λ (h : History). Joint b (add_events sg.talk.events b.il) h) (sym sf.talk.history)
    (along-fe law b sf.talk.events (add_events sg.talk.events b.il) b.fe (quiet-events Fe f sf nf)
    (along-il law b sg.talk.events b.il b.fe (quiet-events Il g sg ng) start-at)))

-- two ends
abbrev pub JointEnds : EndSettings → EndState → EndState → Type 0
JointEnds s g f = Joint (new_pair g.settings s) g.session.history f.session.history

abbrev pub PairAt : List EndState → JoinedEnd → Type 0
PairAt ils f = (number : ℕ) → f.joined ≡ Some number
    → MatchOption (incarnation ils number) ⊥ (λ g. JointEnds f.end.settings g f.end)

abbrev pub Unjoined : List JoinedEnd → Type 0
Unjoined [] = Unit {0}
Unjoined (f ∷ fs) = f.end.request ≡ None → f.joined ≡ None

pub record Paired (ils : List EndState) (fes : List JoinedEnd) (di df : ℕ) : Type 0 where
  pub mapped : Mapped ils fes di df
  pub unjoined : Unjoined fes
  pub pairs : AllByRecursion (PairAt ils) fes

abbrev pub PairedWorld : World → Type 0
PairedWorld w = Paired w.ils w.fes w.dead_il w.dead_fe

match-map : {X : Type 0} (P Q : X → Type 0) → ((x : X) → P x → Q x) → (o : Option X) → MatchOption o ⊥ P
    → MatchOption o ⊥ Q
match-map P Q h o k = grind (arith, nat_tests)

pub eqb-same : (n : ℕ) → (n == n) ≡ true
eqb-same n = grind (arith, nat_tests)

-- incarnations of ends and of their machines
pub inc-some : (ils : List EndState) (number : ℕ) (g : EndState) → incarnation ils number ≡ Some g
    → L.incarnation (states ils) number ≡ Some g.machine
inc-some [] number g e = cc
inc-some (x ∷ before) number g e = grind (arith, states-length before, inc-some before number g)

pub inc-none : (ils : List EndState) (number : ℕ) → incarnation ils number ≡ None
    → L.incarnation (states ils) number ≡ None
inc-none [] number e = refl
inc-none (x ∷ before) number e = grind (arith, states-length before, inc-none before number)

pub inc-whole : (ils : List EndState) (number : ℕ) (g : EndState) → AllWhole Il ils → incarnation ils number ≡ Some g
    → Whole Il g
inc-whole [] number g h e = cc
inc-whole (x ∷ before) number g h e = grind (arith, h.0, inc-whole before number g h.1)

inc-takes : (fs : List M.Served) (ils : List EndState) (number : ℕ) (g : EndState) → L.OnlyJoinedTake fs (states ils)
    → incarnation ils number ≡ Some g
    → (g.machine.taken ≡ []) ⊎ L.IsJoined number fs
inc-takes fs [] number g h e = cc
inc-takes fs (x ∷ before) number g h e =
    grind (arith, nat_tests, states-length before, h.0, inc-takes fs before number g h.1)

below-step : (bound number : ℕ) (o : Option ℕ) → L.JoinedBelow bound o
    → (o ≡ Some number) ⊎ (number < L.next_bound bound o) → number < bound
below-step bound number o h k = grind (arith, nat_tests)

joined-below : (bound number : ℕ) (fs : List M.Served) → L.JoinsFall bound fs → L.IsJoined number fs → number < bound
joined-below bound number [] h k = absurd k
joined-below bound number (f ∷ fs) h (inl e) = below-step bound number f.joined h.0 (inl e)
joined-below bound number (f ∷ fs) h (inr k) =
    below-step bound number f.joined h.0 (inr (joined-below (L.next_bound bound f.joined) number fs h.1 k))

-- The law in the middle of a call.
law-il : (s : State) (x : EndState) (before : List EndState) (fes : List JoinedEnd) (di df ci cf now : ℕ)
    → L.Law (il_at s now (machines (x ∷ before) fes di df ci cf)) → L.LawOf (s ∷ states before) (served fes)
law-il s x before fes di df ci cf now h =
    subst (λ fs. L.LawOf (s ∷ states before) fs) (fe-incarnations (served fes))
    (subst (λ ss. L.LawOf ss (L.fe_incarnations (il_at s now (machines (x ∷ before) fes di df ci cf))))
    (taken-before M.unopened_state s (states before)) h)

law-fe : (s : State) (q : Option ℕ) (ils : List EndState) (f : JoinedEnd) (fs : List JoinedEnd) (di df ci cf now : ℕ)
    → L.Law (fe_at s q now (machines ils (f ∷ fs) di df ci cf))
    → L.LawOf (states ils) (record { machine = s; joined = q } ∷ served fs)
law-fe s q ils f fs di df ci cf now h = grind (arith, nat_tests, il-incarnations, taken-before)

pub law-at : L.UnitLaw → (m : M.World) → Reached m → L.Law m
law-at law m r = subst L.Law r.leads (law r.events r.genuine)

-- An end during a call: A of it, that it is whole, and J of its session's history and of the bytes that requested the
-- connection.
record PairOf (A : EndState → Type 0) (J : History → Option (List ℕ) → Type 0) (s : EndSettings) (y : EndState) : Type 0
  where
    at : A y
    set : y.settings ≡ s
    joint : J y.session.history y.request

pair-keeps : (now : ℕ) (Q : EndState → List ℕ → Type 0) (A : EndState → Type 0) (J : History → Option (List ℕ)
    → Type 0) (s : EndSettings) → Keeps now Q A
    → ((e : SessionEvent) (h : History) (q : Option (List ℕ)) → ((j k : History) → IsNext e j k) → J h q
    → J (add_event e h) q)
    → ((octets : List ℕ) (x : EndState) → Q x octets → PairOf A J s x
    → J (heard now octets x).session.history (heard now octets x).request)
    → Keeps now Q (PairOf A J s)
pair-keeps now Q A J s k meets-joint hears-joint =
    record {
      guards = λ x h. record { at = k.guards x h.at; set = h.set; joint = h.joint };
      ticks = λ x h. record { at = k.ticks x h.at; set = h.set; joint = h.joint };
      closes = λ x h. record { at = k.closes x h.at; set = h.set; joint = h.joint };
      ends =
          λ x shut h. record {
            at = k.ends x shut h.at;
            set = h.set;
            joint = meets-joint Closes _ _ (λ _ _. tt) h.joint;
          };
      inputs = λ i x t h. record { at = k.inputs i x t h.at; set = h.set; joint = h.joint };
      hears = λ octets x q h.
          let t = arrive_octets octets now x.machine in
          record {
            at = k.hears octets x q h.at;
            set = (leaves-same now (judge_units (handed_up x t) x.session).leaving (answered octets x t)).0 ∙ h.set;
            joint = hears-joint octets x q h;
          };
      sends = λ x may some h. record { at = k.sends x may some h.at; set = h.set; joint = h.joint };
      puts = λ kind payload x fits h.
          record {
            at = k.puts kind payload x fits h.at;
            set = h.set;
            joint = meets-joint (Puts kind payload _) _ _ (λ _ _. tt) h.joint;
          };
      dones =
          λ x h. record { at = k.dones x h.at; set = h.set; joint = meets-joint (Completes _) _ _ (λ _ _. tt) h.joint };
      times = λ x h. record { at = k.times x h.at; set = h.set; joint = h.joint };
    }

-- The interlocking during a call, with every field element that is joined to it.
abbrev JointIl : EndSettings → ℕ → History → JoinedEnd → Type 0
JointIl s number h f = f.joined ≡ Some number → Joint (new_pair s f.end.settings) h f.end.session.history

abbrev IlPair : EndSettings → ℕ → List JoinedEnd → M.World → ℕ → EndState → Type 0
IlPair s number fes m now = PairOf (IlAt m now) (λ h request. AllByRecursion (JointIl s number h) fes) s

il-joined : (ss : List State) (s : State) (f : M.Served) (number : ℕ) → L.TakesBeginnings (s ∷ ss) f.machine f.joined
    → f.joined ≡ Some number
    → (number == length ss + 1) ≡ true → IsBeginning s.taken (units f.machine.made)
il-joined ss s f number h is at = grind (arith, nat_tests)

il-pairs-hear : (p : Laws) (s : EndSettings) (number : ℕ) (ss : List State) (now : ℕ) (octets : List ℕ) (x : EndState)
    → (number == length ss + 1) ≡ true
    → Whole Il x
    → (fes : List JoinedEnd) → AllWhole Fe (ends_of fes)
    → L.AllTakeBeginnings (arrive_octets octets now x.machine ∷ ss) (served fes)
    → AllByRecursion (JointIl s number x.session.history) fes
    → AllByRecursion (JointIl s number (heard now octets x).session.history) fes
il-pairs-hear p s number ss now octets x at here [] whole law h = tt
il-pairs-hear p s number ss now octets x at here (f ∷ fs) whole law h = (
  λ is.
      let b = new_pair s f.end.settings in
      let t = arrive_octets octets now x.machine in
      let sent = il-joined ss t (record { machine = f.end.machine; joined = f.joined }) number law.0 is at in
      joint-hears f.end.session.history (λ k. Joint b k f.end.session.history)
      (λ e k next j. joint-il p.one_more b k f.end.session.history e next j)
      p Il now octets x here
      (begins-queue Fe t.taken f.end whole.0.spoken sent) (h.0 is),
  il-pairs-hear p s number ss now octets x at here fs whole.1 law.1 h.1,
)

il-pair-keeps : (p : Laws) (x0 : EndState) (before : List EndState) (fes : List JoinedEnd) (di df ci cf now : ℕ)
    → let m = machines (x0 ∷ before) fes di df ci cf in
    PeerIs (latest (ends_of fes)) df m.fe m.dead_fe → AllWhole Fe (ends_of fes)
    → Keeps now (Comes (latest (ends_of fes)) df) (IlPair x0.settings (length before + 1) fes m now)
il-pair-keeps p x0 before fes di df ci cf now is whole =
    let m = machines (x0 ∷ before) fes di df ci cf in
    let peer = latest (ends_of fes) in
    let s = x0.settings in
    let number = length before + 1 in
    pair-keeps now (Comes peer df) (IlAt m now) (λ h request. AllByRecursion (JointIl s number h) fes) s
    (il-keeps p m peer df now is)
    (λ e h request next. all-map (JointIl s number h) (JointIl s number (add_event e h))
    (λ f j new_sessions. joint-il p.one_more (new_pair s f.end.settings) h f.end.session.history e
    (next h f.end.session.history) (j new_sessions)) fes)
    (λ octets x q h.
    let t = arrive_octets octets now x.machine in
    let law : L.LawOf (t ∷ states before) (served fes) = law-il t x0 before fes di df ci cf now
    (law-at p.units (il_at t now m) (il-heard p m peer df now is octets x q h.at)) in
    il-pairs-hear p s number (states before) now octets x (ap (λ n. number == n + 1) (states-length before)
    ∙ eqb-same number) h.at.whole
    fes whole law.beginnings h.joint)

-- The field element during a call, with the interlocking to which it is joined by now.
abbrev JoinedNow : List EndState → JoinedEnd → EndState → Option ℕ
JoinedNow ils f x = joined_by ils f.joined f.end.request x.request

abbrev JointFe : EndSettings → List EndState → ℕ → History → Type 0
JointFe s ils number h = MatchOption (incarnation ils number) ⊥ (λ g. Joint (new_pair g.settings s) g.session.history h)

-- if no end requested the connection, it is joined to none
abbrev FeJoint : EndSettings → List EndState → JoinedEnd → History → Option (List ℕ) → Type 0
FeJoint s ils f h request =
    (request ≡ None → joined_by ils f.joined f.end.request request ≡ None)
    × ((number : ℕ) → joined_by ils f.joined f.end.request request ≡ Some number → JointFe s ils number h)

abbrev FePair : EndSettings → List EndState → JoinedEnd → M.World → ℕ → EndState → Type 0
FePair s ils f m now = PairOf (FeAt ils f m now) (FeJoint s ils f) s

-- what bytes do to a pair, if the interlocking is known
fe-with : (p : Laws) (s : EndSettings) (now : ℕ) (octets : List ℕ) (x g : EndState) → Whole Fe x → Spoken Il g
    → IsBeginning (arrive_octets octets now x.machine).taken (units g.machine.made)
    → Joint (new_pair g.settings s) g.session.history x.session.history
    → Joint (new_pair g.settings s) g.session.history (heard now octets x).session.history
fe-with p s now octets x g here sg sent j =
    let b = new_pair g.settings s in
    joint-hears g.session.history (λ k. Joint b g.session.history k)
    (λ e k next l. joint-fe p.one_more b g.session.history k e next l) p Fe now
    octets x here
    (begins-queue Il (arrive_octets octets now x.machine).taken g sg sent) j

not-joined : (o : Option ℕ) (number : ℕ) (fs : List M.Served) → o ≡ None → L.JoinsFall number fs
    → (o ≡ Some number) ⊎ L.IsJoined number fs → ⊥
not-joined o number fs h k l = grind (arith, nat_tests, joined-below)

none-or : (o : Option ℕ) (number : ℕ) (fs : List M.Served) (g : EndState) → o ≡ None → L.JoinsFall number fs
    → (g.machine.taken ≡ []) ⊎ ((o ≡ Some number) ⊎ L.IsJoined number fs) → g.machine.taken ≡ []
none-or o number fs g h k l = grind (arith, nat_tests, not-joined)

-- the pair before bytes come: joined already, or new
fe-before : (p : Laws) (s : EndSettings) (ils : List EndState) (f : JoinedEnd) (fs : List JoinedEnd) (m : M.World)
    (now : ℕ) (octets : List ℕ)
    (x g : EndState) (number : ℕ) (b : Bool)
    → is_joining x.machine.connection (arrive_octets octets now x.machine).connection ≡ b → FePair s ils f m now x
    → Whole Il g → incarnation ils number ≡ Some g
    → L.LawOf (states ils) (record { machine = x.machine; joined = JoinedNow ils f x } ∷ served fs)
    → L.JoinsFall number (served fs)
    → joined_by ils f.joined f.end.request (request_after b octets x.request) ≡ Some number
    → Joint (new_pair g.settings s) g.session.history x.session.history
fe-before p s ils f fs m now octets x g number false e h whole inc law fall is = grind (arith, nat_tests, h.joint.1)
fe-before p s ils f fs m now octets x g number true e h whole inc law fall is =
    let none : x.request ≡ None = h.at.idle (joins-both x.machine.connection
    (arrive_octets octets now x.machine).connection e).0 in
    let free : JoinedNow ils f x ≡ None = h.joint.0 none in
    let x-none : x.machine.taken ≡ [] = subst (λ o. L.TakesBeginnings (states ils) x.machine o) free law.beginnings.0 in
    let g-none : g.machine.taken ≡ [] =
    none-or (JoinedNow ils f x) number (served fs) g free fall
    (inc-takes (record { machine = x.machine; joined = JoinedNow ils f x } ∷ served fs) ils number g law.only_joined
    inc)
    in
    subst (λ (t : EndSettings). Joint (new_pair g.settings t) g.session.history x.session.history) h.set
    (joint-new p.one_more g x whole.spoken h.at.whole.spoken g-none x-none)

-- what a part does to the pair
fe-joint : (p : Laws) (s : EndSettings) (ils : List EndState) (f : JoinedEnd) (fs : List JoinedEnd) (m : M.World)
    (now : ℕ) (octets : List ℕ) (x : EndState)
    → AllWhole Il ils → FePair s ils f m now x
    → L.LawOf (states ils) (record { machine = x.machine; joined = JoinedNow ils f x } ∷ served fs)
    → let y = answered octets x (arrive_octets octets now x.machine) in L.LawOf (states ils)
    (record { machine = y.machine; joined = JoinedNow ils f y } ∷ served fs)
    → (number : ℕ) → JoinedNow ils f y ≡ Some number → (o : Option EndState) → incarnation ils number ≡ o
    → MatchOption o ⊥ (λ g. Joint (new_pair g.settings s) g.session.history (heard now octets x).session.history)
fe-joint p s ils f fs m now octets x wholes h before after number is None inc =
    grind (arith, nat_tests, inc-none, after.beginnings.0)
fe-joint p s ils f fs m now octets x wholes h before after number is (Some g) inc =
    let t = arrive_octets octets now x.machine in
    let y = answered octets x t in
    let takes : L.TakesBeginnings (states ils) y.machine (Some number) = subst
    (λ o. L.TakesBeginnings (states ils) y.machine o) is after.beginnings.0 in
    let sent : IsBeginning t.taken (units g.machine.made) =
    (subst (λ o. MatchOption o ⊥ (λ il. IsBeginning y.machine.taken (units il.made)
    × IsBeginning il.taken (units y.machine.made))) (inc-some ils number g inc)
    takes).0
    in
    let whole = inc-whole ils number g wholes inc in
    let fall : L.JoinsFall number (served fs) = subst
    (λ o. L.JoinsFall (L.next_bound (length (states ils) + 1) o) (served fs)) is after.joins_fall.1 in
    fe-with p s now octets x g h.at.whole whole.spoken sent
    (fe-before p s ils f fs m now octets x g number (is_joining x.machine.connection t.connection) refl h whole inc
    before fall is)

fe-pair-keeps : (p : Laws) (ils : List EndState) (f : JoinedEnd) (fs : List JoinedEnd) (di df ci cf now : ℕ) → let m =
    machines ils (f ∷ fs) di df ci cf in
    PeerIs (latest ils) di m.il m.dead_il → AllWhole Il ils
    → Keeps now (Comes (latest ils) di) (FePair f.end.settings ils f m now)
fe-pair-keeps p ils f fs di df ci cf now is wholes =
    let m = machines ils (f ∷ fs) di df ci cf in
    let s = f.end.settings in
    pair-keeps now (Comes (latest ils) di) (FeAt ils f m now) (FeJoint s ils f) s
    (fe-keeps p ils f m di now (before-length ils) is)
    (λ e h request next j. (
      j.0,
      λ number new_sessions.
          match-map (λ g. Joint (new_pair g.settings s) g.session.history h)
          (λ g. Joint (new_pair g.settings s) g.session.history (add_event e h))
          (λ g l. joint-fe p.one_more (new_pair g.settings s) g.session.history h e (next h g.session.history) l)
          (incarnation ils number) (j.1 number new_sessions),
    ))
    (λ octets x q h.
    let t = arrive_octets octets now x.machine in
    let y = answered octets x t in
    let why = (judge_units (handed_up x t) x.session).leaving in
    let there : FeHeard ils f m now y = fe-heard p ils f m di now octets x (before-length ils) is q h.at in
    let after : L.LawOf (states ils) (record { machine = y.machine; joined = JoinedNow ils f y } ∷ served fs) =
    law-fe t (JoinedNow ils f y) ils f fs di df ci cf now
    (law-at p.units (fe_at t (JoinedNow ils f y) now m) there.there)
    in
    let before : L.LawOf (states ils) (record { machine = x.machine; joined = JoinedNow ils f x } ∷ served fs) =
    law-fe x.machine (JoinedNow ils f x) ils f fs di df ci cf h.at.clock
    (law-at p.units (fe_at x.machine (JoinedNow ils f x) h.at.clock m) h.at.reached)
    in
    let joining = is_joining x.machine.connection t.connection in (
      λ none.
          let none-y : request_after joining octets x.request ≡ None = sym (leaves-same now why y).1 ∙ none in
          let none-x : x.request ≡ None = noted-first joining octets x.request none-y in
          ap (λ o. joined_by ils f.joined f.end.request o) (none ∙ sym none-x) ∙ h.joint.0 none-x,
      λ number e.
          fe-joint p s ils f fs m now octets x wholes h before after number
          (ap (λ o. joined_by ils f.joined f.end.request o) (sym (leaves-same now why y).1)
          ∙ e) (incarnation ils number) refl,
    ))

-- The events of a world.
-- a new incarnation of the interlocking has a number to which no field element is joined
pairs-open : (y : EndState) (ils : List EndState) (bound : ℕ) (fes : List JoinedEnd) → bound ≤ length ils + 1
    → L.JoinsFall bound (served fes)
    → AllByRecursion (PairAt ils) fes → AllByRecursion (PairAt (y ∷ ils)) fes
pairs-open y ils bound [] le fall h = tt
pairs-open y ils bound (f ∷ fs) le fall h = (
  λ number is.
      let lt : number < bound = below-step bound number f.joined fall.0 (inl is) in
      let not : (number == length ils + 1) ≡ false = grind (arith, nat_tests) in
      subst (λ b. MatchOption (cond b (Some y) (incarnation ils number)) ⊥ (λ g. JointEnds f.end.settings g f.end))
      (sym not) (h.0 number is),
  pairs-open y ils (L.next_bound bound f.joined) fs (bound-le bound f.joined (length ils + 1) le fall.0) fall.1 h.1,
)
  where
    bound-le : (bound : ℕ) (o : Option ℕ) (n : ℕ) → bound ≤ n → L.JoinedBelow bound o → L.next_bound bound o ≤ n
    bound-le bound None n le h = le
    bound-le bound (Some k) n le h = omega (arith, le, h)

pub law-now : (p : Laws) (ils : List EndState) (fes : List JoinedEnd) (di df : ℕ) → Mapped ils fes di df
    → L.LawOf (states ils) (served fes)
law-now p ils fes di df h =
    law-of ils fes di df h.clock_il h.clock_fe (law-at p.units (machines ils fes di df h.clock_il h.clock_fe) h.reached)

-- the pairs of the present interlocking, and all pairs from these
present-joints : (x : EndState) (before : List EndState) (fes : List JoinedEnd)
    → AllByRecursion (PairAt (x ∷ before)) fes
    → AllByRecursion (JointIl x.settings (length before + 1) x.session.history) fes
present-joints x before [] h = tt
present-joints x before (f ∷ fs) h = (
  λ is. subst (λ b. MatchOption (cond b (Some x) (incarnation before (length before + 1))) ⊥
      (λ g. JointEnds f.end.settings g f.end))
      (eqb-same (length before + 1)) (h.0 (length before + 1) is),
  present-joints x before fs h.1,
)

with-present : (x y : EndState) (before : List EndState) (fes : List JoinedEnd) → y.settings ≡ x.settings
    → AllByRecursion (JointIl x.settings (length before + 1) y.session.history) fes
    → AllByRecursion (PairAt (x ∷ before)) fes
    → AllByRecursion (PairAt (y ∷ before)) fes
with-present x y before [] set j h = tt
with-present x y before (f ∷ fs) set j h = (
  λ number is.
      by_test (λ b. (number == length before + 1) ≡ b
      → MatchOption (cond b (Some x) (incarnation before number)) ⊥ (λ g. JointEnds f.end.settings g f.end)
      → MatchOption (cond b (Some y) (incarnation before number)) ⊥ (λ g. JointEnds f.end.settings g f.end))
      (number == length before + 1)
      (λ at _ _.
      let n : number ≡ length before + 1 = eqb-true number (length before + 1) at in
      subst (λ (s : EndSettings). Joint (new_pair s f.end.settings) y.session.history f.end.session.history) (sym set)
      (j.0 (is ∙ ap Some n)))
      (λ _ _ old. old) refl (h.0 number is),
  with-present x y before fs set j.1 h.1,
)

paired-il : (p : Laws) (c : Call) (ils : List EndState) (fes : List JoinedEnd) (di df : ℕ) → IsTypedCall c
    → call_refusal c (latest ils) ≡ None
    → AtOpened (GenuineCall (latest (ends_of fes)) df c) (latest ils) → Paired ils fes di df
    → Paired (call_il c ils) fes di df
paired-il p c [] fes di df typed ok g w = cc
paired-il p c (x ∷ before) fes di df typed ok g w =
    let now = time_of c in
    let h = w.mapped in
    let m = machines (x ∷ before) fes di df h.clock_il h.clock_fe in
    let peer = latest (ends_of fes) in
    let P = IlPair x.settings (length before + 1) fes m now in
    let y : P (call c x) =
    call-keeps c (Comes peer df) P x (il-pair-keeps p x before fes di df h.clock_il h.clock_fe now
    (peer-fe p.texts (x ∷ before) fes di df h) h.fe_whole) typed
    (at-call p df peer Il c x typed h.il_whole.0 g.1)
    (record {
      at = found-il x before fes di df now h (call-timely c x ok);
      set = refl;
      joint = present-joints x before fes w.pairs;
    })
    in
    record {
      mapped = after-il c x before fes di df h y.at;
      unjoined = w.unjoined;
      pairs = with-present x (call c x) before fes y.set y.joint w.pairs;
    }

paired-fe : (p : Laws) (c : Call) (ils : List EndState) (fes : List JoinedEnd) (di df : ℕ) → IsTypedCall c
    → call_refusal c (latest (ends_of fes)) ≡ None
    → AtOpened (GenuineCall (latest ils) di c) (latest (ends_of fes)) → Paired ils fes di df
    → Paired ils (call_fe c ils fes) di df
paired-fe p c ils [] di df typed ok g w = cc
paired-fe p c ils (f ∷ fs) di df typed ok g w =
    let now = time_of c in
    let h = w.mapped in
    let m = machines ils (f ∷ fs) di df h.clock_il h.clock_fe in
    let same = joined-same ils f.joined f.end.request in
    let P = FePair f.end.settings ils f m now in
    let y : P (call c f.end) =
    call-keeps c (Comes (latest ils) di) P f.end
    (fe-pair-keeps p ils f fs di df h.clock_il h.clock_fe now (peer-il p.texts ils (f ∷ fs) di df h) h.il_whole) typed
    (at-call p di (latest ils) Fe c f.end typed h.fe_whole.0 g.1)
    (record {
      at = found-fe ils f fs di df now h (call-timely c f.end ok);
      set = refl;
      joint = (λ none. sym same ∙ w.unjoined none, λ number e. w.pairs.0 number (same ∙ e));
    })
    in
    record {
      mapped = after-fe c ils f fs di df h y.at;
      unjoined = y.joint.0;
      pairs = (
        λ number e. subst (λ (t : EndSettings). MatchOption (incarnation ils number) ⊥
            (λ g. Joint (new_pair g.settings t) g.session.history (call c f.end).session.history)) (sym y.set)
            (y.joint.1 number e),
        w.pairs.1,
      );
    }

paired-changed : (p : Laws) (e : Event) (w : World) → IsTyped e → refusal e w ≡ None → GenuineEvent e w → PairedWorld w
    → PairedWorld (change_world e w)
paired-changed p (Open Il s first now) w t ok g k =
    let law = law-now p w.ils w.fes w.dead_il w.dead_fe k.mapped in
    let le : length (states w.ils) + 1 ≤ length w.ils + 1 = let e = states-length w.ils in omega (arith, e) in
    record {
      mapped =
          mapped-open-il p.events s first now w.ils w.fes w.dead_il w.dead_fe (opens Il s now (latest w.ils) ok)
          k.mapped;
      unjoined = k.unjoined;
      pairs = pairs-open (new_end Il s first now) w.ils (length (states w.ils) + 1) w.fes le law.joins_fall k.pairs;
    }
paired-changed p (Open Fe s first now) w t ok g k =
    record {
      mapped = mapped-open-fe p.events s first now w.ils w.fes w.dead_il w.dead_fe
          (opens Fe s now (latest (ends_of w.fes)) ok) k.mapped;
      unjoined = λ _. refl;
      pairs = (λ number e. cc, k.pairs);
    }
paired-changed p (Calls Il c) w t ok g k = paired-il p c w.ils w.fes w.dead_il w.dead_fe (typed-call Il c t) ok g k
paired-changed p (Calls Fe c) w t ok g k = paired-fe p c w.ils w.fes w.dead_il w.dead_fe (typed-call Fe c t) ok g k

pub paired-event : (p : Laws) (e : Event) (w : World) → IsTyped e → (refusal e w ≡ None → GenuineEvent e w)
    → PairedWorld w → PairedWorld (apply_event w e)
paired-event p e w t g k =
    unless PairedWorld (refusal e w) w (change_world e w) k (λ ok. paired-changed p e w t ok (g ok) k)

pub paired-run : (p : Laws) (es : List Event) (w : World) → AreTyped es → Genuine es w → PairedWorld w
    → PairedWorld (run es w)
paired-run p [] w t g k = k
paired-run p (e ∷ es) w t g k = paired-run p es (apply_event w e) t.1 g.1 (paired-event p e w t.0 g.0 k)

pub paired-start : PairedWorld start
paired-start = record { mapped = mapped-start; unjoined = tt; pairs = tt }
