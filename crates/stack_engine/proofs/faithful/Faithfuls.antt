-- Over every faithful list of crossed ends the machines receive each other's PDUs in order.
use Rattle.stack_engine.proofs.Words.{[], after_along, AllByRecursion, AllFaithful, answered, ap, append-nil, append_assoc, AreFrom, AreTyped, arith, arrivals}
use Rattle.stack_engine.proofs.Words.{arrivals_of, arrive_octets, AtCall, AtOpened, Bool, Call, call, call_fe, call_il, call_refusal, Calls, CarriesPdu, change_world}
use Rattle.stack_engine.proofs.Words.{Close, ClosedByUser, Closes, CodeRule, Completes, cond, Crossed, Datagram, Deliver, drop, ends_of, EndSettings}
use Rattle.stack_engine.proofs.Words.{EndState, Event, EventsLaw, FaithfulCall, FaithfulEvent, false, Fe, Genuine, GenuineCall, GenuineEvent, goes_on, guard}
use Rattle.stack_engine.proofs.Words.{GuardHolds, Guards, handed_up, apply_event, HaveTexts, heard_as, IdentifiedLaw, Il, InitDone, inl, Input, inr, is_shut}
use Rattle.stack_engine.proofs.Words.{IsGenuine, IsNear, IsTyped, JoinedEnd, judge_units, last_time, latest, leave, Leaves, leaves, Leaving, length, List, Made}
use Rattle.stack_engine.proofs.Words.{made_of, process_event, Move, move, MovesLaw, nat_tests, new_end, no_wait, NoDeadlineFalls, None, OfBoth, Open, OpenMachine}
use Rattle.stack_engine.proofs.Words.{Option, packed, Part, parts_passed_along, parts_passed, Put, Puts, QNear, input_step, red_opened, RedTick, refl, refusal, rule_of}
use Rattle.stack_engine.proofs.Words.{run, safe_seen, safe_text, SafeText, SameRule, seen_by, Sends, sends, Settings, Side, Some, start, State, subst}
use Rattle.stack_engine.proofs.Words.{suc, sym, Tick, tick, Ticks, time_of, true, Unspecified, upper_of, with_input, with_joined, with_machine, with_session}
use Rattle.stack_engine.proofs.Words.{World, zero, ℕ, ⊎_elim, ◌++◌, ◌∙◌, ◌∷◌, ◌≡◌, ◌≢◌, ◌≤◌, ◌⊎◌}
use Rattle.stack_engine.proofs.Words.{guard_step, tick_step}
use Rattle.stack_engine.proofs.faithful.Order.{arrivals-push, bear-nth, Carry, IsNth, Left, near-front, Next, Numbered, ord-deliver, ord-done, ord-put}
use Rattle.stack_engine.proofs.faithful.Order.{ord-tick, OrdEnd, Ordered, ordered, peer_dead, peer_made, red-numbered, timely-front, WasOpened}
use Rattle.stack_engine.proofs.one.Received.{FailsAt, Machined, machined-texts, Whole}
use Rattle.stack_engine.proofs.one.Sent.{all-append, all-map, any-parts, AnyPart, call-keeps, came, IsTypedCall, keep-packed, keep-parts}
use Rattle.stack_engine.proofs.one.Sent.{Keeps, Laws, legal-of, Steady, steady-goes}
use Rattle.stack_engine.proofs.two.Machines.{both-call, Comes, own-same, peer-same, TextsOf}
use Rattle.stack_engine.proofs.two.JointSessions.{Paired, paired-event, PairedWorld}
use Rattle.stack_engine.proofs.two.Worlds.{at-call, call-timely, machines_as, made-fe, made-il, Mapped, open-fe, open-il, Opens, opens, served, states}
use Rattle.stack_engine.proofs.two.Worlds.{texts-latest, typed-call, unless, unserved}
use Rattle.safe_machine.specs.World as M

-- The end after a call: the same settings, and lists that only grow.
pub record Grown (x y : EndState) : Type 0 where
  pub set : y.settings ≡ x.settings
  pub more_made : List Made
  pub made : y.machine.made ≡ x.machine.made ++ more_made
  pub more_inputs : List Input
  pub inputs : y.inputs ≡ x.inputs ++ more_inputs

grown-same : (x y z : EndState) → z.settings ≡ y.settings → z.machine.made ≡ y.machine.made → z.inputs ≡ y.inputs
    → Grown x y → Grown x z
grown-same x y z a b c h = grind (arith, nat_tests, h.inputs, h.made, h.more_inputs, h.more_made, h.set)

grown-move : MovesLaw → (m : Move) (x y z : EndState) → z.settings ≡ y.settings → z.machine ≡ move m y.machine
    → z.inputs ≡ y.inputs → Grown x y → Grown x z
grown-move law m x y z a b c h =
    let one = law m y.machine in
    record {
      set = a ∙ h.set;
      more_made = h.more_made ++ one.more_made;
      made = ap (λ (s : State). s.made) b ∙ one.made ∙ ap (λ ms. ms ++ one.more_made) h.made
          ∙ append_assoc x.machine.made h.more_made one.more_made;
      more_inputs = h.more_inputs;
      inputs = c ∙ h.inputs;
    }

grown-leaves : MovesLaw → (now : ℕ) (why : Option Leaving) (x y : EndState) → Grown x y → Grown x (leaves now why y)
grown-leaves law now None x y h = h
grown-leaves law now (Some why) x y h =
    grown-move law (Leaves why.0 why.1 now) x y (leaves now (Some why) y) refl refl refl h

grown-keeps : MovesLaw → (x : EndState) (now : ℕ) (Q : EndState → List ℕ → Type 0) → Keeps now Q (Grown x)
grown-keeps law x now Q =
    record {
      guards = λ y h. grown-move law (Guards now) x y (with_machine (guard now y.machine) y) refl refl refl h;
      ticks = λ y h. grown-move law (Ticks now) x y (with_machine (tick now y.machine) y) refl refl refl h;
      closes = λ y h. grown-move law (Leaves ClosedByUser Unspecified now) x y
          (with_machine (leave ClosedByUser Unspecified now y.machine) y) refl refl refl h;
      ends = λ y shut h. grown-same x y (with_session (process_event Closes y.session) y) refl refl refl h;
      inputs = λ i y t h. record {
        set = h.set;
        more_made = h.more_made;
        made = h.made;
        more_inputs = h.more_inputs ++ i ∷ [];
        inputs =
            ap (λ is. is ++ i ∷ []) h.inputs ∙ append_assoc x.inputs h.more_inputs (i ∷ []);
      };
      hears = λ octets y q h.
          let s = arrive_octets octets now y.machine in
          grown-leaves law now (judge_units (handed_up y s) y.session).leaving x (answered octets y s)
          (grown-move law (heard_as (seen_by y.machine octets) now) x y (answered octets y s) refl refl refl h);
      sends = λ y may some h. grown-move law (Sends _ now) x y (packed now y) refl refl refl h;
      puts =
          λ kind payload y fits h. grown-same x y (with_session
          (process_event (Puts kind payload (length y.session.waiting)) y.session) y) refl refl refl h;
      dones = λ y h. grown-same x y (with_session (process_event (Completes (length y.session.waiting)) y.session) y)
          refl refl refl h;
      times = λ y h. grown-same x y (record y { time = now }) refl refl refl h;
    }

pub grown-call : MovesLaw → (Q : EndState → List ℕ → Type 0) (c : Call) (x : EndState) → IsTypedCall c → AtCall Q c x
    → Grown x (call c x)
grown-call law Q c x t q =
    call-keeps c Q (Grown x) x (grown-keeps law x (time_of c) Q) t q
    record {
      set = refl;
      more_made = [];
      made = sym (append-nil x.machine.made);
      more_inputs = [];
      inputs = sym (append-nil x.inputs);
    }

-- The inputs after a call, if the end goes on.
on-inputs : (now : ℕ) (i : Input) (x : EndState) → is_shut x ≡ false → (goes_on now i x).inputs ≡ x.inputs ++ i ∷ []
on-inputs now i x on =
    let y = input_step now i x in
    let ps = parts_passed i x.red in
    ap (λ (b : Bool). (cond b x (sends now y)).inputs) on
    ∙ (keep-packed now AnyPart (Steady y) (steady-goes now y) (length y.session.waiting) y
    (record { set = refl; inputs = refl })).inputs
    ∙ (keep-parts now AnyPart (Steady (with_input i x)) (steady-goes now (with_input i x)) ps (with_input i x)
    (any-parts now ps (with_input i x))
    (record { set = refl; inputs = refl })).inputs

tick-inputs : (now : ℕ) (x : EndState) → is_shut x ≡ false → is_shut (tick_step now x) ≡ false
    → (call (Tick now) x).inputs ≡ x.inputs ++ RedTick now ∷ []
tick-inputs now x a b =
    ap (λ (q : Bool). (cond q x (goes_on now (RedTick now) (tick_step now x))).inputs) a
    ∙ on-inputs now (RedTick now) (tick_step now x) b

deliver-inputs : (channel : ℕ) (octets : List ℕ) (now : ℕ) (x : EndState) → is_shut x ≡ false
    → is_shut (guard_step now x) ≡ false
    → (call (Deliver channel octets now) x).inputs ≡ x.inputs ++ Datagram octets now ∷ []
deliver-inputs channel octets now x a b =
    ap (λ (q : Bool). (cond q x (goes_on now (Datagram octets now) (guard_step now x))).inputs) a
    ∙ on-inputs now (Datagram octets now) (guard_step now x) b

-- what an end knows of what came
pub record Known (peer : Option EndState) (x : EndState) : Type 0 where
  pub red : x.red ≡ after_along x.inputs (red_opened x.settings.q x.settings.t_seq)
  pub carry : AllByRecursion (CarriesPdu peer) (arrivals x.inputs)

nth-more : (r : CodeRule) (ms more : List Made) (n : ℕ) (octets : List ℕ) → IsNth r ms n octets
    → IsNth r (ms ++ more) n octets
nth-more r [] more zero octets h = let no = h.2 in cc
nth-more r [] more (suc n) octets h = let no = h.2 in cc
nth-more r (m ∷ ms) more zero octets h = let same : m ≡ h.0 = let e =
    h.2 in cc in (m, ms ++ more, refl, h.3 ∙ ap (upper_of r) (sym same))
nth-more r (m ∷ ms) more (suc n) octets h = nth-more r ms more n octets h

known-grown : (x y z : EndState) → Grown x y → Known (Some x) z → Known (Some y) z
known-grown x y z g h =
    record {
      red = h.red;
      carry =
          all-map (CarriesPdu (Some x)) (CarriesPdu (Some y))
          (λ p n. subst (λ (s : EndSettings). IsNth (rule_of s) y.machine.made p.0 p.1) (sym g.set)
          (subst (λ ms. IsNth (rule_of x.settings) ms p.0 p.1) (sym g.made)
          (nth-more (rule_of x.settings) x.machine.made g.more_made p.0 p.1 n)))
          (arrivals z.inputs) h.carry;
    }

knows-grown : (x y : EndState) (z : Option EndState) → Grown x y → AtOpened (Known (Some x)) z
    → AtOpened (Known (Some y)) z
knows-grown x y None g h = tt
knows-grown x y (Some z) g h = known-grown x y z g h

abbrev pub passed_count : Option EndState → ℕ
passed_count None = 0
passed_count (Some x) = length (parts_passed_along x.inputs (red_opened x.settings.q x.settings.t_seq))

-- before its first opening nobody is joined
abbrev pub NoFe : List JoinedEnd → Option ℕ → Type 0
NoFe [] q = q ≡ None
NoFe (f ∷ fs) q = Unit {0}

pub record OrdWorld (ils : List EndState) (fes : List JoinedEnd) (di df : ℕ) : Type 0 where
  pub closed : Bool
  pub fails : closed ≡ true → FailsAt (latest ils) ⊎ FailsAt (latest (ends_of fes))
  pub joined : Option ℕ
  pub clock_il : ℕ
  pub clock_fe : ℕ
  pub ordered : Ordered closed (passed_count (latest ils)) (passed_count (latest (ends_of fes)))
      (machines_as ils fes joined di df clock_il clock_fe)
  pub il_within : clock_il ≤ last_time (latest ils)
  pub fe_within : clock_fe ≤ last_time (latest (ends_of fes))
  pub il_knows : AtOpened (Known (latest (ends_of fes))) (latest ils)
  pub fe_knows : AtOpened (Known (latest ils)) (latest (ends_of fes))
  pub no_fe : NoFe fes joined
  pub once : (length ils ≤ 1) × (length fes ≤ 1)

-- what holds at the end of a list holds at each of its events
pub record Ahead (il fe : Option EndState) : Type 0 where
  pub il_near : AtOpened IsNear il
  pub fe_near : AtOpened IsNear fe
  pub same_rule : OfBoth SameRule il fe
  pub crossed : OfBoth Crossed il fe

-- The peer's PDUs, as a crossed end under the same rule reads them.
texts-nth : (ms : List Made) (n : ℕ) (m : Made) (later : List Made) → HaveTexts ms → drop n ms ≡ m ∷ later
    → (r : CodeRule)
    → SafeText m.pdu r (safe_text r m.pdu)
texts-nth [] zero m later h e r = cc
texts-nth [] (suc n) m later h e r = cc
texts-nth (x ∷ ms) zero m later h e r = let is : x ≡ m =
    cc in subst (λ (y : Made). SafeText y.pdu r (safe_text r y.pdu)) is (h.0 r)
texts-nth (x ∷ ms) (suc n) m later h e r = texts-nth ms n m later h.1 e r

pub bears : IdentifiedLaw → (side : Side) (y : EndState) → Machined side y → AreFrom y.machine.settings y.machine.made
bears law side y h = grind (arith, nat_tests, h.began, h.first, h.machine, h.moves, h.same)

next-of : (p : Laws) (side other : Side) (m : M.World) (x y : EndState) → WasOpened side m
    → peer_made side m ≡ y.machine.made
    → rule_of x.settings ≡ rule_of y.settings → x.settings.connection.own ≡ y.settings.connection.peer
    → y.settings.connection.own ≡ x.settings.connection.peer → HaveTexts y.machine.made → Machined other y
    → (n : ℕ) (octets : List ℕ) → IsNth (rule_of y.settings) y.machine.made n octets → Next side m x.settings n octets
next-of p side other m x y was same rule own peer texts mach n octets nth =
    let r = rule_of y.settings in
    let made : Made = nth.0 in
    let spelled : octets ≡ safe_text r made.pdu = nth.3 in
    let bear = bear-nth y.machine.settings y.machine.made n made nth.1 (bears p.identified other y mach) nth.2 in
    record {
      made = made;
      later = nth.1;
      there = ap (drop n) same ∙ nth.2;
      seen = ap (λ (c : CodeRule). safe_seen c octets) rule ∙ ap (safe_seen r) spelled
          ∙ p.complete made.pdu r (safe_text r made.pdu)
          (texts-nth y.machine.made n made nth.1 texts nth.2 r);
      receiver = bear.0 ∙ ap (λ (c : Settings). c.peer) mach.same ∙ peer-same other y.settings ∙ sym own;
      sender = bear.1 ∙ ap (λ (c : Settings). c.own) mach.same ∙ own-same other y.settings ∙ peer;
      opened = was;
    }

nth-none : (r : CodeRule) (n : ℕ) (octets : List ℕ) → IsNth r [] n octets → ⊥
nth-none r n octets h = grind (arith, nat_tests)

-- what goes up at one input more is numbered on
numbers : (p : Laws) (r : CodeRule) (ms : List Made) (x y : EndState) (i : Input) → IsNear y → y.settings ≡ x.settings
    → y.inputs ≡ x.inputs ++ i ∷ []
    → AllByRecursion (Carry r ms) (arrivals x.inputs)
    → AllByRecursion (Carry r ms) (arrivals_of i)
    → Numbered r ms (length (parts_passed_along x.inputs (red_opened x.settings.q x.settings.t_seq)))
    (parts_passed i (after_along x.inputs (red_opened x.settings.q x.settings.t_seq)))
    × AllByRecursion (Carry r ms) (arrivals (x.inputs ++ i ∷ []))
numbers p r ms x y i near set ins carry brought =
    let all : AllByRecursion (Carry r ms) (arrivals (x.inputs ++ i ∷ [])) =
    subst (AllByRecursion (Carry r ms)) (sym (arrivals-push x.inputs i))
    (all-append (Carry r ms) (arrivals x.inputs) (arrivals_of i) carry brought)
    in
    let q-near : QNear x.settings.q [] (x.inputs ++ i ∷ []) = subst (λ is. QNear x.settings.q [] is) ins
    (subst (λ (s : EndSettings). QNear s.q [] y.inputs) set near.0) in
    let timely : NoDeadlineFalls x.settings.t_seq no_wait (x.inputs ++ i ∷ []) = subst
    (λ is. NoDeadlineFalls x.settings.t_seq no_wait is) ins
    (subst (λ (s : EndSettings). NoDeadlineFalls s.t_seq no_wait y.inputs) set near.1) in
    (red-numbered p.masking p.missing p.more r ms x.settings.q x.settings.t_seq x.inputs i q-near timely all, all)

-- any call but a closing
ord-any : (p : Laws) (side : Side) (m : M.World) (k : ℕ) (x : EndState) (peer : Option EndState) (dead : ℕ) (F : Type 0)
    (texts : TextsOf peer)
    (live : drop dead (made_of peer) ≡ drop (peer_dead side m) (peer_made side m)) (r : CodeRule) (ms : List Made)
    (next : (n : ℕ) (octets : List ℕ) → IsNth r ms n octets → Next side m x.settings n octets)
    (each : (q : Part) → CarriesPdu peer q → Carry r ms q) (c : Call) → IsTypedCall c → FaithfulCall peer c x
    → AtCall (Comes peer dead) c x → IsNear (call c x)
    → (call c x).settings ≡ x.settings
    → Known peer x → OrdEnd side m k x.settings (time_of c) F x.inputs (passed_count (Some x)) x
    → Left p side m k x.settings (time_of c) peer dead F texts live r ms next (call c x)
ord-any p side m k x peer dead F texts live r ms next each (Close t) typed f q near set known h = absurd f.0
ord-any p side m k x peer dead F texts live r ms next each (Put kind payload t) typed f q near set known h =
    ord-put p side m k x.settings t peer dead F texts live r ms next kind payload x.inputs x typed
    (all-map (CarriesPdu peer) (Carry r ms) each (arrivals x.inputs) known.carry) h
ord-any p side m k x peer dead F texts live r ms next each (InitDone t) typed f q near set known h =
    ord-done p side m k x.settings t peer dead F texts live r ms next x.inputs x
    (all-map (CarriesPdu peer) (Carry r ms) each (arrivals x.inputs) known.carry) h
ord-any p side m k x peer dead F texts live r ms next each (Tick t) typed f q near set known h =
    let carry = all-map (CarriesPdu peer) (Carry r ms) each (arrivals x.inputs) known.carry in
    ord-tick p side m k x.settings t peer dead F texts live r ms next x.inputs x f.2.0
    (both-call (λ y o. GuardHolds y.machine t) (Comes peer dead) (Tick t) x f.2.1 q)
    (λ a b. numbers p r ms x (call (Tick t) x) (RedTick t) near set (tick-inputs t x a b) carry tt) carry h
ord-any p side m k x peer dead F texts live r ms next each (Deliver channel octets t) typed f q near set known h =
    let carry = all-map (CarriesPdu peer) (Carry r ms) each (arrivals x.inputs) known.carry in
    ord-deliver p side m k x.settings t peer dead F texts live r ms next channel octets x.inputs x
    typed f.2.0
    (both-call (λ y o. GuardHolds y.machine t) (Comes peer dead) (Deliver channel octets t) x f.2.1 q)
    (λ a b. numbers p r ms x (call (Deliver channel octets t) x) (Datagram octets t) near set
    (deliver-inputs channel octets t x a b) carry
    (all-map (CarriesPdu peer) (Carry r ms) each (arrivals_of (Datagram octets t)) f.1)) carry h

-- what the end became, in the world of machines
left-count : (p : Laws) (s : EndSettings) (ins : List Input) (y : EndState) → y.settings ≡ s → y.inputs ≡ ins
    → length (parts_passed_along ins (red_opened s.q s.t_seq)) ≡ passed_count (Some y)
left-count p s ins y a b = rw (← a, ← b) refl

known-left : (peer : Option EndState) (r : CodeRule) (ms : List Made) (x y : EndState) (ins : List Input)
    → ((q : Part) → Carry r ms q → CarriesPdu peer q)
    → y.settings ≡ x.settings → y.inputs ≡ ins
    → y.red ≡ after_along ins (red_opened x.settings.q x.settings.t_seq) → AllByRecursion (Carry r ms) (arrivals ins)
    → Known peer y
known-left peer r ms x y ins back set came red carry = grind (arith, nat_tests, all-map)

-- seen from the other end
turned : {A B : Type 0} → A ⊎ B → B ⊎ A
turned (inl a) = inr a
turned (inr b) = inl b

pub not-empty : {X : Type 0} (xs : List X) (x : X) → (xs ++ x ∷ []) ≢ []
not-empty [] x e = cc
not-empty (y ∷ xs) x e = cc

-- the PDUs of a peer that was opened, or no PDUs, as an end reads them
record Peer (side : Side) (m : M.World) (x : EndState) (peer : Option EndState) : Type 0 where
  rule : CodeRule
  ms : List Made
  next : (n : ℕ) (octets : List ℕ) → IsNth rule ms n octets → Next side m x.settings n octets
  each : (q : Part) → CarriesPdu peer q → Carry rule ms q
  back : (q : Part) → Carry rule ms q → CarriesPdu peer q

nobody : (side : Side) (m : M.World) (x : EndState) → Peer side m x None
nobody side m x =
    let r = rule_of x.settings in
    record {
      rule = r;
      ms = [];
      next = λ n octets nth. absurd (nth-none r n octets nth);
      each = λ q no. absurd no;
      back = λ q nth. nth-none r q.0 q.1 nth;
    }

somebody : (p : Laws) (side other : Side) (m : M.World) (x y : EndState) → WasOpened side m
    → peer_made side m ≡ y.machine.made
    → rule_of x.settings ≡ rule_of y.settings → x.settings.connection.own ≡ y.settings.connection.peer
    → y.settings.connection.own ≡ x.settings.connection.peer → Whole other y → Peer side m x (Some y)
somebody p side other m x y was same rule own peer whole =
    record {
      rule = rule_of y.settings;
      ms = y.machine.made;
      next = next-of p side other m x y was same rule own peer
          (machined-texts p.texts other y whole.spoken.fit whole.machined) whole.machined;
      each = λ q here. here;
      back = λ q here. here;
    }

-- A call of the interlocking.
ord-il : (p : Laws) (c : Call) (x : EndState) (before : List EndState) (fes : List JoinedEnd) (di df : ℕ)
    → IsTypedCall c → x.time ≤ time_of c
    → FaithfulCall (latest (ends_of fes)) c x → AtCall (IsGenuine (latest (ends_of fes)) df) c x → IsNear (call c x)
    → ((m : M.World) → WasOpened Il m → peer_made Il m ≡ made_of (latest (ends_of fes))
    → Peer Il m x (latest (ends_of fes)))
    → Mapped (x ∷ before) fes di df → OrdWorld (x ∷ before) fes di df → OrdWorld (call c x ∷ before) fes di df
ord-il p c x before fes di df typed timely f g near peers h w =
    let m = machines_as (x ∷ before) fes w.joined di df w.clock_il w.clock_fe in
    let peer = latest (ends_of fes) in
    let q = at-call p df peer Il c x typed h.il_whole.0 g in
    let grown = grown-call p.moves (Comes peer df) c x typed q in
    let who = peers m (not-empty (states before) M.unopened_state) (made-fe fes) in
    let l = ord-any p Il m (passed_count peer) x peer df (FailsAt peer)
    (texts-latest p.texts Fe (ends_of fes) h.fe_whole) (ap (drop df) (sym (made-fe fes)))
    who.rule who.ms who.next who.each c typed f q near grown.set w.il_knows
    record {
      whole = h.il_whole.0;
      closed = w.closed;
      fails = w.fails;
      joined = w.joined;
      clock = w.clock_il;
      within = (let a = w.il_within in omega (arith, a, timely));
      ordered = w.ordered;
      set = refl;
      came = refl;
      red = w.il_knows.red;
    }
    in
    record {
      closed = l.there.closed;
      fails = l.there.fails;
      joined = w.joined;
      clock_il = l.there.clock;
      clock_fe = w.clock_fe;
      ordered =
          subst (λ n. Ordered l.there.closed n (passed_count peer)
          (machines_as (call c x ∷ before) fes w.joined di df l.there.clock w.clock_fe))
          (left-count p x.settings l.ins (call c x) l.there.set l.there.came) l.there.ordered;
      il_within = l.there.within;
      fe_within = w.fe_within;
      il_knows =
          known-left peer who.rule who.ms x (call c x) l.ins who.back l.there.set l.there.came l.there.red l.carry;
      fe_knows = knows-grown x (call c x) peer grown w.fe_knows;
      no_fe = w.no_fe;
      once = w.once;
    }

-- likewise of the field element
ord-fe : (p : Laws) (c : Call) (ils : List EndState) (f : JoinedEnd) (fs : List JoinedEnd) (di df : ℕ) → IsTypedCall c
    → f.end.time ≤ time_of c
    → FaithfulCall (latest ils) c f.end → AtCall (IsGenuine (latest ils) di) c f.end → IsNear (call c f.end)
    → ((m : M.World) → WasOpened Fe m → peer_made Fe m ≡ made_of (latest ils) → Peer Fe m f.end (latest ils))
    → Mapped ils (f ∷ fs) di df
    → OrdWorld ils (f ∷ fs) di df → OrdWorld ils (with_joined ils f (call c f.end) ∷ fs) di df
ord-fe p c ils f fs di df typed timely fc g near peers h w =
    let x = f.end in
    let m = machines_as ils (f ∷ fs) w.joined di df w.clock_il w.clock_fe in
    let peer = latest ils in
    let q = at-call p di peer Fe c x typed h.fe_whole.0 g in
    let grown = grown-call p.moves (Comes peer di) c x typed q in
    let who = peers m (not-empty (served fs) unserved) (made-il ils) in
    let l = ord-any p Fe m (passed_count peer) x peer di (FailsAt peer) (texts-latest p.texts Il ils h.il_whole)
    (ap (drop di) (sym (made-il ils)))
    who.rule who.ms who.next who.each c typed fc q near grown.set w.fe_knows
    record {
      whole = h.fe_whole.0;
      closed = w.closed;
      fails = λ is. turned (w.fails is);
      joined = w.joined;
      clock = w.clock_fe;
      within = (let a = w.fe_within in omega (arith, a, timely));
      ordered = w.ordered;
      set = refl;
      came = refl;
      red = w.fe_knows.red;
    }
    in
    record {
      closed = l.there.closed;
      fails = λ is. turned (l.there.fails is);
      joined = l.there.joined;
      clock_il = w.clock_il;
      clock_fe = l.there.clock;
      ordered =
          subst (λ n. Ordered l.there.closed (passed_count peer) n
          (machines_as ils (with_joined ils f (call c x) ∷ fs) l.there.joined di df w.clock_il l.there.clock))
          (left-count p x.settings l.ins (call c x) l.there.set l.there.came) l.there.ordered;
      il_within = w.il_within;
      fe_within = l.there.within;
      il_knows = knows-grown x (call c x) peer grown w.il_knows;
      fe_knows =
          known-left peer who.rule who.ms x (call c x) l.ins who.back l.there.set l.there.came l.there.red l.carry;
      no_fe = tt;
      once = w.once;
    }

-- openings
knows-opened : (y : EndState) (z : Option EndState) → AtOpened (Known None) z → AtOpened (Known (Some y)) z
knows-opened y None h = tt
knows-opened y (Some z) h =
    record {
      red = h.red;
      carry = all-map (CarriesPdu None) (CarriesPdu (Some y)) (λ p no. absurd no)
          (arrivals z.inputs) h.carry;
    }

new-known : (peer : Option EndState) (side : Side) (s : EndSettings) (first now : ℕ)
    → Known peer (new_end side s first now)
new-known peer side s first now = record { red = refl; carry = tt }

opened-il : EventsLaw → (s : EndSettings) (first now : ℕ) (ils : List EndState) (fes : List JoinedEnd) (di df : ℕ)
    → ils ≡ [] → Opens Il s now (latest ils)
    → OrdWorld ils fes di df
    → OrdWorld (new_end Il s first now ∷ ils) fes 0 (length (made_of (latest (ends_of fes))))
opened-il law s first now (x ∷ xs) fes di df e o w = cc
opened-il law s first now [] fes di df e o w =
    record {
      closed = w.closed;
      fails = λ is. ⊎_elim (λ none. absurd none) (λ f. inr f) (w.fails is);
      joined = w.joined;
      clock_il = now;
      clock_fe = w.clock_fe;
      ordered =
          subst (Ordered w.closed 0 (passed_count (latest (ends_of fes))))
          (open-il s first now [] fes w.joined di df w.clock_il w.clock_fe (legal-of Il s o.fit))
          (ordered law w.closed 0 (passed_count (latest (ends_of fes)))
          (machines_as [] fes w.joined di df w.clock_il w.clock_fe)
          (OpenMachine Il s.connection first now) tt (let a = w.il_within in let b = o.timely in omega (arith, a, b))
          refl w.ordered);
      il_within = omega arith;
      fe_within = w.fe_within;
      il_knows = new-known (latest (ends_of fes)) Il s first now;
      fe_knows = knows-opened (new_end Il s first now) (latest (ends_of fes)) w.fe_knows;
      no_fe = w.no_fe;
      once = (omega arith, w.once.1);
    }

opened-fe : EventsLaw → (s : EndSettings) (first now : ℕ) (ils : List EndState) (fes : List JoinedEnd) (di df : ℕ)
    → fes ≡ []
    → Opens Fe s now (latest (ends_of fes)) → OrdWorld ils fes di df
    → OrdWorld ils (record { end = new_end Fe s first now; joined = None } ∷ fes) (length (made_of (latest ils))) 0
opened-fe law s first now ils (x ∷ xs) di df e o w = cc
opened-fe law s first now ils [] di df e o w =
    record {
      closed = w.closed;
      fails = λ is. ⊎_elim (λ f. inl f) (λ none. absurd none) (w.fails is);
      joined = None;
      clock_il = w.clock_il;
      clock_fe = now;
      ordered =
          subst (Ordered w.closed (passed_count (latest ils)) 0)
          (open-fe s first now ils [] w.joined di df w.clock_il w.clock_fe w.no_fe (legal-of Fe s o.fit))
          (ordered law w.closed (passed_count (latest ils)) 0
          (machines_as ils [] w.joined di df w.clock_il w.clock_fe) (OpenMachine Fe s.connection first now) tt
          (let a = w.fe_within in let b = o.timely in omega (arith, a, b)) refl w.ordered);
      il_within = w.il_within;
      fe_within = omega arith;
      il_knows = knows-opened (new_end Fe s first now) (latest ils) w.il_knows;
      fe_knows = new-known (latest ils) Fe s first now;
      no_fe = tt;
      once = (w.once.0, omega arith);
    }

-- what holds later holds here
near-back : (x y : EndState) → Grown x y → IsNear y → IsNear x
near-back x y g h = (
  near-front x.settings.q [] x.inputs g.more_inputs
      (subst (λ is. QNear x.settings.q [] is) g.inputs (subst (λ (s : EndSettings). QNear s.q [] y.inputs) g.set h.0)),
  timely-front x.settings.t_seq no_wait x.inputs g.more_inputs
      (subst (λ is. NoDeadlineFalls x.settings.t_seq no_wait is) g.inputs
      (subst (λ (s : EndSettings). NoDeadlineFalls s.t_seq no_wait y.inputs) g.set h.1)),
)

pub crossed-il : (x y f : EndState) → y.settings ≡ x.settings → Crossed y f → Crossed x f
crossed-il x y f set h = grind (arith, nat_tests, h.fe_identifier, h.il_identifier)

pub crossed-fe : (g x y : EndState) → y.settings ≡ x.settings → Crossed g y → Crossed g x
crossed-fe g x y set h = grind (arith, nat_tests, h.fe_identifier, h.il_identifier)

ahead-il : (x y : EndState) (f : Option EndState) → Grown x y → Ahead (Some y) f → Ahead (Some x) f
ahead-il x y None g h = record { il_near = near-back x y g h.il_near; fe_near = tt; same_rule = tt; crossed = tt }
ahead-il x y (Some f) g h =
    record {
      il_near = near-back x y g h.il_near;
      fe_near = h.fe_near;
      same_rule = ap rule_of (sym g.set) ∙ h.same_rule;
      crossed =
          crossed-il x y f g.set h.crossed;
    }

ahead-fe : (g : Option EndState) (x y : EndState) → Grown x y → Ahead g (Some y) → Ahead g (Some x)
ahead-fe None x y gr h = record { il_near = tt; fe_near = near-back x y gr h.fe_near; same_rule = tt; crossed = tt }
ahead-fe (Some g) x y gr h =
    record {
      il_near = h.il_near;
      fe_near = near-back x y gr h.fe_near;
      same_rule = h.same_rule ∙ ap rule_of gr.set;
      crossed = crossed-fe g x y gr.set h.crossed;
    }

no-il : (y : EndState) (f : Option EndState) → Ahead (Some y) f → Ahead None f
no-il y None h = record { il_near = tt; fe_near = tt; same_rule = tt; crossed = tt }
no-il y (Some f) h = record { il_near = tt; fe_near = h.fe_near; same_rule = tt; crossed = tt }

no-fe : (g : Option EndState) (y : EndState) → Ahead g (Some y) → Ahead g None
no-fe None y h = record { il_near = tt; fe_near = tt; same_rule = tt; crossed = tt }
no-fe (Some g) y h = record { il_near = h.il_near; fe_near = tt; same_rule = tt; crossed = tt }

abbrev pub AheadOf : List EndState → List JoinedEnd → Type 0
AheadOf ils fes = Ahead (latest ils) (latest (ends_of fes))

-- What holds of the two latest ends after an event of a faithful list holds before it, if it goes back over a call and
-- over an opening.
module _ (p : Laws) (P : Option EndState → Option EndState → Type 0)
    (over-il : (x y : EndState) (f : Option EndState) → Grown x y → P (Some y) f → P (Some x) f)
    (over-fe : (g : Option EndState) (x y : EndState) → Grown x y → P g (Some y) → P g (Some x))
    (before-il : (y : EndState) (f : Option EndState) → P (Some y) f → P None f)
    (before-fe : (g : Option EndState) (y : EndState) → P g (Some y) → P g None) where
  abbrev Stands : World → Type 0
  Stands w = P (latest w.ils) (latest (ends_of w.fes))

  back-open-il : (y : EndState) (ils : List EndState) (f : Option EndState) → ils ≡ [] → P (Some y) f → P (latest ils) f
  back-open-il y [] f e h = before-il y f h
  back-open-il y (x ∷ xs) f e h = cc

  back-open-fe : (y : EndState) (g : Option EndState) (fes : List JoinedEnd) → fes ≡ [] → P g (Some y)
      → P g (latest (ends_of fes))
  back-open-fe y g [] e h = before-fe g y h
  back-open-fe y g (f ∷ fs) e h = cc

  back-call-il : (c : Call) (ils : List EndState) (f peer : Option EndState) (dead : ℕ) → IsTypedCall c
      → AtOpened (GenuineCall peer dead c) (latest ils)
      → P (latest (call_il c ils)) f → P (latest ils) f
  back-call-il c [] f peer dead t g h = h
  back-call-il c (x ∷ before) f peer dead t g h =
      over-il x (call c x) f (grown-call p.moves (IsGenuine peer dead) c x t g.1) h

  back-call-fe : (c : Call) (ils : List EndState) (fes : List JoinedEnd) (g peer : Option EndState) (dead : ℕ)
      → IsTypedCall c
      → AtOpened (GenuineCall peer dead c) (latest (ends_of fes)) → P g (latest (ends_of (call_fe c ils fes)))
      → P g (latest (ends_of fes))
  back-call-fe c ils [] g peer dead t gen h = h
  back-call-fe c ils (f ∷ fs) g peer dead t gen h = grind (arith, nat_tests, grown-call, over-fe, gen.1)

  back-changed : (e : Event) (w : World) → IsTyped e → GenuineEvent e w → FaithfulEvent e w → Stands (change_world e w)
      → Stands w
  back-changed (Open Il s first now) w t g f h =
      back-open-il (new_end Il s first now) w.ils (latest (ends_of w.fes)) f h
  back-changed (Open Fe s first now) w t g f h = back-open-fe (new_end Fe s first now) (latest w.ils) w.fes f h
  back-changed (Calls Il c) w t g f h =
      back-call-il c w.ils (latest (ends_of w.fes)) (latest (ends_of w.fes)) w.dead_fe (typed-call Il c t) g h
  back-changed (Calls Fe c) w t g f h =
      back-call-fe c w.ils w.fes (latest w.ils) (latest w.ils) w.dead_il (typed-call Fe c t) g h

  back-event : (e : Event) (w : World) → IsTyped e → (refusal e w ≡ None → GenuineEvent e w)
      → (refusal e w ≡ None → FaithfulEvent e w) → Stands (apply_event w e)
      → Stands w
  back-event e w t g f = unless (λ v. Stands v → Stands w) (refusal e w) w (change_world e w) (λ h. h)
      (λ ok. back-changed e w t (g ok) (f ok))

  pub back-run : (es : List Event) (w : World) → AreTyped es → Genuine es w → AllFaithful es w → Stands (run es w)
      → Stands w
  back-run [] w t g f h = h
  back-run (e ∷ es) w t g f h = back-event e w t.0 g.0 f.0 (back-run es (apply_event w e) t.1 g.1 f.1 h)

ahead-run : (p : Laws) (es : List Event) (w : World) → AreTyped es → Genuine es w → AllFaithful es w
    → AheadOf (run es w).ils (run es w).fes
    → AheadOf w.ils w.fes
ahead-run p es w t g f h = back-run p Ahead ahead-il ahead-fe no-il no-fe es w t g f h

-- the events
ord-calls-il : (p : Laws) (c : Call) (ils : List EndState) (fes : List JoinedEnd) (di df : ℕ) → IsTypedCall c
    → call_refusal c (latest ils) ≡ None
    → AtOpened (GenuineCall (latest (ends_of fes)) df c) (latest ils)
    → AtOpened (FaithfulCall (latest (ends_of fes)) c) (latest ils) → AheadOf (call_il c ils) fes → AheadOf ils fes
    → Paired ils fes di df
    → OrdWorld ils fes di df → OrdWorld (call_il c ils) fes di df
ord-calls-il p c [] fes di df t ok g f a b k w = cc
ord-calls-il p c (x ∷ before) [] di df t ok g f a b k w =
    ord-il p c x before [] di df t (call-timely c x ok) f g.1 a.il_near (λ m was same. nobody Il m x) k.mapped w
ord-calls-il p c (x ∷ before) (y ∷ fs) di df t ok g f a b k w =
    ord-il p c x before (y ∷ fs) di df t (call-timely c x ok) f g.1 a.il_near
    (λ m was same. somebody p Il Fe m x y.end was same b.same_rule b.crossed.il_identifier b.crossed.fe_identifier
    k.mapped.fe_whole.0) k.mapped w

ord-calls-fe : (p : Laws) (c : Call) (ils : List EndState) (fes : List JoinedEnd) (di df : ℕ) → IsTypedCall c
    → call_refusal c (latest (ends_of fes))
    ≡ None → AtOpened (GenuineCall (latest ils) di c) (latest (ends_of fes))
    → AtOpened (FaithfulCall (latest ils) c) (latest (ends_of fes)) → AheadOf ils (call_fe c ils fes) → AheadOf ils fes
    → Paired ils fes di df
    → OrdWorld ils fes di df → OrdWorld ils (call_fe c ils fes) di df
ord-calls-fe p c ils [] di df t ok g f a b k w = cc
ord-calls-fe p c [] (y ∷ fs) di df t ok g f a b k w =
    ord-fe p c [] y fs di df t (call-timely c y.end ok) f g.1 a.fe_near (λ m was same. nobody Fe m y.end) k.mapped w
ord-calls-fe p c (x ∷ before) (y ∷ fs) di df t ok g f a b k w =
    ord-fe p c (x ∷ before) y fs di df t (call-timely c y.end ok) f g.1 a.fe_near
    (λ m was same. somebody p Fe Il m y.end x was same (sym b.same_rule) b.crossed.fe_identifier b.crossed.il_identifier
    k.mapped.il_whole.0) k.mapped w

abbrev pub OrdAt : World → Type 0
OrdAt w = OrdWorld w.ils w.fes w.dead_il w.dead_fe

ord-changed : (p : Laws) (e : Event) (w : World) → IsTyped e → refusal e w ≡ None → GenuineEvent e w → FaithfulEvent e w
    → AheadOf (change_world e w).ils (change_world e w).fes → AheadOf w.ils w.fes → PairedWorld w → OrdAt w
    → OrdAt (change_world e w)
ord-changed p (Open Il s first now) w t ok g f a b k o =
    opened-il p.events s first now w.ils w.fes w.dead_il w.dead_fe f
    (opens Il s now (latest w.ils) ok) o
ord-changed p (Open Fe s first now) w t ok g f a b k o =
    opened-fe p.events s first now w.ils w.fes w.dead_il w.dead_fe f
    (opens Fe s now (latest (ends_of w.fes)) ok) o
ord-changed p (Calls Il c) w t ok g f a b k o =
    ord-calls-il p c w.ils w.fes w.dead_il w.dead_fe (typed-call Il c t) ok g f a b k o
ord-changed p (Calls Fe c) w t ok g f a b k o =
    ord-calls-fe p c w.ils w.fes w.dead_il w.dead_fe (typed-call Fe c t) ok g f a b k o

ord-event : (p : Laws) (e : Event) (w : World) → IsTyped e → (refusal e w ≡ None → GenuineEvent e w)
    → (refusal e w ≡ None → FaithfulEvent e w)
    → AheadOf (apply_event w e).ils (apply_event w e).fes → AheadOf w.ils w.fes → PairedWorld w → OrdAt w
    → OrdAt (apply_event w e)
ord-event p e w t g f a b k o =
    unless (λ v. AheadOf v.ils v.fes → OrdAt v) (refusal e w) w (change_world e w) (λ _. o)
    (λ ok a. ord-changed p e w t ok (g ok) (f ok) a b k o) a

pub ord-run : (p : Laws) (es : List Event) (w : World) → AreTyped es → Genuine es w → AllFaithful es w
    → AheadOf (run es w).ils (run es w).fes
    → PairedWorld w → OrdAt w → OrdAt (run es w)
ord-run p [] w t g f a k o = o
ord-run p (e ∷ es) w t g f a k o =
    let next = ahead-run p es (apply_event w e) t.1 g.1 f.1 a in
    let here = ahead-run p (e ∷ es) w t g f a in
    ord-run p es (apply_event w e) t.1 g.1 f.1 a (paired-event p e w t.0 g.0 k)
    (ord-event p e w t.0 g.0 f.0 next here k o)

pub ord-start : OrdAt start
ord-start = grind (arith, nat_tests)
