-- Machines that receive each other's PDUs in order, and an end during a call in which it does.
use Rattle.stack_engine.proofs.Words.{[], after, after_along, all_heard_by_fe, all_heard_by_il, AllByRecursion, answered, ap, append-nil, append_assoc, AreFrom}
use Rattle.stack_engine.proofs.Words.{arith, arrivals, arrivals_of, Arrive, arrive_octets, AtCall, AtInput, AtParts, Bool, by_cond, by_test, Call, call, Closes}
use Rattle.stack_engine.proofs.Words.{CodeRule, cond, connection_of, Datagram, Deliver, did, drop, EndSettings, EndState, eqb-true}
use Rattle.stack_engine.proofs.Words.{EventsLaw, false, Fe, first_missing, first_parts, FirstMissingLaw, goes_on, Guard, guard, GuardHolds, Guards, handed_up}
use Rattle.stack_engine.proofs.Words.{has_close, has_number, heard, heard_as, heard_by_fe, heard_by_il, Hears, Il, InitDone, inl, InOrder, InOrderEvent, Input}
use Rattle.stack_engine.proofs.Words.{inr, is_close, is_shut, is_stranger, judge_units, Leaves, leaves, Leaving, length, length-append, List, Made}
use Rattle.stack_engine.proofs.Words.{made_of, Masking, process_event, Move, move, nat_tests, NextArrival, no_wait, NoDeadlineFalls, None, Ok, OneMoreLaw}
use Rattle.stack_engine.proofs.Words.{Option, packed, packed_up_to, Part, part_step, part_under, parts_step, parts_passed_along, parts_passed, Put, QNear, input_step}
use Rattle.stack_engine.proofs.Words.{red_opened, RedTick, refl, rule_of, safe_seen, seen_by, Send, Sends, sends, Settings, settle, Side, Some, State, subst}
use Rattle.stack_engine.proofs.Words.{suc, sym, take, Tick, tick, Ticks, true, unit_text, unwrap_or, upper_of, Wait, wait_after, with_input, with_machine}
use Rattle.stack_engine.proofs.Words.{with_session, zero, ℕ, ⊎_elim, ◌&&◌, ◌++◌, ◌+◌, ◌<◌, ◌==◌, ◌^◌, ◌||◌, ◌∙◌, ◌∷◌, ◌≡◌, ◌≢◌, ◌≤◌, ◌⊎◌}
use Rattle.stack_engine.proofs.Words.{can_pack, fields_kept, finished-is, finish_turn, guard_step, guarded-is, may-pack, packed-is, pack_turn, part-is, put_done, put_into, queued-is, queue_turn, step, tick_step, ticked-is}
use Rattle.safe_machine.specs.World.Event.{Close, Tick as TickMachine}
use Rattle.stack_engine.proofs.one.Received.{Fails, fails-more, fails-move, fates, OctetsUp, Whole, whole-keeps}
use Rattle.stack_engine.proofs.one.Sent.{IsTypedInput, Keeps, Laws}
use Rattle.stack_engine.proofs.two.Machines.{at-now, Comes, fe_at, genuine-heard, GenuineMove, il_at, joined_after, move_time, own-same, peer-same, rule-same}
use Rattle.stack_engine.proofs.two.Machines.{TextsOf}
use Rattle.stack_engine.proofs.two.JointSessions.{eqb-same}
use Rattle.safe_machine.specs.World as M

-- the PDU with this index has these bytes
abbrev pub IsNth : CodeRule → List Made → ℕ → List ℕ → Type 0
IsNth rule ms n octets = (m : Made) × (later : List Made) × (drop n ms ≡ m ∷ later) × (octets ≡ upper_of rule m)

abbrev pub Numbered : CodeRule → List Made → ℕ → List Part → Type 0
Numbered rule ms n [] = Unit {0}
Numbered rule ms n (p ∷ ps) = IsNth rule ms n p.1 × Numbered rule ms (suc n) ps

numbered-append : (r : CodeRule) (ms : List Made) (n : ℕ) (ps qs : List Part) → Numbered r ms n ps
    → Numbered r ms (n + length ps) qs
    → Numbered r ms n (ps ++ qs)
numbered-append r ms n [] qs h k = subst (λ i. Numbered r ms i qs) (omega arith) k
numbered-append r ms n (p ∷ ps) qs h k =
    (h.0, numbered-append r ms (suc n) ps qs h.1 (subst (λ i. Numbered r ms i qs) (omega arith) k))

pub numbered-behind : (r : CodeRule) (ms : List Made) (n : ℕ) (ps qs : List Part) → Numbered r ms n (ps ++ qs)
    → Numbered r ms (n + length ps) qs
numbered-behind r ms n [] qs h = subst (λ i. Numbered r ms i qs) (omega arith) h
numbered-behind r ms n (p ∷ ps) qs h =
    subst (λ i. Numbered r ms i qs) (omega arith) (numbered-behind r ms (suc n) ps qs h.1)

-- what arrived carries the PDU under its number
abbrev pub Carry : CodeRule → List Made → Part → Type 0
Carry r ms p = IsNth r ms p.0 p.1

pub found : (r : CodeRule) (ms : List Made) (k : ℕ) (arrived : List Part) → has_number k arrived ≡ true
    → AllByRecursion (Carry r ms) arrived
    → IsNth r ms k (unwrap_or (part_under k arrived) [])
found r ms k [] has h = cc
found r ms k (p ∷ ps) has h =
    by_test (λ b. (p.0 == k) ≡ b → (b || has_number k ps) ≡ true
    → IsNth r ms k (unwrap_or (cond b (Some p.1) (part_under k ps)) [])) (p.0 == k)
    (λ is _ _. subst (λ n. IsNth r ms n p.1) (eqb-true p.0 k is) h.0) (λ _ _ more. found r ms k ps more h.1) refl has

pub length-first : (m : ℕ) (arrived : List Part) → length (first_parts m arrived) ≡ m
length-first zero arrived = refl
length-first (suc m) arrived = grind (arith, length-first m arrived, length-append)

first-numbered : (r : CodeRule) (ms : List Made) (m : ℕ) (arrived : List Part)
    → ((k : ℕ) → k < m → has_number k arrived ≡ true)
    → AllByRecursion (Carry r ms) arrived → Numbered r ms 0 (first_parts m arrived)
first-numbered r ms zero arrived has h = tt
first-numbered r ms (suc m) arrived has h =
    numbered-append r ms 0 (first_parts m arrived) ((m, unwrap_or (part_under m arrived) []) ∷ [])
    (first-numbered r ms m arrived (λ k lt. has k (omega (arith, lt))) h) (
      subst (λ i. IsNth r ms i (unwrap_or (part_under m arrived) []))
          (let e = length-first m arrived in omega (arith, e))
          (found r ms m arrived (has m (omega arith)) h),
      tt,
    )

pub arrivals-push : (is : List Input) (i : Input) → arrivals (is ++ i ∷ []) ≡ arrivals is ++ arrivals_of i
arrivals-push [] i = append-nil (arrivals_of i)
arrivals-push (j ∷ is) i = ap (λ ps. arrivals_of j ++ ps) (arrivals-push is i)
    ∙ sym (append_assoc (arrivals_of j) (arrivals is) (arrivals_of i))

-- The parts that go up at one input more are numbered on.
pub red-numbered : Masking → FirstMissingLaw → OneMoreLaw
    → (r : CodeRule) (ms : List Made) (q t_seq : ℕ) (is : List Input) (i : Input)
    → QNear q [] (is ++ i ∷ []) → NoDeadlineFalls t_seq no_wait (is ++ i ∷ [])
    → AllByRecursion (Carry r ms) (arrivals (is ++ i ∷ []))
    → Numbered r ms (length (parts_passed_along is (red_opened q t_seq)))
    (parts_passed i (after_along is (red_opened q t_seq)))
red-numbered masking missing more r ms q t_seq is i near timely carry =
    let r0 = red_opened q t_seq in
    let all = arrivals (is ++ i ∷ []) in
    let whole : Numbered r ms 0 (parts_passed_along (is ++ i ∷ []) r0) =
    subst (λ ps. Numbered r ms 0 ps) (sym (masking q t_seq (is ++ i ∷ []) near timely))
    (first-numbered r ms (first_missing all) all (missing all).0.all_below carry)
    in
    subst (λ n. Numbered r ms n (parts_passed i (after_along is r0))) (omega arith)
    (numbered-behind r ms 0 (parts_passed_along is r0) (parts_passed i (after_along is r0))
    (subst (λ ps. Numbered r ms 0 ps) (more is i r0).1 whole))

-- prefixes of a list of inputs are near, too
pub near-front : (q : ℕ) (before : List Part) (is js : List Input) → QNear q before (is ++ js) → QNear q before is
near-front q before [] js h = tt
near-front q before (i ∷ is) js h = (h.0, near-front q (before ++ arrivals_of i) is js h.1)

pub timely-front : (t_seq : ℕ) (w : Wait) (is js : List Input) → NoDeadlineFalls t_seq w (is ++ js)
    → NoDeadlineFalls t_seq w is
timely-front t_seq w [] js h = tt
timely-front t_seq w (i ∷ is) js h = (h.0, timely-front t_seq (wait_after i w) is js h.1)

-- a PDU made bears the end's identifiers
pub bear-nth : (s : Settings) (ms : List Made) (n : ℕ) (m : Made) (later : List Made) → AreFrom s ms
    → drop n ms ≡ m ∷ later
    → (m.pdu.receiver ≡ s.peer) × (m.pdu.sender ≡ s.own)
bear-nth s [] zero m later h e = cc
bear-nth s [] (suc n) m later h e = cc
bear-nth s (x ∷ ms) zero m later h e = let is : x ≡ m =
    cc in subst (λ (y : Made). (y.pdu.receiver ≡ s.peer) × (y.pdu.sender ≡ s.own)) is h.0
bear-nth s (x ∷ ms) (suc n) m later h e = bear-nth s ms n m later h.1 e

-- Worlds of machines that a list of events in order leads to, with how many PDUs came to each.
pub record Ordered (closed : Bool) (il fe : ℕ) (m : M.World) : Type 0 where
  pub events : List M.Event
  pub genuine : M.Genuine events M.start
  pub timely : M.Timely events M.start
  pub in_order : InOrder 0 0 events M.start
  pub heard_il : all_heard_by_il events 0 ≡ il
  pub heard_fe : all_heard_by_fe events 0 ≡ fe
  pub closes : has_close events ≡ closed
  pub leads : M.run events M.start ≡ m

-- one of these events is a closing
abbrev pub closed_by : M.Event → Bool → Bool
closed_by (Close side reason detail now) c = true
closed_by _ c = c

closed-more : (e : M.Event) (c : Bool) → cond c true (is_close e) ≡ closed_by e c
closed-more e c = grind (arith, nat_tests)

pub ordered : EventsLaw → (c : Bool) (il fe : ℕ) (m : M.World) (e : M.Event) → M.GenuineEvent m e → M.TimelyEvent m e
    → InOrderEvent il fe m e
    → Ordered c il fe m → Ordered (closed_by e c) (heard_by_il e il) (heard_by_fe e fe) (M.apply_event m e)
ordered law c il fe m e g t o h =
    let one = law h.events e in
    record {
      events = h.events ++ e ∷ [];
      genuine = one.genuine M.start h.genuine (subst (λ w. M.GenuineEvent w e) (sym h.leads) g);
      timely = one.timely M.start h.timely (subst (λ w. M.TimelyEvent w e) (sym h.leads) t);
      in_order =
          one.in_order 0 0 M.start h.in_order
          (subst (λ n. InOrderEvent n (all_heard_by_fe h.events 0) (M.run h.events M.start) e) (sym h.heard_il)
          (subst (λ n. InOrderEvent il n (M.run h.events M.start) e) (sym h.heard_fe)
          (subst (λ w. InOrderEvent il fe w e) (sym h.leads) o)));
      closes = one.closes ∙ closed-more e (has_close h.events) ∙ ap (closed_by e) h.closes;
      heard_il = one.il_heard 0 ∙ ap (heard_by_il e) h.heard_il;
      heard_fe = one.fe_heard 0 ∙ ap (heard_by_fe e) h.heard_fe;
      leads = one.leads M.start ∙ ap (λ w. M.apply_event w e) h.leads;
    }

-- by side
abbrev pub at_side : Side → State → Option ℕ → ℕ → M.World → M.World
at_side Il s q clock m = il_at s clock m
at_side Fe s q clock m = fe_at s q clock m

abbrev pub OrderedBy : Side → Bool → ℕ → ℕ → M.World → Type 0
OrderedBy Il c n k m = Ordered c n k m
OrderedBy Fe c n k m = Ordered c k n m

-- a leaving is a closing
abbrev pub closed_more : Move → Bool → Bool
closed_more (Leaves reason detail now) c = true
closed_more _ c = c

abbrev pub peer_made : Side → M.World → List Made
peer_made Il m = m.fe.made
peer_made Fe m = m.il.made

abbrev pub peer_dead : Side → M.World → ℕ
peer_dead Il m = m.dead_fe
peer_dead Fe m = m.dead_il

abbrev pub WasOpened : Side → M.World → Type 0
WasOpened Il m = m.il_before ≢ []
WasOpened Fe m = m.fe_before ≢ []

-- what order requires of a move
abbrev pub OrderedMove : Side → M.World → ℕ → State → Move → Type 0
OrderedMove side m n s (Guards now) = GuardHolds s now
OrderedMove side m n s (Ticks now) = GuardHolds s now
OrderedMove side m n s (Hears p now) = WasOpened side m × NextArrival s p now n (peer_made side m)
OrderedMove side m n s _ = Unit {0}

abbrev pub heard_more : Move → ℕ → ℕ
heard_more (Hears p now) n = n + 1
heard_more _ n = n

abbrev pub next_joined : Side → State → State → Option ℕ → M.World → Option ℕ
next_joined Il s t q m = q
next_joined Fe s t q m = joined_after s t q m

pub side-moves : EventsLaw → (side : Side) (m : M.World) (s : State) (q : Option ℕ) (c : Bool) (clock n k : ℕ)
    (mv : Move) → clock ≤ move_time mv
    → GenuineMove s (drop (peer_dead side m) (peer_made side m)) mv → OrderedMove side m n s mv
    → OrderedBy side c n k (at_side side s q clock m) → OrderedBy side (closed_more mv c) (heard_more mv n) k
    (at_side side (move mv s) (next_joined side s (move mv s) q m) (move_time mv) m)
side-moves law Il m s q c clock n k (Guards now) t g o h = ordered law c n k (il_at s clock m) (Guard Il now) tt t o h
side-moves law Il m s q c clock n k (Hears p now) t g o h =
    ordered law c n k (il_at s clock m) (Arrive Il p now) g t o h
side-moves law Il m s q c clock n k (Ticks now) t g o h =
    ordered law c n k (il_at s clock m) (TickMachine Il now) tt t o h
side-moves law Il m s q c clock n k (Sends unit now) t g o h =
    ordered law c n k (il_at s clock m) (Send Il unit now) tt t tt h
side-moves law Il m s q c clock n k (Leaves reason detail now) t g o h =
    ordered law c n k (il_at s clock m) (Close Il reason detail now) tt t tt h
side-moves law Fe m s q c clock n k (Guards now) t g o h = ordered law c k n (fe_at s q clock m) (Guard Fe now) tt t o h
side-moves law Fe m s q c clock n k (Hears p now) t g o h =
    ordered law c k n (fe_at s q clock m) (Arrive Fe p now) g t o h
side-moves law Fe m s q c clock n k (Ticks now) t g o h =
    ordered law c k n (fe_at s q clock m) (TickMachine Fe now) tt t o h
side-moves law Fe m s q c clock n k (Sends unit now) t g o h =
    ordered law c k n (fe_at s q clock m) (Send Fe unit now) tt t tt h
side-moves law Fe m s q c clock n k (Leaves reason detail now) t g o h =
    ordered law c k n (fe_at s q clock m) (Close Fe reason detail now) tt t tt h

-- the peer's PDU with this index, as the end reads it
pub record Next (side : Side) (m : M.World) (s : EndSettings) (n : ℕ) (octets : List ℕ) : Type 0 where
  pub made : Made
  pub later : List Made
  pub there : drop n (peer_made side m) ≡ made ∷ later
  pub seen : safe_seen (rule_of s) octets ≡ Ok made.pdu
  pub receiver : made.pdu.receiver ≡ s.connection.own
  pub sender : made.pdu.sender ≡ s.connection.peer
  pub opened : WasOpened side m

-- the end during a call: the inputs `ins` and `n` parts were processed
pub record OrdEnd (side : Side) (m : M.World) (k : ℕ) (s : EndSettings) (now : ℕ) (peer_fails : Type 0)
    (ins : List Input) (n : ℕ) (y : EndState) : Type 0 where
  pub whole : Whole side y
  pub closed : Bool
  pub fails : closed ≡ true → Fails y ⊎ peer_fails
  pub joined : Option ℕ
  pub clock : ℕ
  pub within : clock ≤ now
  pub ordered : OrderedBy side closed n k (at_side side y.machine joined clock m)
  pub set : y.settings ≡ s
  pub came : y.inputs ≡ ins
  pub red : y.red ≡ after_along ins (red_opened s.q s.t_seq)

-- what is required of a part
abbrev pub Faithfully : Option EndState → ℕ → ℕ → EndState → List ℕ → Type 0
Faithfully peer dead now y octets = GuardHolds y.machine now × Comes peer dead y octets

module _ (laws : Laws) (side : Side) (m : M.World) (k : ℕ) (s : EndSettings) (now : ℕ) (peer : Option EndState)
    (dead : ℕ) (F : Type 0)
    (texts : TextsOf peer)
    (live : drop dead (made_of peer) ≡ drop (peer_dead side m) (peer_made side m))
    (r : CodeRule) (ms : List Made) (next : (n : ℕ) (octets : List ℕ) → IsNth r ms n octets
    → Next side m s n octets) where
  abbrev pub P : List Input → ℕ → EndState → Type 0
  P = OrdEnd side m k s now F

  kw : Keeps now OctetsUp (Whole side)
  kw = whole-keeps laws side now

  -- only the machine
  p-move : (ins : List Input) (n : ℕ) (mv : Move) (x y : EndState) → move_time mv ≡ now → heard_more mv n ≡ n
      → ((c : Bool) → closed_more mv c ≡ c)
      → GenuineMove x.machine (drop (peer_dead side m) (peer_made side m)) mv → OrderedMove side m n x.machine mv
      → Whole side y → y.machine ≡ move mv x.machine → y.session.history.ended_in ≡ x.session.history.ended_in
      → y.settings ≡ x.settings
      → y.inputs ≡ x.inputs → y.red ≡ x.red → P ins n x → P ins n y
  p-move ins n mv x y t same closed-same g o whole e ended set ins-same red h =
      let j = next_joined side x.machine (move mv x.machine) h.joined m in
      let there : OrderedBy side h.closed n k (at_side side (move mv x.machine) j now m) =
      subst (λ b. OrderedBy side b n k (at_side side (move mv x.machine) j now m)) (closed-same h.closed)
      (subst (λ i. OrderedBy side (closed_more mv h.closed) i k (at_side side (move mv x.machine) j now m)) same
      (subst (λ c. OrderedBy side (closed_more mv h.closed) (heard_more mv n) k
      (at_side side (move mv x.machine) j c m)) t
      (side-moves laws.events side m x.machine h.joined h.closed h.clock n k mv
      (subst (λ c. h.clock ≤ c) (sym t) h.within) g o h.ordered)))
      in
      record {
        whole = whole;
        closed = h.closed;
        fails = λ is. ⊎_elim (λ f. inl (fails-move laws.moves mv x y e ended f)) (λ f. inr f) (h.fails is);
        joined = j;
        clock = now;
        within = at-now now;
        ordered = subst (λ u. OrderedBy side h.closed n k (at_side side u j now m)) (sym e) there;
        set = set ∙ h.set;
        came = ins-same ∙ h.came;
        red = red ∙ h.red;
      }

  p-same : (ins : List Input) (n : ℕ) (x y : EndState) → Whole side y → y.machine ≡ x.machine
      → y.session.history.ended_in ≡ x.session.history.ended_in → y.settings ≡ x.settings → y.inputs ≡ x.inputs
      → y.red ≡ x.red → P ins n x → P ins n y
  p-same ins n x y whole e ended set ins-same red h =
      record {
        whole = whole;
        closed = h.closed;
        fails =
            λ is. ⊎_elim (λ f. inl (fails-more x y [] (ap (λ (t : State). t.taken) e ∙ sym (append-nil x.machine.taken))
            ended f)) (λ f. inr f)
            (h.fails is);
        joined = h.joined;
        clock = h.clock;
        within = h.within;
        ordered = subst (λ u. OrderedBy side h.closed n k (at_side side u h.joined h.clock m)) (sym e) h.ordered;
        set = set ∙ h.set;
        came = ins-same ∙ h.came;
        red = red ∙ h.red;
      }

  p-settle : (ins : List Input) (n : ℕ) (y : EndState) → P ins n y → P ins n (settle y)
  p-settle ins n y h =
      by_cond (P ins n) (is_shut y) (with_session (process_event Closes y.session) y) y
      (λ shut. p-same ins n y (with_session (process_event Closes y.session) y) (kw.ends y shut h.whole) refl refl refl
      refl refl h) (λ _. h)

  -- the end may disconnect after it has processed a part
  p-left : (ins : List Input) (n : ℕ) (why : Option Leaving) (y : EndState) (c : Bool) (j : Option ℕ)
      → (c ≡ true → Fails y ⊎ F)
      → ((w : Leaving) → why ≡ Some w → Fails y) → OrderedBy side c n k (at_side side y.machine j now m)
      → y.settings ≡ s → y.inputs ≡ ins
      → y.red ≡ after_along ins (red_opened s.q s.t_seq) → Whole side (leaves now why y) → P ins n (leaves now why y)
  p-left ins n None y c j fails bad o set came red whole =
      record {
        whole = whole;
        closed = c;
        fails = fails;
        joined = j;
        clock = now;
        within = at-now now;
        ordered = o;
        set = set;
        came = came;
        red = red;
      }
  p-left ins n (Some why) y c j fails bad o set came red whole =
      let mv = Leaves why.0 why.1 now in
      record {
        whole = whole;
        closed = true;
        fails = λ _. inl (fails-move laws.moves mv y (leaves now (Some why) y) refl refl (bad why refl));
        joined = next_joined side y.machine (move mv y.machine) j m;
        clock = now;
        within = at-now now;
        ordered = side-moves laws.events side m y.machine j c now n k mv (at-now now) tt tt o;
        set = set;
        came = came;
        red = red;
      }

  -- a part that is the next PDU
  p-answered : (ins : List Input) (n : ℕ) (octets : List ℕ) (x : EndState) → Faithfully peer dead now x octets
      → IsNth r ms n octets → P ins n x
      → Whole side (heard now octets x) → P ins (n + 1) (heard now octets x)
  p-answered ins n octets x q nth h whole =
      let a : Next side m s n octets = next n octets nth in
      let s1 = arrive_octets octets now x.machine in
      let y = answered octets x s1 in
      let same : x.machine.settings ≡ connection_of side s = h.whole.machined.same ∙ ap (connection_of side) h.set in
      let rule : x.machine.settings.rule ≡ rule_of s = ap (λ (c : Settings). c.rule) same ∙ rule-same side s in
      let seen : seen_by x.machine octets ≡ Ok a.made.pdu = ap (λ (c : CodeRule). safe_seen c octets) rule ∙ a.seen in
      let own : a.made.pdu.receiver ≡ x.machine.settings.own = a.receiver
      ∙ sym (ap (λ (c : Settings). c.own) same ∙ own-same side s) in
      let its : a.made.pdu.sender ≡ x.machine.settings.peer = a.sender
      ∙ sym (ap (λ (c : Settings). c.peer) same ∙ peer-same side s) in
      let ours : is_stranger x.machine a.made.pdu ≡ false =
      ap (λ b. cond (b && (a.made.pdu.sender == x.machine.settings.peer)) false true)
      (ap (λ i. i == x.machine.settings.own) own ∙ eqb-same x.machine.settings.own)
      ∙ ap (λ b. cond b false true) (ap (λ i. i == x.machine.settings.peer) its ∙ eqb-same x.machine.settings.peer)
      in
      let g : GenuineMove x.machine (drop (peer_dead side m) (peer_made side m)) (Hears a.made.pdu now) =
      subst (λ l. GenuineMove x.machine l (Hears a.made.pdu now)) live
      (genuine-heard laws side x peer dead now octets h.whole.machined.same texts q.1.1 (Ok a.made.pdu) seen)
      in
      let mv = Hears a.made.pdu now in
      let j = next_joined side x.machine (move mv x.machine) h.joined m in
      let there : OrderedBy side h.closed (n + 1) k (at_side side (move mv x.machine) j now m) =
      side-moves laws.events side m x.machine h.joined h.closed h.clock n k mv h.within g
      (a.opened, record { made = a.made; later = a.later; at = a.there; is = refl; ours = ours; holds = q.0 }) h.ordered
      in
      let fate = fates laws now octets x h.whole.heeds in
      p-left ins (n + 1) (judge_units (handed_up x s1) x.session).leaving y h.closed j
      (λ is. ⊎_elim (λ f. inl (fate.still f)) (λ f. inr f) (h.fails is))
      fate.leaves
      (subst (λ d. OrderedBy side h.closed (n + 1) k (at_side side (move (heard_as d now) x.machine) j now m))
      (sym seen) there) h.set h.came h.red whole

  p-part : (ins : List Input) (n : ℕ) (octets : List ℕ) (x : EndState) → Faithfully peer dead now x octets
      → IsNth r ms n octets → P ins n x
      → P ins (n + 1) (part_step now octets x)
  p-part ins n octets x q nth h =
      subst (P ins (n + 1)) (sym (part-is now octets x)) (p-settle ins (n + 1) (heard now octets x)
      (p-answered ins n octets x q nth h (kw.hears octets x q.1.0 h.whole)))

  p-parts : (ins : List Input) (n : ℕ) (ps : List Part) (x : EndState) → AtParts (Faithfully peer dead now) now ps x
      → Numbered r ms n ps → P ins n x
      → P ins (n + length ps) (parts_step now ps x)
  p-parts ins n [] x q num h = subst (λ i. P ins i x) (omega arith) h
  p-parts ins n (p ∷ ps) x q num h =
      subst (λ i. P ins i (parts_step now ps (part_step now p.1 x))) (omega arith)
      (p-parts ins (n + 1) ps (part_step now p.1 x) q.1 (subst (λ i. Numbered r ms i ps) (omega arith) num.1)
      (p-part ins n p.1 x q.0 num.0 h))

  p-packed : (ins : List Input) (n fuel : ℕ) (x : EndState) → P ins n x → P ins n (packed_up_to fuel now x)
  p-packed ins n zero x h = h
  p-packed ins n (suc fuel) x h =
      by_cond (P ins n) (can_pack (fields_kept x)) (packed_up_to fuel now (step (pack_turn now) x)) x (λ can.
      let may = may-pack x can in
      subst (λ (z : EndState). P ins n (packed_up_to fuel now z)) (sym (packed-is now x))
      (p-packed ins n fuel (packed now x)
      (p-move ins n (Sends (unit_text (take x.settings.n_maxpacket x.session.waiting)) now) x (packed now x) refl refl
      (λ c. refl) tt tt
      (kw.sends x may.0 may.1 h.whole) refl refl refl refl refl h)))
      (λ _. h)

  -- one input more
  p-input : (ins : List Input) (n : ℕ) (i : Input) (x : EndState) → IsTypedInput i → P ins n x
      → P (ins ++ i ∷ []) n (with_input i x)
  p-input ins n i x t h =
      record {
        whole = kw.inputs i x t h.whole;
        closed = h.closed;
        fails = h.fails;
        joined = h.joined;
        clock = h.clock;
        within = h.within;
        ordered = h.ordered;
        set = h.set;
        came = ap (λ js. js ++ i ∷ []) h.came;
        red = ap (after i) h.red ∙ sym (laws.more ins i (red_opened s.q s.t_seq)).0;
      }

  -- how many parts went up by now
  abbrev pub passed : List Input → ℕ
  passed ins = length (parts_passed_along ins (red_opened s.q s.t_seq))

  -- the end after a call
  pub record Left (x : EndState) : Type 0 where
    pub ins : List Input
    pub there : P ins (passed ins) x
    pub carry : AllByRecursion (Carry r ms) (arrivals ins)

  abbrev pub Numbers : List Input → Input → Type 0
  Numbers ins i = Numbered r ms (passed ins) (parts_passed i (after_along ins (red_opened s.q s.t_seq)))
      × AllByRecursion (Carry r ms) (arrivals (ins ++ i ∷ []))

  passed-push : (ins : List Input) (i : Input)
      → passed ins + length (parts_passed i (after_along ins (red_opened s.q s.t_seq))) ≡ passed (ins ++ i ∷ [])
  passed-push ins i = grind (arith, (laws.more ins i (red_opened s.q s.t_seq)).1, length-append)

  p-goes_on : (ins : List Input) (i : Input) (x : EndState) → IsTypedInput i
      → AtInput (Faithfully peer dead now) now i x
      → (is_shut x ≡ false → Numbers ins i) → AllByRecursion (Carry r ms) (arrivals ins) → P ins (passed ins) x
      → Left (goes_on now i x)
  p-goes_on ins i x t q num carry h =
      by_test (λ b. is_shut x ≡ b → Left (cond b x (sends now (input_step now i x)))) (is_shut x)
      (λ _ _. record { ins = ins; there = h; carry = carry })
      (λ on _.
      let y : EndState = input_step now i x in
      let ps = parts_passed i x.red in
      let same : ps ≡ parts_passed i (after_along ins (red_opened s.q s.t_seq)) = ap (parts_passed i) h.red in
      let heard-all : P (ins ++ i ∷ []) (passed ins + length ps) y =
      p-parts (ins ++ i ∷ []) (passed ins) ps (with_input i x) (q on)
      (subst (λ l. Numbered r ms (passed ins) l) (sym same) (num on).0)
      (p-input ins (passed ins) i x t h)
      in
      record {
        ins = ins ++ i ∷ [];
        there =
            p-packed (ins ++ i ∷ []) (passed (ins ++ i ∷ [])) (length y.session.waiting) y
            (subst (λ j. P (ins ++ i ∷ []) j y) (ap (λ l. passed ins + length l) same ∙ passed-push ins i) heard-all);
        carry = (num on).1;
      })
      refl

  p-timed : (x : EndState) → Left x → Left (record x { time = now })
  p-timed x h =
      record {
        ins = h.ins;
        carry = h.carry;
        there = p-same h.ins (passed h.ins) x (record x { time = now }) (kw.times x h.there.whole) refl refl refl refl
            refl h.there;
      }

  -- what a call requires of the numbers of its parts
  abbrev pub Counts : List Input → Call → EndState → Type 0
  Counts ins (Tick t) x = is_shut x ≡ false → is_shut (tick_step t x) ≡ false → Numbers ins (RedTick t)
  Counts ins (Deliver channel octets t) x =
      is_shut x ≡ false → is_shut (guard_step t x) ≡ false → Numbers ins (Datagram octets t)
  Counts ins c x = Unit {0}

  pub ord-put : (kind : ℕ) (payload : List ℕ) (ins : List Input) (x : EndState) → kind < 256 ^ 2
      → AllByRecursion (Carry r ms) (arrivals ins)
      → P ins (passed ins) x → Left (call (Put kind payload now) x)
  ord-put kind payload ins x fits carry h =
      let y : EndState = step (queue_turn kind payload) x in
      let queued : P ins (passed ins) y = subst (P ins (passed ins)) (sym (queued-is kind payload x))
      (p-same ins (passed ins) x (put_into kind payload x) (kw.puts kind payload x fits h.whole) refl refl refl refl
      refl h) in
      p-timed (sends now y)
      (record { ins = ins; carry = carry; there = p-packed ins (passed ins) (length y.session.waiting) y queued })

  pub ord-done : (ins : List Input) (x : EndState) → AllByRecursion (Carry r ms) (arrivals ins) → P ins (passed ins) x
      → Left (call (InitDone now) x)
  ord-done ins x carry h =
      let y : EndState = step finish_turn x in
      let queued : P ins (passed ins) y = subst (P ins (passed ins)) (sym (finished-is x))
      (p-same ins (passed ins) x (put_done x) (kw.dones x h.whole) refl refl refl refl refl h) in
      p-timed (sends now y)
      (record { ins = ins; carry = carry; there = p-packed ins (passed ins) (length y.session.waiting) y queued })

  pub ord-tick : (ins : List Input) (x : EndState) → GuardHolds x.machine now
      → AtCall (Faithfully peer dead now) (Tick now) x → Counts ins (Tick now) x
      → AllByRecursion (Carry r ms) (arrivals ins) → P ins (passed ins) x → Left (call (Tick now) x)
  ord-tick ins x g q num carry h =
      p-timed (did (Tick now) x)
      (by_test (λ b. is_shut x ≡ b → Left (cond b x (goes_on now (RedTick now) (tick_step now x)))) (is_shut x)
      (λ _ _. record { ins = ins; there = h; carry = carry })
      (λ on _.
      p-goes_on ins (RedTick now) (tick_step now x) tt (q on) (num on) carry
      (subst (P ins (passed ins)) (sym (ticked-is now x))
      (p-settle ins (passed ins) (with_machine (tick now x.machine) x)
      (p-move ins (passed ins) (Ticks now) x (with_machine (tick now x.machine) x) refl refl (λ c. refl) tt g
      (kw.ticks x h.whole) refl
      refl refl refl refl h))))
      refl)

  pub ord-deliver : (channel : ℕ) (octets : List ℕ) (ins : List Input) (x : EndState)
      → IsTypedInput (Datagram octets now) → GuardHolds x.machine now
      → AtCall (Faithfully peer dead now) (Deliver channel octets now) x
      → Counts ins (Deliver channel octets now) x → AllByRecursion (Carry r ms) (arrivals ins) → P ins (passed ins) x
      → Left (call (Deliver channel octets now) x)
  ord-deliver channel octets ins x typed g q num carry h =
      p-timed (did (Deliver channel octets now) x)
      (by_test (λ b. is_shut x ≡ b → Left (cond b x (goes_on now (Datagram octets now) (guard_step now x)))) (is_shut x)
      (λ _ _. record { ins = ins; there = h; carry = carry })
      (λ on _.
      p-goes_on ins (Datagram octets now) (guard_step now x) typed (q on) (num on) carry
      (subst (P ins (passed ins)) (sym (guarded-is now x))
      (p-settle ins (passed ins) (with_machine (guard now x.machine) x)
      (p-move ins (passed ins) (Guards now) x (with_machine (guard now x.machine) x) refl refl (λ c. refl) tt g
      (kw.guards x h.whole) refl
      refl refl refl refl h))))
      refl)
