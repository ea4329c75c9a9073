-- The machines of two ends during a call: they stay in a world that a genuine list of machine events leads to, in which
-- no clock goes back.
use Rattle.stack_engine.proofs.Words.{[], AllByRecursion, Among, answered, ap, AreOctets, arith, Arrive, arrive_octets, AtCall, AtInput, AtParts, Bool, by_cond}
use Rattle.stack_engine.proofs.Words.{by_test, bytes_eq, bytes_eq-Decides, Call, Closed, ClosedByUser, CodeRule, cond, connection_of, ConnectionState, Datagram}
use Rattle.stack_engine.proofs.Words.{Deliver, Down, drop, EndSettings, EndState, eqb-true, Err, EventsLaw, false, Fe, GenuineAt, Guard, Guards}
use Rattle.stack_engine.proofs.Words.{handed_up, has_made, HaveTexts, heard, heard_as, Hears, HearsOwn, Il, inl, Input, inr, is_asked_of, is_closed, is_live}
use Rattle.stack_engine.proofs.Words.{is_shut, is_stranger, IsGenuine, joined_by, JoinedEnd, is_joining, judge_units, latest, latest_maker, Leaves, leaves, Leaving}
use Rattle.stack_engine.proofs.Words.{length, List, Made, made_of, Move, move, MovesLaw, nat_tests, None, request_after, Ok, Option, packed, Part, part_step, parts_passed, Pdu}
use Rattle.stack_engine.proofs.Words.{Receiver, RedTick, refl, Result, rule_of, safe_seen, safe_text, SafeFault, seen_by, Send, Sends, Settings, Side}
use Rattle.stack_engine.proofs.Words.{Some, Start, State, subst, suc, sym, take, Tick, Ticks, Timely, TimelyEvent, true, unit_text, Unspecified, upper_of}
use Rattle.stack_engine.proofs.Words.{with_input, zero, ℕ, ◌&&◌, ◌++◌, ◌+◌, ◌==◌, ◌∙◌, ◌∷◌, ◌≡◌, ◌≢◌, ◌≤◌}
use Rattle.stack_engine.proofs.Words.{guard_step, tick_step}
use Rattle.safe_machine.specs.World.{Event, Genuine, GenuineEvent, apply_event, run, start, World}
use Rattle.safe_machine.specs.World.Event.{Close as CloseMachine, Tick as TickMachine}
use Rattle.stack_engine.proofs.one.Received.{OctetPart, OctetsUp, red-keeps, Whole, whole-keeps}
use Rattle.stack_engine.proofs.one.Sent.{and-parts, IsTypedCall, IsTypedInput, Keeps, Laws, same-length}
use Rattle.safe_machine.specs.World as M

pub record Reached (m : World) : Type 0 where
  pub events : List Event
  pub genuine : Genuine events start
  pub timely : Timely events start
  pub leads : run events start ≡ m

-- one event more
pub reached : EventsLaw → (m : World) (e : Event) → GenuineEvent m e → TimelyEvent m e → Reached m
    → Reached (apply_event m e)
reached law m e g t r =
    let one = law r.events e in
    record {
      events = r.events ++ e ∷ [];
      genuine = one.genuine start r.genuine (subst (λ w. GenuineEvent w e) (sym r.leads) g);
      timely = one.timely start r.timely (subst (λ w. TimelyEvent w e) (sym r.leads) t);
      leads = one.leads start ∙ ap (λ w. apply_event w e) r.leads;
    }

-- an end in this state, its clock at this time
abbrev pub il_at : State → ℕ → World → World
il_at s clock m = record m { il = s; clock_il = clock }

abbrev pub fe_at : State → Option ℕ → ℕ → World → World
fe_at s joined clock m = record m { fe = s; joined = joined; clock_fe = clock }

-- what the premise requires of a move
abbrev pub GenuineMove : State → List Made → Move → Type 0
GenuineMove s live (Hears p now) = GenuineAt s p live
GenuineMove s live _ = Unit {0}

abbrev pub move_time : Move → ℕ
move_time (Guards now) = now
move_time (Hears p now) = now
move_time (Ticks now) = now
move_time (Sends unit now) = now
move_time (Leaves reason detail now) = now

pub il-moves : EventsLaw → (m : World) (s : State) (clock : ℕ) (mv : Move) → clock ≤ move_time mv
    → GenuineMove s (drop m.dead_fe m.fe.made) mv
    → Reached (il_at s clock m)
    → Reached (il_at (move mv s) (move_time mv) m)
il-moves law m s clock (Guards now) t g r = reached law (il_at s clock m) (Guard Il now) tt t r
il-moves law m s clock (Hears p now) t g r = reached law (il_at s clock m) (Arrive Il p now) g t r
il-moves law m s clock (Ticks now) t g r = reached law (il_at s clock m) (TickMachine Il now) tt t r
il-moves law m s clock (Sends unit now) t g r = reached law (il_at s clock m) (Send Il unit now) tt t r
il-moves law m s clock (Leaves reason detail now) t g r =
    reached law (il_at s clock m) (CloseMachine Il reason detail now) tt t r

-- to whom the field element is joined after a move
abbrev pub joined_after : State → State → Option ℕ → World → Option ℕ
joined_after s t joined m = cond (is_joining s.connection t.connection) (Some (length m.il_before)) joined

pub fe-moves : EventsLaw → (m : World) (s : State) (joined : Option ℕ) (clock : ℕ) (mv : Move) → clock ≤ move_time mv
    → GenuineMove s (drop m.dead_il m.il.made) mv → Reached (fe_at s joined clock m)
    → Reached (fe_at (move mv s) (joined_after s (move mv s) joined m) (move_time mv) m)
fe-moves law m s joined clock (Guards now) t g r = reached law (fe_at s joined clock m) (Guard Fe now) tt t r
fe-moves law m s joined clock (Hears p now) t g r = reached law (fe_at s joined clock m) (Arrive Fe p now) g t r
fe-moves law m s joined clock (Ticks now) t g r = reached law (fe_at s joined clock m) (TickMachine Fe now) tt t r
fe-moves law m s joined clock (Sends unit now) t g r = reached law (fe_at s joined clock m) (Send Fe unit now) tt t r
fe-moves law m s joined clock (Leaves reason detail now) t g r =
    reached law (fe_at s joined clock m) (CloseMachine Fe reason detail now) tt t r

pub texts-dropped : (n : ℕ) (ms : List Made) → HaveTexts ms → HaveTexts (drop n ms)
texts-dropped zero ms h = h
texts-dropped (suc n) [] h = h
texts-dropped (suc n) (m ∷ ms) h = texts-dropped n ms h.1

-- the bytes of a PDU that was made read as that PDU, also under another rule of that length
pub has-among : Laws → (r s : CodeRule) (octets : List ℕ) (p : Pdu) (ms : List Made) → r.length ≡ s.length
    → safe_seen r octets ≡ Ok p → HaveTexts ms
    → has_made s octets ms ≡ true → Among p ms
has-among law r s octets p [] same read texts h = cc
has-among law r s octets p (m ∷ ms) same read texts h =
    by_test (λ b. bytes_eq octets (upper_of s m) ≡ b → cond b true (has_made s octets ms) ≡ true
    → Among p (m ∷ ms)) (bytes_eq octets (upper_of s m))
    (λ is _ _.
    let spelled : octets ≡ safe_text s m.pdu = (bytes_eq-Decides octets (upper_of s m)).0 is in
    inl (sym (law.alike p m.pdu r s octets same read (ap (safe_seen s) spelled
    ∙ law.complete m.pdu s (safe_text s m.pdu) (texts.0 s)))))
    (λ _ _ more. inr (has-among law r s octets p ms same read texts.1 more))
    refl h

pub not-stranger : (b : Bool) → cond b false true ≡ false → b ≡ true
not-stranger b h = grind (arith, nat_tests)

pub not-shut : (c : ConnectionState) → c ≢ Closed → is_closed c ≡ false
not-shut c h = grind (arith, nat_tests)

-- the settings without their role
pub rule-same : (side : Side) (s : EndSettings) → (connection_of side s).rule ≡ rule_of s
rule-same side s = grind (arith, nat_tests)

pub own-same : (side : Side) (s : EndSettings) → (connection_of side s).own ≡ s.connection.own
own-same side s = grind (arith, nat_tests)

pub peer-same : (side : Side) (s : EndSettings) → (connection_of side s).peer ≡ s.connection.peer
peer-same side s = grind (arith, nat_tests)

-- the peer's PDUs have texts
abbrev pub TextsOf : Option EndState → Type 0
TextsOf peer = HaveTexts (made_of peer)

-- bytes that are live are of a live PDU
pub live-among : Laws → (x : EndState) (peer : Option EndState) (dead : ℕ) (octets : List ℕ) (p : Pdu) → TextsOf peer
    → safe_seen (rule_of x.settings) octets ≡ Ok p
    → is_live x peer dead octets ≡ true → Among p (drop dead (made_of peer))
live-among law x None dead octets p texts read h = cc
live-among law x (Some peer) dead octets p texts read h =
    grind (arith, nat_tests, and-parts, eqb-true, has-among, same-length, texts-dropped)

-- the premise speaks of a PDU with the end's identifiers
pub asked-heard : Laws → (side : Side) (x : EndState) (octets : List ℕ) (p : Pdu)
    → x.machine.settings ≡ connection_of side x.settings
    → seen_by x.machine octets ≡ Ok p
    → is_stranger x.machine p ≡ false → (safe_seen (rule_of x.settings) octets ≡ Ok p) × (is_asked_of x octets ≡ true)
asked-heard law side x octets p same read ours =
    let c = x.settings.connection in
    let rule : x.machine.settings.rule ≡ rule_of x.settings = ap (λ (s : Settings). s.rule) same
    ∙ rule-same side x.settings in
    let own : x.machine.settings.own ≡ c.own = ap (λ (s : Settings). s.own) same ∙ own-same side x.settings in
    let peer : x.machine.settings.peer ≡ c.peer = ap (λ (s : Settings). s.peer) same ∙ peer-same side x.settings in
    let seen : safe_seen (rule_of x.settings) octets ≡ Ok p = ap (λ (r : CodeRule). safe_seen r octets) (sym rule)
    ∙ read in
    let ids : ((p.receiver == c.own) && (p.sender == c.peer)) ≡ true =
    subst (λ n. ((p.receiver == n) && (p.sender == c.peer)) ≡ true) own
    (subst (λ n. ((p.receiver == x.machine.settings.own) && (p.sender == n)) ≡ true) peer (not-stranger _ ours))
    in
    let parts = and-parts (p.receiver == c.own) (p.sender == c.peer) ids in
    let asked = law.read_asked p (rule_of x.settings) c.own c.peer octets seen (eqb-true p.receiver c.own parts.0)
    (eqb-true p.sender c.peer parts.1) in
    (seen, (law.asked (rule_of x.settings) c.own c.peer octets).1 asked)

pub genuine-heard : Laws → (side : Side) (x : EndState) (peer : Option EndState) (dead now : ℕ) (octets : List ℕ)
    → x.machine.settings ≡ connection_of side x.settings → TextsOf peer
    → IsGenuine peer dead x octets → (r : Result Pdu SafeFault) → seen_by x.machine octets ≡ r
    → GenuineMove x.machine (drop dead (made_of peer))
    (heard_as r now)
genuine-heard law side x peer dead now octets same texts g (Err fault) read = tt
genuine-heard law side x peer dead now octets same texts g (Ok p) read = λ listens ours.
    let asked = asked-heard law side x octets p same read ours in
    live-among law x peer dead octets p texts asked.0 (g (not-shut x.machine.connection listens) asked.1)

-- what is required of a part that goes up
abbrev pub Comes : Option EndState → ℕ → EndState → List ℕ → Type 0
Comes peer dead x octets = AreOctets octets × IsGenuine peer dead x octets

-- the peer in the world of machines
pub record PeerIs (peer : Option EndState) (dead : ℕ) (s : State) (n : ℕ) : Type 0 where
  pub made : s.made ≡ made_of peer
  pub same_dead : n ≡ dead
  pub texts : TextsOf peer

pub live-same : (peer : Option EndState) (dead : ℕ) (s : State) (n : ℕ) → PeerIs peer dead s n
    → drop dead (made_of peer) ≡ drop n s.made
live-same peer dead s n h = ap (λ (k : ℕ). drop k (made_of peer)) (sym h.same_dead) ∙ ap (λ ms. drop n ms) (sym h.made)

-- the interlocking during a call
pub record IlAt (m : M.World) (now : ℕ) (x : EndState) : Type 0 where
  pub whole : Whole Il x
  pub clock : ℕ
  pub within : clock ≤ now
  pub reached : Reached (il_at x.machine clock m)

pub at-now : (n : ℕ) → n ≤ n
at-now n = omega arith

il-move : EventsLaw → (m : M.World) (now : ℕ) (mv : Move) (x y : EndState) → move_time mv ≡ now
    → GenuineMove x.machine (drop m.dead_fe m.fe.made) mv
    → Whole Il y → y.machine ≡ move mv x.machine
    → IlAt m now x → IlAt m now y
il-move law m now mv x y t g whole e h =
    record {
      whole = whole;
      clock = now;
      within = at-now now;
      reached = subst (λ s. Reached (il_at s now m)) (sym e)
          (subst (λ n. Reached (il_at (move mv x.machine) n m)) t
          (il-moves law m x.machine h.clock mv (subst (λ n. h.clock ≤ n) (sym t) h.within) g h.reached));
    }

il-same : (m : M.World) (now : ℕ) (x y : EndState) → Whole Il y → y.machine ≡ x.machine → IlAt m now x → IlAt m now y
il-same m now x y whole e h = grind (arith, nat_tests, h.clock, h.reached, h.within)

heard-time : (r : Result Pdu SafeFault) (now : ℕ) → move_time (heard_as r now) ≡ now
heard-time r now = grind (arith, nat_tests)

-- the world of machines after bytes arrived
pub il-heard : Laws → (m : M.World) (peer : Option EndState) (dead now : ℕ) → PeerIs peer dead m.fe m.dead_fe
    → (octets : List ℕ) (x : EndState)
    → Comes peer dead x octets → IlAt m now x
    → Reached (il_at (arrive_octets octets now x.machine) now m)
il-heard laws m peer dead now is octets x q h =
    let r = seen_by x.machine octets in
    let g : GenuineMove x.machine (drop m.dead_fe m.fe.made) (heard_as r now) =
    subst (λ live. GenuineMove x.machine live (heard_as r now)) (live-same peer dead m.fe m.dead_fe is)
    (genuine-heard laws Il x peer dead now octets h.whole.machined.same is.texts q.1 r refl)
    in
    subst (λ n. Reached (il_at (move (heard_as r now) x.machine) n m)) (heard-time r now)
    (il-moves laws.events m x.machine h.clock (heard_as r now)
    (subst (λ n. h.clock ≤ n) (sym (heard-time r now)) h.within) g h.reached)

il-leaves : EventsLaw → (m : M.World) (now : ℕ) (why : Option Leaving) (y : EndState) → Reached (il_at y.machine now m)
    → Whole Il (leaves now why y)
    → IlAt m now (leaves now why y)
il-leaves law m now None y h whole = record { whole = whole; clock = now; within = at-now now; reached = h }
il-leaves law m now (Some why) y h whole =
    record {
      whole = whole;
      clock = now;
      within = at-now now;
      reached = il-moves law m y.machine now (Leaves why.0 why.1 now) (at-now now) tt h;
    }

pub il-keeps : Laws → (m : M.World) (peer : Option EndState) (dead now : ℕ) → PeerIs peer dead m.fe m.dead_fe
    → Keeps now (Comes peer dead) (IlAt m now)
il-keeps laws m peer dead now is =
    let k : Keeps now OctetsUp (Whole Il) = whole-keeps laws Il now in
    record {
      guards = λ x h. il-move laws.events m now (Guards now) x _ refl tt (k.guards x h.whole) refl h;
      ticks = λ x h. il-move laws.events m now (Ticks now) x _ refl tt (k.ticks x h.whole) refl h;
      closes =
          λ x h. il-move laws.events m now (Leaves ClosedByUser Unspecified now) x _ refl tt (k.closes x h.whole) refl
          h;
      ends = λ x shut h. il-same m now x _ (k.ends x shut h.whole) refl h;
      inputs = λ i x t h. il-same m now x _ (k.inputs i x t h.whole) refl h;
      hears = λ octets x q h.
          let s = arrive_octets octets now x.machine in
          il-leaves laws.events m now (judge_units (handed_up x s) x.session).leaving (answered octets x s)
          (il-heard laws m peer dead now is octets x q h) (k.hears octets x q.0 h.whole);
      sends =
          λ x may some h. il-move laws.events m now
          (Sends (unit_text (take x.settings.n_maxpacket x.session.waiting)) now) x (packed now x) refl tt
          (k.sends x may some h.whole) refl h;
      puts = λ kind payload x fits h. il-same m now x _ (k.puts kind payload x fits h.whole) refl h;
      dones = λ x h. il-same m now x _ (k.dones x h.whole) refl h;
      times = λ x h. il-same m now x _ (k.times x h.whole) refl h;
    }

-- the field element during a call: to whom it is joined follows from the ConnReq that it took
pub record FeAt (ils : List EndState) (f : JoinedEnd) (m : M.World) (now : ℕ) (x : EndState) : Type 0 where
  pub whole : Whole Fe x
  pub clock : ℕ
  pub within : clock ≤ now
  pub reached : Reached (fe_at x.machine (joined_by ils f.joined f.end.request x.request) clock m)
  pub idle : x.machine.connection ≡ Down → x.request ≡ None
  pub first : x.request ≡ None → f.end.request ≡ None

pub joins-both : (a b : ConnectionState) → is_joining a b ≡ true → (a ≡ Down) × (b ≡ Start)
joins-both a b h = grind (arith, nat_tests)

-- a move without an arrival joins nothing
quiet : MovesLaw → (mv : Move) (s : State) → (HearsOwn mv s → ⊥)
    → is_joining s.connection (move mv s).connection ≡ false
quiet law mv s deaf = grind (arith, (law mv s).starts, joins-both, deaf)

fe-move : Laws → (ils : List EndState) (f : JoinedEnd) (m : M.World) (now : ℕ) (mv : Move) (x y : EndState)
    → move_time mv ≡ now → (HearsOwn mv x.machine → ⊥)
    → GenuineMove x.machine (drop m.dead_il m.il.made) mv → Whole Fe y → y.machine ≡ move mv x.machine
    → y.request ≡ x.request → FeAt ils f m now x
    → FeAt ils f m now y
fe-move laws ils f m now mv x y t deaf g whole e same h =
    let law = laws.moves in
    let joined = joined_by ils f.joined f.end.request x.request in
    let still = quiet law mv x.machine deaf in
    let there : Reached (fe_at (move mv x.machine) joined now m) =
    subst (λ n. Reached (fe_at (move mv x.machine) joined n m)) t
    (subst (λ b. Reached (fe_at (move mv x.machine) (cond b (Some (length m.il_before)) joined) (move_time mv) m)) still
    (fe-moves laws.events m x.machine joined h.clock mv (subst (λ n. h.clock ≤ n) (sym t) h.within) g h.reached))
    in
    record {
      whole = whole;
      clock = now;
      within = at-now now;
      reached =
          subst (λ o. Reached (fe_at y.machine (joined_by ils f.joined f.end.request o) now m)) (sym same)
          (subst (λ s. Reached (fe_at s joined now m)) (sym e) there);
      idle = λ down. same ∙ h.idle ((law mv x.machine).never_down (ap (λ (s : State). s.connection) (sym e) ∙ down));
      first = λ none. h.first (sym same ∙ none);
    }

fe-same : (ils : List EndState) (f : JoinedEnd) (m : M.World) (now : ℕ) (x y : EndState) → Whole Fe y
    → y.machine ≡ x.machine → y.request ≡ x.request
    → FeAt ils f m now x → FeAt ils f m now y
fe-same ils f m now x y whole e same h = grind (arith, nat_tests, h.clock, h.first, h.idle, h.reached, h.within)

-- the latest incarnation has made a PDU of these bytes
abbrev pub MadeBy : List EndState → List ℕ → Type 0
MadeBy [] octets = ⊥
MadeBy (g ∷ before) octets = has_made (rule_of g.settings) octets g.machine.made ≡ true

maker-latest : (ils : List EndState) (octets : List ℕ) → MadeBy ils octets → latest_maker octets ils ≡ Some (length ils)
maker-latest ils octets h = grind (arith, nat_tests)

made-dropped : (rule : _) (octets : List ℕ) (n : ℕ) (ms : List Made) → has_made rule octets (drop n ms) ≡ true
    → has_made rule octets ms ≡ true
made-dropped rule octets zero ms h = h
made-dropped rule octets (suc n) [] h = h
made-dropped rule octets (suc n) (m ∷ ms) h =
    by_cond (λ b. b ≡ true) _ true (has_made rule octets ms) (λ _. refl) (λ _. made-dropped rule octets n ms h)

live-made : (ils : List EndState) (x : EndState) (dead : ℕ) (octets : List ℕ)
    → is_live x (latest ils) dead octets ≡ true → MadeBy ils octets
live-made [] x dead octets h = cc
live-made (g ∷ before) x dead octets h = grind (arith, nat_tests, and-parts, made-dropped)

-- an end that starts on these bytes has received a PDU that the present interlocking made
joins-made : Laws → MovesLaw → (ils : List EndState) (x : EndState) (dead now : ℕ) (octets : List ℕ) → Whole Fe x
    → IsGenuine (latest ils) dead x octets
    → (r : Result Pdu SafeFault) → seen_by x.machine octets ≡ r
    → is_joining x.machine.connection (move (heard_as r now) x.machine).connection ≡ true → MadeBy ils octets
joins-made texts law ils x dead now octets whole g (Err fault) read h =
    let both = joins-both x.machine.connection (move (Guards now) x.machine).connection h in
    absurd ((law (Guards now) x.machine).starts both.0 both.1)
joins-made texts law ils x dead now octets whole g (Ok p) read h =
    let both = joins-both x.machine.connection (move (Hears p now) x.machine).connection h in
    let ours = (law (Hears p now) x.machine).starts both.0 both.1 in
    let asked = asked-heard texts Fe x octets p whole.machined.same read ours in
    live-made ils x dead octets (g (not-shut x.machine.connection (λ closed. let no = sym closed ∙ both.0 in cc))
    asked.1)

joined-first : (ils : List EndState) (old : Option ℕ) (before : Option (List ℕ)) (octets : List ℕ) → before ≡ None
    → joined_by ils old before (Some octets)
    ≡ latest_maker octets ils
joined-first ils old before octets h = grind (arith, nat_tests)

joined-noted : (ils : List EndState) (n : ℕ) (f : JoinedEnd) (octets : List ℕ) (request : Option (List ℕ)) (b : Bool)
    → n ≡ length ils
    → (request ≡ None → f.end.request ≡ None)
    → (b ≡ true → (request ≡ None) × MadeBy ils octets)
    → cond b (Some n) (joined_by ils f.joined f.end.request request)
    ≡ joined_by ils f.joined f.end.request (request_after b octets request)
joined-noted ils n f octets request b h k l = grind (arith, nat_tests, joined-first, maker-latest)

noted-none : (b : Bool) (octets : List ℕ) (request : Option (List ℕ)) → (b ≡ true → ⊥) → request ≡ None
    → request_after b octets request ≡ None
noted-none b octets request h k = grind (arith, nat_tests)

pub noted-first : (b : Bool) (octets : List ℕ) (request : Option (List ℕ)) → request_after b octets request ≡ None
    → request ≡ None
noted-first b octets request h = grind (arith, nat_tests)

-- the part of a call in which bytes are processed, before the end may disconnect
pub record FeHeard (ils : List EndState) (f : JoinedEnd) (m : M.World) (now : ℕ) (y : EndState) : Type 0 where
  pub there : Reached (fe_at y.machine (joined_by ils f.joined f.end.request y.request) now m)
  pub idle : y.machine.connection ≡ Down → y.request ≡ None
  pub first : y.request ≡ None → f.end.request ≡ None

fe-leaves : Laws → (ils : List EndState) (f : JoinedEnd) (m : M.World) (now : ℕ) (why : Option Leaving) (y : EndState)
    → FeHeard ils f m now y
    → Whole Fe (leaves now why y) → FeAt ils f m now (leaves now why y)
fe-leaves laws ils f m now None y h whole =
    record { whole = whole; clock = now; within = at-now now; reached = h.there; idle = h.idle; first = h.first }
fe-leaves laws ils f m now (Some why) y h whole =
    let law = laws.moves in
    let mv = Leaves why.0 why.1 now in
    let joined = joined_by ils f.joined f.end.request y.request in
    record {
      whole = whole;
      clock = now;
      within = at-now now;
      reached =
          subst (λ b. Reached (fe_at (move mv y.machine) (cond b (Some (length m.il_before)) joined) now m))
          (quiet law mv y.machine (λ no. no))
          (fe-moves laws.events m y.machine joined now mv (at-now now) tt h.there);
      idle = λ down. h.idle ((law mv y.machine).never_down down);
      first = h.first;
    }

heard-down : MovesLaw → (r : Result Pdu SafeFault) (now : ℕ) (s : State) → (move (heard_as r now) s).connection ≡ Down
    → s.connection ≡ Down
heard-down law r now s = (law (heard_as r now) s).never_down

pub fe-heard : Laws → (ils : List EndState) (f : JoinedEnd) (m : M.World) (dead now : ℕ) (octets : List ℕ)
    (x : EndState) → length m.il_before ≡ length ils
    → PeerIs (latest ils) dead m.il m.dead_il
    → Comes (latest ils) dead x octets → FeAt ils f m now x
    → FeHeard ils f m now (answered octets x (arrive_octets octets now x.machine))
fe-heard laws ils f m dead now octets x count is q h =
    let law = laws.moves in
    let r = seen_by x.machine octets in
    let s = arrive_octets octets now x.machine in
    let joining = is_joining x.machine.connection s.connection in
    let joined = joined_by ils f.joined f.end.request x.request in
    let g : GenuineMove x.machine (drop m.dead_il m.il.made) (heard_as r now) =
    subst (λ live. GenuineMove x.machine live (heard_as r now)) (live-same (latest ils) dead m.il m.dead_il is)
    (genuine-heard laws Fe x (latest ils) dead now octets h.whole.machined.same is.texts q.1 r refl)
    in
    let moved : Reached (fe_at s (cond joining (Some (length m.il_before)) joined) now m) =
    subst (λ n. Reached (fe_at s (cond joining (Some (length m.il_before)) joined) n m)) (heard-time r now)
    (fe-moves laws.events m x.machine joined h.clock (heard_as r now)
    (subst (λ n. h.clock ≤ n) (sym (heard-time r now)) h.within) g h.reached)
    in
    record {
      there =
          subst (λ q. Reached (fe_at s q now m))
          (joined-noted ils (length m.il_before) f octets x.request joining count h.first
          (λ is-so. (
            h.idle (joins-both x.machine.connection s.connection is-so).0,
            joins-made laws law ils x dead now octets h.whole q.1 r refl
                is-so,
          )))
          moved;
      idle =
          λ down. noted-none joining octets x.request
          (λ is-so. let no = sym (joins-both x.machine.connection s.connection is-so).1 ∙ down in cc)
          (h.idle (heard-down law r now x.machine down));
      first = λ none. h.first (noted-first joining octets x.request none);
    }

fe-hears : Laws → (ils : List EndState) (f : JoinedEnd) (m : M.World) (dead now : ℕ) (octets : List ℕ) (x : EndState)
    → length m.il_before ≡ length ils
    → PeerIs (latest ils) dead m.il m.dead_il
    → Comes (latest ils) dead x octets → FeAt ils f m now x → FeAt ils f m now (heard now octets x)
fe-hears laws ils f m dead now octets x count is q h =
    let s = arrive_octets octets now x.machine in
    fe-leaves laws ils f m now (judge_units (handed_up x s) x.session).leaving (answered octets x s)
    (fe-heard laws ils f m dead now octets x count is q h)
    ((whole-keeps laws Fe now).hears octets x q.0 h.whole)

pub fe-keeps : Laws → (ils : List EndState) (f : JoinedEnd) (m : M.World) (dead now : ℕ)
    → length m.il_before ≡ length ils
    → PeerIs (latest ils) dead m.il m.dead_il
    → Keeps now (Comes (latest ils) dead) (FeAt ils f m now)
fe-keeps laws ils f m dead now count is =
    let k : Keeps now OctetsUp (Whole Fe) = whole-keeps laws Fe now in
    record {
      guards = λ x h. fe-move laws ils f m now (Guards now) x _ refl (λ no. no) tt (k.guards x h.whole) refl refl h;
      ticks = λ x h. fe-move laws ils f m now (Ticks now) x _ refl (λ no. no) tt (k.ticks x h.whole) refl refl h;
      closes = λ x h. fe-move laws ils f m now (Leaves ClosedByUser Unspecified now) x _ refl (λ no. no) tt
          (k.closes x h.whole) refl refl h;
      ends = λ x shut h. fe-same ils f m now x _ (k.ends x shut h.whole) refl refl h;
      inputs = λ i x t h. fe-same ils f m now x _ (k.inputs i x t h.whole) refl refl h;
      hears = λ octets x q h. fe-hears laws ils f m dead now octets x count is q h;
      sends = λ x may some h.
          fe-move laws ils f m now (Sends (unit_text (take x.settings.n_maxpacket x.session.waiting)) now) x
          (packed now x) refl (λ no. no) tt
          (k.sends x may some h.whole) refl refl h;
      puts = λ kind payload x fits h. fe-same ils f m now x _ (k.puts kind payload x fits h.whole) refl refl h;
      dones = λ x h. fe-same ils f m now x _ (k.dones x h.whole) refl refl h;
      times = λ x h. fe-same ils f m now x _ (k.times x h.whole) refl refl h;
    }

-- All parts that go up in a call are bytes, if what waited was and what comes is.
octets-parts : (now : ℕ) (ps : List Part) (x : EndState) → AllByRecursion OctetPart ps → AtParts OctetsUp now ps x
octets-parts now [] x h = tt
octets-parts now (p ∷ ps) x h = (h.0, octets-parts now ps (part_step now p.1 x) h.1)

octets-input : Laws → (now : ℕ) (i : Input) (y : EndState) → IsTypedInput i → AllByRecursion OctetPart y.red.waiting
    → AtInput OctetsUp now i y
octets-input law now i y t h =
    λ _. octets-parts now (parts_passed i y.red) (with_input i y) (red-keeps law i y.red t h).0

pub octets-call : Laws → (c : Call) (x : EndState) → IsTypedCall c → AllByRecursion OctetPart x.red.waiting
    → AtCall OctetsUp c x
octets-call law (Tick now) x t h = λ _. octets-input law now (RedTick now) (tick_step now x) tt h
octets-call law (Deliver channel octets now) x t h =
    λ _. octets-input law now (Datagram octets now) (guard_step now x) t h
octets-call law _ x t h = tt

-- two things that hold of each part
both-parts : (P Q : EndState → List ℕ → Type 0) (now : ℕ) (ps : List Part) (x : EndState) → AtParts P now ps x
    → AtParts Q now ps x
    → AtParts (λ y o. P y o × Q y o) now ps x
both-parts P Q now [] x h k = tt
both-parts P Q now (p ∷ ps) x h k = ((h.0, k.0), both-parts P Q now ps (part_step now p.1 x) h.1 k.1)

pub both-call : (P Q : EndState → List ℕ → Type 0) (c : Call) (x : EndState) → AtCall P c x → AtCall Q c x
    → AtCall (λ y o. P y o × Q y o) c x
both-call P Q (Tick now) x h k = λ on up. both-parts P Q now (parts_passed (RedTick now) (tick_step now x).red)
    (with_input (RedTick now) (tick_step now x)) (h on up) (k on up)
both-call P Q (Deliver channel octets now) x h k =
    λ on up. both-parts P Q now (parts_passed (Datagram octets now) (guard_step now x).red)
    (with_input (Datagram octets now) (guard_step now x)) (h on up) (k on up)
both-call P Q _ x h k = tt
