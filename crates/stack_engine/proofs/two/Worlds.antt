-- The machines of a genuine world are those that a genuine list of machine events leads to; and what one call takes by
-- them, as items and as what is fresh.
use Rattle.stack_engine.proofs.Words.{[], AllByRecursion, AllTakeBeginnings, ap, append-nil, append_assoc, are_fit, AreSettings, arith, Arrive, arrive_octets}
use Rattle.stack_engine.proofs.Words.{AtCall, AtInput, AtParts, Bool, Call, call, call_refusal, Calls, CHECKSUM_MAX, checksum_of, CodeRule, cond, connection_of}
use Rattle.stack_engine.proofs.Words.{Datagram, Deliver, Down, ends_of, EndSettings, EndState, Err, Event, EventsLaw, false, Fe, Fresh, FreshEvent}
use Rattle.stack_engine.proofs.Words.{GenuineEvent, guard, Guards, apply_event, heard_as, Hears, Il, in_limits, incarnation, inl, Input, inr, is_addressing}
use Rattle.stack_engine.proofs.Words.{is_legal, is_name, is_untimely, IsBeginning, IsGenuine, IsJoined, IsName, IsTyped, items_of, joined_by, JoinedBelow}
use Rattle.stack_engine.proofs.Words.{JoinedEnd, JoinsFall, last_time, latest, length, length-append, List, Made, made_of, MatchOption, messages_in, move}
use Rattle.stack_engine.proofs.Words.{MovesLaw, nat_le, nat_lt, nat_tests, new_end, next_bound, None, Ok, OnlyJoinedTake, open_refusal, OpenMachine, Option}
use Rattle.stack_engine.proofs.Words.{Part, part_step, parts_passed, Pdu, Put, put_at, RedTick, refl, Refusal, Result, safe_seen, SafeFault, seen_by, session_of}
use Rattle.stack_engine.proofs.Words.{Settings, settle, Side, Some, start, State, subst, suc, sym, take, taken_at, TakesBeginnings, TakesFresh, Tele}
use Rattle.stack_engine.proofs.Words.{telegrams_in, texts, TextsLaw, Tick, time_of, true, units, unless_refused, with_input, with_joined}
use Rattle.stack_engine.proofs.Words.{World, ℕ, ◌++◌, ◌+◌, ◌==◌, ◌^◌, ◌||◌, ◌∙◌, ◌∷◌, ◌≡◌, ◌≢◌, ◌≤◌}
use Rattle.stack_engine.proofs.Words.{guard_step, heard, part-is, tick_step}
use Rattle.stack_engine.proofs.one.Received.{machined-texts, OctetsUp, Whole}
use Rattle.stack_engine.proofs.one.Sent.{and-parts, came, goes-of, handed-none, IsTypedCall, IsTypedInput, keep-part, Keeps, Laws, leaves-same, keep-guarded, keep-ticked}
use Rattle.stack_engine.proofs.one.Sent.{legal-of, messages-append, nil-front, queue-read, rises-same, Spoken, telegrams-append}
use Rattle.stack_engine.proofs.two.Machines.{both-call, Comes, fe_at, FeAt, genuine-heard, il_at, IlAt, live-same, octets-call, PeerIs, Reached, reached}
use Rattle.stack_engine.proofs.two.Machines.{rule-same, TextsOf}
use Rattle.safe_machine.specs.Law as L
use Rattle.safe_machine.specs.World as M

-- the machines of ends
abbrev pub states : List EndState → List State
states [] = []
states (x ∷ xs) = x.machine ∷ states xs

abbrev pub served : List JoinedEnd → List M.Served
served [] = []
served (f ∷ fs) = record { machine = f.end.machine; joined = f.joined } ∷ served fs

-- the world of machines before the first opening
abbrev pub unserved : M.Served
unserved = record { machine = M.unopened_state; joined = None }

abbrev pub state_now : List State → State
state_now [] = M.unopened_state
state_now (s ∷ before) = s

abbrev pub states_before : List State → List State
states_before [] = []
states_before (s ∷ before) = before ++ M.unopened_state ∷ []

abbrev pub served_now : List M.Served → M.Served
served_now [] = unserved
served_now (f ∷ before) = f

abbrev pub served_before : List M.Served → List M.Served
served_before [] = []
served_before (f ∷ before) = before ++ unserved ∷ []

abbrev pub machines_as : List EndState → List JoinedEnd → Option ℕ → (dead_il dead_fe clock_il clock_fe : ℕ) → M.World
machines_as ils fes joined dead_il dead_fe clock_il clock_fe =
    record {
      il = state_now (states ils);
      il_before = states_before (states ils);
      fe = (served_now (served fes)).machine;
      joined = joined;
      fe_before = served_before (served fes);
      dead_il = dead_il;
      dead_fe = dead_fe;
      clock_il = clock_il;
      clock_fe = clock_fe;
    }

abbrev pub machines : List EndState → List JoinedEnd → (dead_il dead_fe clock_il clock_fe : ℕ) → M.World
machines ils fes dead_il dead_fe clock_il clock_fe =
    machines_as ils fes (served_now (served fes)).joined dead_il dead_fe clock_il clock_fe

abbrev pub AllWhole : Side → List EndState → Type 0
AllWhole side xs = AllByRecursion (Whole side) xs

abbrev pub IdleFirst : List JoinedEnd → Type 0
IdleFirst [] = Unit {0}
IdleFirst (f ∷ fs) = f.end.machine.connection ≡ Down → f.end.request ≡ None

-- a genuine world
pub record Mapped (ils : List EndState) (fes : List JoinedEnd) (dead_il dead_fe : ℕ) : Type 0 where
  pub clock_il : ℕ
  pub clock_fe : ℕ
  pub reached : Reached (machines ils fes dead_il dead_fe clock_il clock_fe)
  pub il_within : clock_il ≤ last_time (latest ils)
  pub fe_within : clock_fe ≤ last_time (latest (ends_of fes))
  pub idle : IdleFirst fes
  pub il_whole : AllWhole Il ils
  pub fe_whole : AllWhole Fe (ends_of fes)

abbrev pub MappedWorld : World → Type 0
MappedWorld w = Mapped w.ils w.fes w.dead_il w.dead_fe

-- times that are not refused
timely-not : (last now : ℕ) → is_untimely last now ≡ false → last ≤ now
timely-not last now h = let p = or-parts (nat_lt now last) (nat_lt (2 ^ 62) now) h in let q =
    p.0 in grind (arith, nat_tests)
  where
    or-parts : (a b : Bool) → (a || b) ≡ false → (a ≡ false) × (b ≡ false)
    or-parts false b h = (refl, h)
    or-parts true b h = cc

pub call-timely : (c : Call) (x : EndState) → call_refusal c (Some x) ≡ None → x.time ≤ time_of c
call-timely c x h = grind (arith, timely-not)

-- an opening that is not refused
pub record Opens (side : Side) (s : EndSettings) (now : ℕ) (x : Option EndState) : Type 0 where
  pub fit : are_fit side s ≡ true
  pub timely : last_time x ≤ now

pub opens : (side : Side) (s : EndSettings) (now : ℕ) (x : Option EndState) → open_refusal side s now x ≡ None
    → Opens side s now x
opens side s now x h = grind (arith, nat_tests, timely-not)

name-is : (text : List ℕ) → is_name text ≡ true → IsName text
name-is text h = grind (arith, nat_tests, and-parts)

settings-are : (side : Side) (s : EndSettings) → are_fit side s ≡ true → AreSettings s.addressing (session_of side s)
settings-are side s h =
    let p = and-parts (is_addressing s.addressing) _
    (and-parts (in_limits s) _ (and-parts (is_legal s.connection) _ h).1).1 in
    let c = (and-parts (nat_le (length s.checksum) CHECKSUM_MAX) _ p.1).0 in
    let a = and-parts (nat_lt s.addressing.protocol 256) _ p.0 in
    let n = and-parts (is_name s.addressing.own) _ a.1 in
    record {
      protocol = let l = a.0 in grind (arith, nat_tests);
      own = name-is s.addressing.own n.0;
      peer = name-is s.addressing.peer n.1;
      checksum = few side s c;
    }
  where
    few : (side : Side) (s : EndSettings) → nat_le (length s.checksum) CHECKSUM_MAX ≡ true
        → length (checksum_of (session_of side s)) ≤ CHECKSUM_MAX
    few Il s h = omega arith
    few Fe s h = grind (arith, nat_tests)

-- a new end is whole
pub new-whole : (side : Side) (s : EndSettings) (first now : ℕ) → are_fit side s ≡ true
    → Whole side (new_end side s first now)
new-whole Il s first now fit =
    record {
      spoken =
          record {
            fit = fit;
            talk =
                record {
                  events = [];
                  kinds = tt;
                  history = refl;
                  settings = settings-are Il s fit;
                  messages = tt;
                  queue = refl;
                };
            unpack = tt;
            begins = ([], refl);
            whole = λ _. refl;
          };
      machined = record { same = refl; first = first; began = now; moves = []; read = tt; machine = refl; waits = tt };
      heeds = record { on = λ _. refl; judged = λ _ _. refl; taken = λ _ _. refl };
    }
new-whole Fe s first now fit =
    record {
      spoken =
          record {
            fit = fit;
            talk =
                record {
                  events = [];
                  kinds = tt;
                  history = refl;
                  settings = settings-are Fe s fit;
                  messages = tt;
                  queue = refl;
                };
            unpack = tt;
            begins = ([], refl);
            whole = λ _. refl;
          };
      machined = record { same = refl; first = first; began = now; moves = []; read = tt; machine = refl; waits = tt };
      heeds = record { on = λ _. refl; judged = λ _ _. refl; taken = λ _ _. refl };
    }

-- the opening in the world of machines
pub open-il : (s : EndSettings) (first now : ℕ) (ils : List EndState) (fes : List JoinedEnd) (q : Option ℕ)
    (di df ci cf : ℕ) → is_legal s.connection ≡ true
    → M.apply_event (machines_as ils fes q di df ci cf) (OpenMachine Il s.connection first now)
    ≡ machines_as (new_end Il s first now ∷ ils) fes q 0 (length (made_of (latest (ends_of fes)))) now cf
open-il s first now [] [] q di df ci cf legal = rw legal refl
open-il s first now [] (f ∷ fs) q di df ci cf legal = rw legal refl
open-il s first now (x ∷ xs) [] q di df ci cf legal = rw legal refl
open-il s first now (x ∷ xs) (f ∷ fs) q di df ci cf legal = rw legal refl

pub open-fe : (s : EndSettings) (first now : ℕ) (ils : List EndState) (fes : List JoinedEnd) (q : Option ℕ)
    (di df ci cf : ℕ)
    → q ≡ (served_now (served fes)).joined → is_legal s.connection ≡ true
    → M.apply_event (machines_as ils fes q di df ci cf) (OpenMachine Fe s.connection first now)
    ≡ machines ils (record { end = new_end Fe s first now; joined = None } ∷ fes) (length (made_of (latest ils))) 0 ci
    now
open-fe s first now ils fes q di df ci cf h k = grind (arith, nat_tests)

pub mapped-open-il : EventsLaw → (s : EndSettings) (first now : ℕ) (ils : List EndState) (fes : List JoinedEnd)
    (di df : ℕ) → Opens Il s now (latest ils)
    → Mapped ils fes di df
    → Mapped (new_end Il s first now ∷ ils) fes 0 (length (made_of (latest (ends_of fes))))
mapped-open-il law s first now ils fes di df o h =
    let w = machines ils fes di df h.clock_il h.clock_fe in
    let t : h.clock_il ≤ now = let a = h.il_within in let b = o.timely in omega (arith, a, b) in
    record {
      clock_il = now;
      clock_fe = h.clock_fe;
      reached =
          subst Reached (open-il s first now ils fes (served_now (served fes)).joined di df h.clock_il h.clock_fe
          (legal-of Il s o.fit))
          (reached law w (OpenMachine Il s.connection first now) tt t h.reached);
      il_within = omega arith;
      fe_within = h.fe_within;
      idle = h.idle;
      il_whole = (new-whole Il s first now o.fit, h.il_whole);
      fe_whole = h.fe_whole;
    }

pub mapped-open-fe : EventsLaw → (s : EndSettings) (first now : ℕ) (ils : List EndState) (fes : List JoinedEnd)
    (di df : ℕ)
    → Opens Fe s now (latest (ends_of fes)) → Mapped ils fes di df
    → Mapped ils (record { end = new_end Fe s first now; joined = None } ∷ fes) (length (made_of (latest ils))) 0
mapped-open-fe law s first now ils fes di df o h =
    let w = machines ils fes di df h.clock_il h.clock_fe in
    let t : h.clock_fe ≤ now = let a = h.fe_within in let b = o.timely in omega (arith, a, b) in
    record {
      clock_il = h.clock_il;
      clock_fe = now;
      reached =
          subst Reached (open-fe s first now ils fes (served_now (served fes)).joined di df h.clock_il h.clock_fe refl
          (legal-of Fe s o.fit))
          (reached law w (OpenMachine Fe s.connection first now) tt t h.reached);
      il_within = h.il_within;
      fe_within = omega arith;
      idle = λ _. refl;
      il_whole = h.il_whole;
      fe_whole = (new-whole Fe s first now o.fit, h.fe_whole);
    }

-- the peers, as the world of machines has them
pub made-fe : (fes : List JoinedEnd) → ((served_now (served fes)).machine).made ≡ made_of (latest (ends_of fes))
made-fe [] = refl
made-fe (f ∷ fs) = refl

pub made-il : (ils : List EndState) → (state_now (states ils)).made ≡ made_of (latest ils)
made-il ils = grind (arith, nat_tests)

pub texts-latest : TextsLaw → (side : Side) (xs : List EndState) → AllWhole side xs → TextsOf (latest xs)
texts-latest law side [] h = tt
texts-latest law side (x ∷ xs) h = machined-texts law side x h.0.spoken.fit h.0.machined

pub states-length : (xs : List EndState) → length (states xs) ≡ length xs
states-length [] = refl
states-length (x ∷ xs) = ap suc (states-length xs)

pub before-length : (ils : List EndState) → length (states_before (states ils)) ≡ length ils
before-length ils = grind (arith, nat_tests, length-append, states-length)

-- what the machines of the peer are to an end, and an end as a call finds it
pub peer-fe : (texts : TextsLaw) (ils : List EndState) (fes : List JoinedEnd) (di df : ℕ) (h : Mapped ils fes di df)
    → PeerIs (latest (ends_of fes)) df (machines ils fes di df h.clock_il h.clock_fe).fe df
peer-fe texts ils fes di df h =
    record { made = made-fe fes; same_dead = refl; texts = texts-latest texts Fe (ends_of fes) h.fe_whole }

pub peer-il : (texts : TextsLaw) (ils : List EndState) (fes : List JoinedEnd) (di df : ℕ) (h : Mapped ils fes di df)
    → PeerIs (latest ils) di (machines ils fes di df h.clock_il h.clock_fe).il di
peer-il texts ils fes di df h =
    record { made = made-il ils; same_dead = refl; texts = texts-latest texts Il ils h.il_whole }

pub found-il : (x : EndState) (before : List EndState) (fes : List JoinedEnd) (di df now : ℕ)
    (h : Mapped (x ∷ before) fes di df) → x.time ≤ now
    → IlAt (machines (x ∷ before) fes di df h.clock_il h.clock_fe) now x
found-il x before fes di df now h timely = grind (arith, nat_tests)

pub joined-same : (ils : List EndState) (old : Option ℕ) (q : Option (List ℕ)) → old ≡ joined_by ils old q q
joined-same ils old q = grind (arith, nat_tests)

pub found-fe : (ils : List EndState) (f : JoinedEnd) (before : List JoinedEnd) (di df now : ℕ)
    (h : Mapped ils (f ∷ before) di df) → f.end.time ≤ now
    → FeAt ils f (machines ils (f ∷ before) di df h.clock_il h.clock_fe) now f.end
found-fe ils f before di df now h timely =
    record {
      whole = h.fe_whole.0;
      clock = h.clock_fe;
      within = (let a = h.fe_within in omega (arith, a, timely));
      reached =
          subst (λ q. Reached (fe_at f.end.machine q h.clock_fe
          (machines ils (f ∷ before) di df h.clock_il h.clock_fe)))
          (joined-same ils f.joined f.end.request) h.reached;
      idle = h.idle;
      first = λ e. e;
    }

-- the interlocking at the head, and the field element
pub at-call : (laws : Laws) (dead : ℕ) (peer : Option EndState) (side : Side) (c : Call) (x : EndState) → IsTypedCall c
    → Whole side x
    → AtCall (IsGenuine peer dead) c x → AtCall (Comes peer dead) c x
at-call laws dead peer side c x t whole g =
    both-call OctetsUp (IsGenuine peer dead) c x (octets-call laws c x t whole.machined.waits) g

pub after-il : (c : Call) (x : EndState) (before : List EndState) (fes : List JoinedEnd) (di df : ℕ)
    (h : Mapped (x ∷ before) fes di df)
    → IlAt (machines (x ∷ before) fes di df h.clock_il h.clock_fe) (time_of c) (call c x)
    → Mapped (call c x ∷ before) fes di df
after-il c x before fes di df h y = grind (arith, nat_tests, y.clock, y.reached, y.whole, y.within)

pub after-fe : (c : Call) (ils : List EndState) (f : JoinedEnd) (before : List JoinedEnd) (di df : ℕ)
    (h : Mapped ils (f ∷ before) di df)
    → FeAt ils f (machines ils (f ∷ before) di df h.clock_il h.clock_fe) (time_of c) (call c f.end)
    → Mapped ils (with_joined ils f (call c f.end) ∷ before) di df
after-fe c ils f before di df h y = grind (arith, nat_tests, y.clock, y.idle, y.reached, y.whole, y.within)

pub typed-call : (side : Side) (c : Call) → IsTyped (Calls side c) → IsTypedCall c
typed-call side (Put kind payload now) t = t
typed-call side (Deliver channel octets now) t = t
typed-call side _ t = tt

pub unless : (P : World → Type 0) (r : Option Refusal) (old new : World) → P old → (r ≡ None → P new)
    → P (unless_refused r old new)
unless P None old new h k = k refl
unless P (Some why) old new h k = h

pub mapped-start : MappedWorld start
mapped-start = grind (arith, nat_tests)

-- the incarnations of a world of machines are those of the ends
pub taken-before : {X : Type 0} (u s : X) (before : List X)
    → take (length (before ++ u ∷ [])) (s ∷ (before ++ u ∷ [])) ≡ s ∷ before
taken-before u s [] = refl
taken-before u s (b ∷ bs) = ap (λ xs. s ∷ xs) (taken-before u b bs)

pub il-incarnations : (ss : List State) → take (length (states_before ss)) (state_now ss ∷ states_before ss) ≡ ss
il-incarnations ss = grind (arith, nat_tests, taken-before)

pub fe-incarnations : (fs : List M.Served) → take (length (served_before fs)) (served_now fs ∷ served_before fs) ≡ fs
fe-incarnations fs = grind (arith, nat_tests, taken-before)

pub law-of : (ils : List EndState) (fes : List JoinedEnd) (di df ci cf : ℕ) → L.Law (machines ils fes di df ci cf)
    → L.LawOf (states ils) (served fes)
law-of ils fes di df ci cf h =
    subst (λ fs. L.LawOf (states ils) fs) (fe-incarnations (served fes))
    (subst (λ ss. L.LawOf ss (L.fe_incarnations (machines ils fes di df ci cf))) (il-incarnations (states ils)) h)

-- prefixes
pub begin-then : {X : Type 0} (a b c : List X) → IsBeginning a b → IsBeginning b c → IsBeginning a c
begin-then a b c h k = (h.0 ++ k.0, sym (append_assoc a h.0 k.0) ∙ ap (λ xs. xs ++ k.0) h.1 ∙ k.1)

pub items-append : (xs ys : List Tele) → items_of (xs ++ ys) ≡ items_of xs ++ items_of ys
items-append [] ys = refl
items-append (x ∷ xs) ys = grind (arith, items-append xs ys)

begin-items : (a b : List Tele) → IsBeginning a b → IsBeginning (items_of a) (items_of b)
begin-items a b h = (items_of h.0, sym (items-append a h.0) ∙ ap items_of h.1)

pub begin-came : (us vs : List (List ℕ)) → IsBeginning us vs
    → IsBeginning (telegrams_in (messages_in us)) (telegrams_in (messages_in vs))
begin-came us vs h = (
  telegrams_in (messages_in h.0),
  sym (telegrams-append (messages_in us) (messages_in h.0)) ∙ ap telegrams_in (sym (messages-append us h.0))
      ∙ ap (λ ws. telegrams_in (messages_in ws)) h.1,
)

-- what an application took is a prefix of the items judged, and what was put is the items of the queue
pub taken-judged : Laws → (side : Side) (x : EndState) → Spoken side x
    → IsBeginning (taken_at x) (items_of x.session.history.judged)
taken-judged laws side x h = grind (arith, nat_tests, h.talk.events, h.talk.history, laws.taken)

pub queue-put : Laws → (side : Side) (x : EndState) → Spoken side x → items_of x.session.history.queue ≡ put_at x
queue-put laws side x h = grind (arith, nat_tests, h.talk.events, h.talk.history, laws.queue)

-- the queue is what was sent and what waits
pub queue-is : (side : Side) (x : EndState) → Spoken side x
    → x.session.history.queue ≡ telegrams_in (messages_in (units x.machine.made))
    ++ telegrams_in x.session.waiting
queue-is side x h = grind (arith, queue-read x.session.history.queue h.talk.messages, h.talk.queue, telegrams-append)

-- from units to items
pub items-begin : Laws → (a b : Side) (f g : EndState) → Spoken a f → Spoken b g
    → IsBeginning f.machine.taken (units g.machine.made)
    → IsBeginning (taken_at f) (put_at g)
items-begin laws a b f g hf hg begins =
    let sent = telegrams_in (messages_in (units g.machine.made)) in
    let all : IsBeginning f.session.history.judged g.session.history.queue =
    begin-then f.session.history.judged sent g.session.history.queue
    (begin-then f.session.history.judged (came f.machine) sent hf.begins
    (begin-came f.machine.taken (units g.machine.made) begins))
    (telegrams_in g.session.waiting, sym (queue-is b g hg))
    in
    subst (λ is. IsBeginning (taken_at f) is) (queue-put laws b g hg)
    (begin-then (taken_at f) (items_of f.session.history.judged) (items_of g.session.history.queue)
    (taken-judged laws a f hf)
    (begin-items f.session.history.judged g.session.history.queue all))

pub none-taken : Laws → (side : Side) (f : EndState) → Spoken side f → f.machine.taken ≡ [] → taken_at f ≡ []
none-taken laws side f h e = grind (arith, nil-front, h.begins.1, (taken-judged laws side f h).1)

abbrev UnitsBegin : EndState → State → Type 0
UnitsBegin f g = IsBeginning f.machine.taken (units g.made) × IsBeginning g.taken (units f.machine.made)

abbrev ItemsBegin : EndState → EndState → Type 0
ItemsBegin f g = IsBeginning (taken_at f) (put_at g) × IsBeginning (taken_at g) (put_at f)

choose : Laws → (f x : EndState) (rest : Option State) (ends : Option EndState) (b : Bool) → Spoken Fe f → Spoken Il x
    → (MatchOption rest ⊥ (UnitsBegin f) → MatchOption ends ⊥ (ItemsBegin f))
    → MatchOption (cond b (Some x.machine) rest) ⊥ (UnitsBegin f)
    → MatchOption (cond b (Some x) ends) ⊥ (ItemsBegin f)
choose laws f x rest ends true hf hx k h = (items-begin laws Fe Il f x hf hx h.0, items-begin laws Il Fe x f hx hf h.1)
choose laws f x rest ends false hf hx k h = k h

takes-with : Laws → (f : EndState) (ils : List EndState) (number : ℕ) → Spoken Fe f → AllWhole Il ils
    → MatchOption (L.incarnation (states ils) number) ⊥
    (UnitsBegin f)
    → MatchOption (incarnation ils number) ⊥ (ItemsBegin f)
takes-with laws f [] number hf hs h = absurd h
takes-with laws f (x ∷ before) number hf hs h =
    choose laws f x (L.incarnation (states before) number) (incarnation before number) (number == length before + 1) hf
    hs.0.spoken
    (takes-with laws f before number hf hs.1)
    (subst (λ n. MatchOption (cond (number == n + 1) (Some x.machine) (L.incarnation (states before) number)) ⊥
    (UnitsBegin f)) (states-length before) h)

takes-items : Laws → (f : EndState) (joined : Option ℕ) (ils : List EndState) → Spoken Fe f → AllWhole Il ils
    → L.TakesBeginnings (states ils) f.machine joined → TakesBeginnings ils f joined
takes-items laws f None ils hf hs h = none-taken laws Fe f hf h
takes-items laws f (Some number) ils hf hs h = takes-with laws f ils number hf hs h

pub all-take : Laws → (fs : List JoinedEnd) (ils : List EndState) → AllWhole Fe (ends_of fs) → AllWhole Il ils
    → L.AllTakeBeginnings (states ils) (served fs)
    → AllTakeBeginnings ils fs
all-take laws [] ils hf hs h = tt
all-take laws (f ∷ fs) ils hf hs h =
    (takes-items laws f.end f.joined ils hf.0.spoken hs h.0, all-take laws fs ils hf.1 hs h.1)

below-same : (bound : ℕ) (joined : Option ℕ) → L.JoinedBelow bound joined → JoinedBelow bound joined
below-same bound None h = tt
below-same bound (Some number) h = h

bound-same : (bound : ℕ) (joined : Option ℕ) → L.next_bound bound joined ≡ next_bound bound joined
bound-same bound joined = grind (arith, nat_tests)

pub joins-fall : (bound : ℕ) (fs : List JoinedEnd) → L.JoinsFall bound (served fs) → JoinsFall bound fs
joins-fall bound [] h = tt
joins-fall bound (f ∷ fs) h = (
  below-same bound f.joined h.0,
  joins-fall (next_bound bound f.joined) fs
      (subst (λ n. L.JoinsFall n (served fs)) (bound-same bound f.joined) h.1),
)

is-joined : (number : ℕ) (fs : List JoinedEnd) → L.IsJoined number (served fs) → IsJoined number fs
is-joined number [] h = h
is-joined number (f ∷ fs) (inl e) = inl e
is-joined number (f ∷ fs) (inr h) = inr (is-joined number fs h)

pub only-joined : Laws → (fs : List JoinedEnd) (ils : List EndState) → AllWhole Il ils
    → L.OnlyJoinedTake (served fs) (states ils) → OnlyJoinedTake fs ils
only-joined laws fs [] hs h = tt
only-joined laws fs (g ∷ before) hs h = (
  elim h.0 [
    | inl e ↦ inl (none-taken laws Il g hs.0.spoken e)
    | inr p ↦ inr (is-joined (length before + 1) fs
        (subst (λ n. L.IsJoined (n + 1) (served fs)) (states-length before) p))
  ],
  only-joined laws fs before hs.1 h.1,
)

-- What holds of each part in a state that P holds of, holds of each part of a call.
module _ (now : ℕ) (Q R : EndState → List ℕ → Type 0) (P : EndState → Type 0) (k : Keeps now Q P)
    (each : (x : EndState) (octets : List ℕ) → P x → Q x octets → R x octets) where
  at-parts : (ps : List Part) (x : EndState) → AtParts Q now ps x → P x → AtParts R now ps x
  at-parts [] x q h = tt
  at-parts (p ∷ ps) x q h =
      (each x p.1 h q.0, at-parts ps (part_step now p.1 x) q.1 (keep-part now Q P (goes-of now Q P k) p.1 x q.0 h))

  pub at-input : (i : Input) (x : EndState) → IsTypedInput i → AtInput Q now i x → P x → AtInput R now i x
  at-input i x t q h = λ on. at-parts (parts_passed i x.red) (with_input i x) (q on) (k.inputs i x t h)

pub call-at : (c : Call) (Q R : EndState → List ℕ → Type 0) (P : EndState → Type 0) (x : EndState)
    → Keeps (time_of c) Q P
    → ((y : EndState) (octets : List ℕ) → P y → Q y octets → R y octets)
    → IsTypedCall c → AtCall Q c x → P x → AtCall R c x
call-at (Tick now) Q R P x k each t q h = λ on.
    at-input now Q R P k each (RedTick now) (tick_step now x) tt (q on)
    (keep-ticked now Q P (goes-of now Q P k) x (k.ticks x h))
call-at (Deliver channel octets now) Q R P x k each t q h = λ on.
    at-input now Q R P k each (Datagram octets now) (guard_step now x) t (q on)
    (keep-guarded now Q P (goes-of now Q P k) x (k.guards x h))
call-at _ Q R P x k each t q h = tt

settle-taken : (y : EndState) → taken_at (settle y) ≡ taken_at y
settle-taken y = grind (arith, append-nil)

pub nothing-taken : (now : ℕ) (octets : List ℕ) (x : EndState)
    → (arrive_octets octets now x.machine).taken ≡ x.machine.taken
    → taken_at (part_step now octets x) ≡ taken_at x
nothing-taken now octets x e =
    subst (λ (y : EndState). taken_at y ≡ taken_at x) (sym (part-is now octets x)) settled
  where
    settled : taken_at (settle (heard now octets x)) ≡ taken_at x
    settled = grind (arith, nat_tests, handed-none, leaves-same, rises-same, settle-taken)

guard-takes : MovesLaw → (now : ℕ) (s : State) → (guard now s).taken ≡ s.taken
guard-takes law now s = let one = law (Guards now) s in one.taken ∙ ap (λ us. s.taken ++ us) one.one_taken
    ∙ append-nil s.taken

-- one part
by-read : MovesLaw → (side : Side) (now : ℕ) (octets : List ℕ) (x : EndState) (peer : List Made)
    → x.machine.settings ≡ connection_of side x.settings
    → ((p : Pdu) → seen_by x.machine octets ≡ Ok p → (move (Hears p now) x.machine).taken ≢ x.machine.taken
    → Fresh x.machine p now peer)
    → (r : Result Pdu SafeFault) → seen_by x.machine octets ≡ r → TakesFresh now peer x octets
by-read law side now octets x peer same fresh (Err fault) e takes =
    absurd (takes (nothing-taken now octets x (ap (λ q. (move (heard_as q now) x.machine).taken) e
    ∙ guard-takes law now x.machine)))
by-read law side now octets x peer same fresh (Ok p) e takes = (
  p,
  ap (λ (r : CodeRule). safe_seen r octets) (sym (ap (λ (s : Settings). s.rule) same ∙ rule-same side x.settings)) ∙ e,
  fresh p e (λ still. takes (nothing-taken now octets x (ap (λ q. (move (heard_as q now) x.machine).taken) e ∙ still))),
)

-- one event more in the world of machines
at-last : Laws → (m : M.World) (e : M.Event) → M.GenuineEvent m e → M.TimelyEvent m e → Reached m → L.FreshEvent m e
at-last laws m e g t r =
    grind (arith, nat_tests, laws.events, laws.fresh_at_last, r.events, r.genuine, r.leads, r.timely)

pub il-fresh : Laws → (m : M.World) (peer : Option EndState) (dead now : ℕ) → PeerIs peer dead m.fe m.dead_fe
    → (x : EndState) (octets : List ℕ)
    → IlAt m now x → Comes peer dead x octets
    → TakesFresh now (made_of peer) x octets
il-fresh laws m peer dead now is x octets h q =
    by-read laws.moves Il now octets x (made_of peer) h.whole.machined.same
    (λ p e took.
    let g = subst (λ live. M.GenuineAt x.machine p live) (live-same peer dead m.fe m.dead_fe is)
    (genuine-heard laws Il x peer dead now octets h.whole.machined.same is.texts q.1 (Ok p) e) in
    subst (λ ms. Fresh x.machine p now ms) is.made
    (at-last laws (il_at x.machine h.clock m) (Arrive Il p now) g h.within h.reached took))
    (seen_by x.machine octets) refl

pub fe-fresh : Laws → (ils : List EndState) (f : JoinedEnd) (m : M.World) (dead now : ℕ)
    → PeerIs (latest ils) dead m.il m.dead_il
    → (x : EndState) (octets : List ℕ) → FeAt ils f m now x
    → Comes (latest ils) dead x octets → TakesFresh now (made_of (latest ils)) x octets
fe-fresh laws ils f m dead now is x octets h q =
    by-read laws.moves Fe now octets x (made_of (latest ils)) h.whole.machined.same
    (λ p e took.
    let g = subst (λ live. M.GenuineAt x.machine p live) (live-same (latest ils) dead m.il m.dead_il is)
    (genuine-heard laws Fe x (latest ils) dead now octets h.whole.machined.same is.texts q.1 (Ok p) e) in
    subst (λ ms. Fresh x.machine p now ms) is.made
    (at-last laws (fe_at x.machine (joined_by ils f.joined f.end.request x.request) h.clock m) (Arrive Fe p now) g
    h.within h.reached took))
    (seen_by x.machine octets) refl
