-- What makes a list of events genuine and faithful, and what holds at its end, as tests that are computed.
use Rattle.safe_machine.proofs.one.TurnSteps.{guard-is}
use Rattle.stack_engine.proofs.Words.{[], AllArrived, AllByRecursion, AllFaithful, AreAtMost, AreTyped, arith, arrivals, arrivals_of, Arrived, AtCall, AtOpened}
use Rattle.stack_engine.proofs.Words.{AtParts, Bool, bytes_eq, bytes_eq-Decides, Call, Calls, CarriesPdu, cases_lt, Close, CodeRule, Datagram, Deliver, drop}
use Rattle.stack_engine.proofs.Words.{EndState, Event, FaithfulCall, FaithfulEvent, false, Fe, first_missing, first_version, Genuine, GenuineCall, GenuineEvent}
use Rattle.stack_engine.proofs.Words.{GuardHolds, apply_event, has_number, if◌then◌else◌, Il, inl, Input, inr, is_alive, is_asked_of, is_live, is_nil}
use Rattle.stack_engine.proofs.Words.{IsGenuine, IsInTime, IsNear, IsTyped, leave, length, Limit, List, list_any, Made, Match, moment_of, nat_le, nat_lt}
use Rattle.stack_engine.proofs.Words.{nat_tests, no_wait, NoDeadlineFalls, None, not, OfBoth, OfBothOpened, Open, Option, Part, part_step, parts_passed, present}
use Rattle.stack_engine.proofs.Words.{ProtocolError, Put, QNear, RedTick, refl, refusal, rule_of, run, SameRule, Some, State, subst, suc, sym, taken_at, Tick}
use Rattle.stack_engine.proofs.Words.{Timeout, true, Unspecified, upper_of, Wait, wait_after, with_input, World, zero, ℕ, ◌&&◌, ◌++◌, ◌+◌, ◌<◌, ◌==◌}
use Rattle.stack_engine.proofs.Words.{◌^◌, ◌||◌, ◌∙◌, ◌∷◌, ◌≡◌, ◌≢◌, ◌≤◌}
use Rattle.stack_engine.proofs.Words.{guard_step, tick_step}
use Rattle.stack_engine.proofs.one.Sent.{and-parts, came}
use Rattle.stack_engine.proofs.two.PairPromises.{nil-is, not-true}

-- P holds if the test is true
abbrev Tells : {X : Type 0} → (X → Bool) → (X → Type 0) → Type 0
Tells {X} t P = (x : X) → t x ≡ true → P x

-- of each element
abbrev pub all_of : {X : Type 0} → (X → Bool) → List X → Bool
all_of t [] = true
all_of t (x ∷ xs) = t x && all_of t xs

all-of : {X : Type 0} (t : X → Bool) (P : X → Type 0) → Tells t P → (xs : List X) → all_of t xs ≡ true
    → AllByRecursion P xs
all-of t P tells [] h = tt
all-of t P tells (x ∷ xs) h =
    let parts = and-parts (t x) (all_of t xs) h in
    (tells x parts.0, all-of t P tells xs parts.1)

-- of an end that was opened
abbrev if_opened : (EndState → Bool) → Option EndState → Bool
if_opened t None = true
if_opened t (Some x) = t x

at-opened : (t : EndState → Bool) (P : EndState → Type 0) → Tells t P → (x : Option EndState) → if_opened t x ≡ true
    → AtOpened P x
at-opened t P tells None h = tt
at-opened t P tells (Some x) h = tells x h

-- of each part that a call brings up
abbrev TellsUp : (EndState → List ℕ → Bool) → (EndState → List ℕ → Type 0) → Type 0
TellsUp t P = (x : EndState) (octets : List ℕ) → t x octets ≡ true → P x octets

abbrev at_parts : (EndState → List ℕ → Bool) → ℕ → List Part → EndState → Bool
at_parts t now [] x = true
at_parts t now (p ∷ ps) x = t x p.1 && at_parts t now ps (part_step now p.1 x)

abbrev at_input : (EndState → List ℕ → Bool) → ℕ → Input → EndState → Bool
at_input t now i x = at_parts t now (parts_passed i x.red) (with_input i x)

abbrev at_call : (EndState → List ℕ → Bool) → Call → EndState → Bool
at_call t (Tick now) x = at_input t now (RedTick now) (tick_step now x)
at_call t (Deliver channel octets now) x = at_input t now (Datagram octets now) (guard_step now x)
at_call t _ x = true

module _ (t : EndState → List ℕ → Bool) (P : EndState → List ℕ → Type 0) (tells : TellsUp t P) where
  at-parts : (now : ℕ) (ps : List Part) (x : EndState) → at_parts t now ps x ≡ true → AtParts P now ps x
  at-parts now [] x h = tt
  at-parts now (p ∷ ps) x h =
      let parts = and-parts (t x p.1) (at_parts t now ps (part_step now p.1 x)) h in
      (tells x p.1 parts.0, at-parts now ps (part_step now p.1 x) parts.1)

  at-call : (c : Call) (x : EndState) → at_call t c x ≡ true → AtCall P c x
  at-call (Tick now) x h = λ up still. at-parts now _ _ h
  at-call (Deliver channel octets now) x h = λ up still. at-parts now _ _ h
  at-call _ x h = tt

-- genuine: a part that an end is asked about is live
abbrev is_genuine_part : Option EndState → ℕ → EndState → List ℕ → Bool
is_genuine_part peer dead x octets = not (is_asked_of x octets) || is_live x peer dead octets

implied : (a b : Bool) → (not a || b) ≡ true → a ≡ true → b ≡ true
implied true b h asked = h
implied false b h asked = cc

genuine-part : (peer : Option EndState) (dead : ℕ) → TellsUp (is_genuine_part peer dead) (IsGenuine peer dead)
genuine-part peer dead x octets h up asked = implied (is_asked_of x octets) (is_live x peer dead octets) h asked

-- a timeout check that finds neither its time passed nor its limit reached does not change the machine
abbrev leaves_by_guard : ℕ → State → Bool
leaves_by_guard now s = is_alive s.connection
    && (nat_le (s.confirmed_at + s.settings.t_max) now || nat_le s.settings.pdu_limit (length s.made))

guard-cases : (live late full : Bool) (a b s : State) → (live && (late || full)) ≡ false
    → (if live then (if late then a else if full then b else s) else s) ≡ s
guard-cases false late full a b s h = refl
guard-cases true false false a b s h = refl
guard-cases true false true a b s h = cc
guard-cases true true full a b s h = cc

abbrev stays_at : ℕ → EndState → List ℕ → Bool
stays_at now x octets = not (leaves_by_guard now x.machine)

stays-at : (now : ℕ) → TellsUp (stays_at now) (λ x octets. GuardHolds x.machine now)
stays-at now x octets h =
    let s = x.machine in
    guard-is now s
    ∙ guard-cases (is_alive s.connection) (nat_le (s.confirmed_at + s.settings.t_max) now)
    (nat_le s.settings.pdu_limit (length s.made))
    (leave Timeout Unspecified now s) (leave ProtocolError Limit now s) s (not-true (leaves_by_guard now s) h)

-- what arrives carries a PDU of the peer
abbrev is_carried : CodeRule → List Made → List ℕ → Bool
is_carried rule [] octets = false
is_carried rule (m ∷ later) octets = bytes_eq octets (upper_of rule m)

abbrev carries : Option EndState → Part → Bool
carries None p = false
carries (Some peer) p = is_carried (rule_of peer.settings) (drop p.0 peer.machine.made) p.1

carried : (rule : CodeRule) (made ms : List Made) (k : ℕ) (octets : List ℕ) → drop k made ≡ ms
    → is_carried rule ms octets ≡ true
    → (m : Made) × (later : List Made) × (drop k made ≡ m ∷ later) × (octets ≡ upper_of rule m)
carried rule made [] k octets at h = cc
carried rule made (m ∷ later) k octets at h = (m, later, at, (bytes_eq-Decides octets (upper_of rule m)).0 h)

carries-part : (peer : Option EndState) → Tells (carries peer) (CarriesPdu peer)
carries-part None p h = cc
carries-part (Some peer) p h =
    carried (rule_of peer.settings) peer.machine.made (drop p.0 peer.machine.made) p.0 p.1 refl h

-- a call that is not a close, that brings what the peer made and is live, and at which no timeout check disconnects
abbrev good_part : Option EndState → ℕ → ℕ → EndState → List ℕ → Bool
good_part peer dead now x octets = is_genuine_part peer dead x octets && stays_at now x octets

abbrev good_call : Option EndState → ℕ → Call → EndState → Bool
good_call peer dead (Close now) x = false
good_call peer dead (Tick now) x = stays_at now x [] && at_call (good_part peer dead now) (Tick now) x
good_call peer dead (Deliver channel octets now) x =
    (stays_at now x [] && at_call (good_part peer dead now) (Deliver channel octets now) x)
    && (all_of (λ (p : Part). is_genuine_part peer dead x p.1) (arrivals_of (Datagram octets now))
    && all_of (carries peer) (arrivals_of (Datagram octets now)))
good_call peer dead _ x = true

good-call : (peer : Option EndState) (dead : ℕ) (c : Call)
    → Tells (good_call peer dead c) (λ x. GenuineCall peer dead c x × FaithfulCall peer c x)
good-call peer dead (Close now) x h = cc
good-call peer dead (Tick now) x h =
    let here = and-parts (stays_at now x []) (at_call (good_part peer dead now) (Tick now) x) h in (
      (tt, at-call _ _ (λ y octets k. genuine-part peer dead y octets (and-parts _ _ k).0) (Tick now) x here.1),
      (
        tt,
        tt,
        (
          stays-at now x [] here.0,
          at-call _ _ (λ y octets k. stays-at now y octets (and-parts _ _ k).1)
              (Tick now) x here.1,
        ),
      ),
    )
good-call peer dead (Deliver channel octets now) x h =
    let c = Deliver channel octets now in
    let ps = arrivals_of (Datagram octets now) in
    let both = and-parts (stays_at now x [] && at_call (good_part peer dead now) c x) _ h in
    let here = and-parts (stays_at now x []) (at_call (good_part peer dead now) c x) both.0 in
    let came = and-parts (all_of (λ (p : Part). is_genuine_part peer dead x p.1) ps) (all_of (carries peer) ps) both.1
    in (
      (
        all-of _ _ (λ p. genuine-part peer dead x p.1) ps came.0,
        at-call _ _ (λ y part_step k. genuine-part peer dead y part_step (and-parts _ _ k).0) c x here.1,
      ),
      (
        tt,
        all-of (carries peer) (CarriesPdu peer) (carries-part peer) ps came.1,
        (
          stays-at now x [] here.0,
          at-call _ _ (λ y part_step k. stays-at now y part_step (and-parts _ _ k).1) c x
              here.1,
        ),
      ),
    )
good-call peer dead _ x h = ((tt, tt), (tt, tt, tt))

abbrev is_good : Event → World → Bool
is_good (Calls Il c) w = if_opened (good_call (present Fe w) w.dead_fe c) (present Il w)
is_good (Calls Fe c) w = if_opened (good_call (present Il w) w.dead_il c) (present Fe w)
is_good _ w = true

-- and each end is opened once
abbrev opens_once : Event → World → Bool
opens_once (Open Il s first now) w = is_nil w.ils
opens_once (Open Fe s first now) w = is_nil w.fes
opens_once _ w = true

genuine-event : (e : Event) (w : World) → is_good e w ≡ true → GenuineEvent e w
genuine-event (Calls Il c) w h = at-opened _ _ (λ x k. (good-call (present Fe w) w.dead_fe c x k).0) (present Il w) h
genuine-event (Calls Fe c) w h = at-opened _ _ (λ x k. (good-call (present Il w) w.dead_il c x k).0) (present Fe w) h
genuine-event _ w h = tt

faithful-event : (e : Event) (w : World) → opens_once e w ≡ true → is_good e w ≡ true → FaithfulEvent e w
faithful-event (Open Il s first now) w once h = nil-is w.ils once
faithful-event (Open Fe s first now) w once h = nil-is w.fes once
faithful-event (Calls Il c) w once h =
    at-opened _ _ (λ x k. (good-call (present Fe w) w.dead_fe c x k).1) (present Il w) h
faithful-event (Calls Fe c) w once h =
    at-opened _ _ (λ x k. (good-call (present Il w) w.dead_il c x k).1) (present Fe w) h

abbrev pub are_good : List Event → World → Bool
are_good [] w = true
are_good (e ∷ es) w = is_good e w && are_good es (apply_event w e)

pub all-genuine : (es : List Event) (w : World) → are_good es w ≡ true → Genuine es w
all-genuine [] w h = tt
all-genuine (e ∷ es) w h =
    let parts = and-parts (is_good e w) (are_good es (apply_event w e)) h in
    ((λ on. genuine-event e w parts.0), all-genuine es (apply_event w e) parts.1)

-- a call that brings only parts that are live, or of which the premise does not speak
abbrev genuine_call : Option EndState → ℕ → Call → EndState → Bool
genuine_call peer dead (Deliver channel octets now) x =
    all_of (λ (p : Part). is_genuine_part peer dead x p.1) (arrivals_of (Datagram octets now))
    && at_call (is_genuine_part peer dead) (Deliver channel octets now) x
genuine_call peer dead (Tick now) x = at_call (is_genuine_part peer dead) (Tick now) x
genuine_call peer dead _ x = true

genuine-call : (peer : Option EndState) (dead : ℕ) (c : Call)
    → Tells (genuine_call peer dead c) (GenuineCall peer dead c)
genuine-call peer dead (Deliver channel octets now) x h =
    let ps = arrivals_of (Datagram octets now) in
    let c = Deliver channel octets now in
    let parts = and-parts (all_of (λ (p : Part). is_genuine_part peer dead x p.1) ps)
    (at_call (is_genuine_part peer dead) c x) h in
    (all-of _ _ (λ p. genuine-part peer dead x p.1) ps parts.0, at-call _ _ (genuine-part peer dead) c x parts.1)
genuine-call peer dead (Tick now) x h = (tt, at-call _ _ (genuine-part peer dead) (Tick now) x h)
genuine-call peer dead _ x h = (tt, tt)

abbrev brings_live : Event → World → Bool
brings_live (Calls Il c) w = if_opened (genuine_call (present Fe w) w.dead_fe c) (present Il w)
brings_live (Calls Fe c) w = if_opened (genuine_call (present Il w) w.dead_il c) (present Fe w)
brings_live _ w = true

brings-live : (e : Event) (w : World) → brings_live e w ≡ true → GenuineEvent e w
brings-live (Calls Il c) w h = at-opened _ _ (genuine-call (present Fe w) w.dead_fe c) (present Il w) h
brings-live (Calls Fe c) w h = at-opened _ _ (genuine-call (present Il w) w.dead_il c) (present Fe w) h
brings-live _ w h = tt

-- each event of a list is genuine, whatever else it brings
abbrev pub are_genuine : List Event → World → Bool
are_genuine [] w = true
are_genuine (e ∷ es) w = brings_live e w && are_genuine es (apply_event w e)

pub genuine-by : (es : List Event) (w : World) → are_genuine es w ≡ true → Genuine es w
genuine-by [] w h = tt
genuine-by (e ∷ es) w h =
    let parts = and-parts (brings_live e w) (are_genuine es (apply_event w e)) h in
    ((λ on. brings-live e w parts.0), genuine-by es (apply_event w e) parts.1)

-- numbers are compared by computing
at-most : (a b : ℕ) → nat_le a b ≡ true → a ≤ b
at-most a b h = grind (arith, nat_tests)

below : (a b : ℕ) → nat_lt a b ≡ true → a < b
below a b h = grind (arith, nat_tests)

equals : (a b : ℕ) → (a == b) ≡ true → a ≡ b
equals a b h = grind (arith, nat_tests)

-- near, and no deferral deadline falls
abbrev are_at_most : ℕ → List Part → Bool
are_at_most bound ps = all_of (λ (p : Part). nat_le p.0 bound) ps

all-at-most : (bound : ℕ) (ps : List Part) → are_at_most bound ps ≡ true → AreAtMost bound ps
all-at-most bound [] h = tt
all-at-most bound (p ∷ ps) h =
    let parts = and-parts (nat_le p.0 bound) (are_at_most bound ps) h in
    (at-most p.0 bound parts.0, all-at-most bound ps parts.1)

abbrev arrives_near : ℕ → List Part → List Input → Bool
arrives_near q before [] = true
arrives_near q before (e ∷ es) =
    are_at_most (first_missing before + q) (arrivals_of e) && arrives_near q (before ++ arrivals_of e) es

all-near : (q : ℕ) (before : List Part) (es : List Input) → arrives_near q before es ≡ true → QNear q before es
all-near q before [] h = tt
all-near q before (e ∷ es) h =
    let parts = and-parts (are_at_most (first_missing before + q) (arrivals_of e))
    (arrives_near q (before ++ arrivals_of e) es) h in
    (all-at-most (first_missing before + q) (arrivals_of e) parts.0, all-near q (before ++ arrivals_of e) es parts.1)

abbrev is_in_time : ℕ → ℕ → Option ℕ → Bool
is_in_time t_seq now None = true
is_in_time t_seq now (Some began) = nat_lt now (began + t_seq)

in-time : (t_seq now : ℕ) (began : Option ℕ) → is_in_time t_seq now began ≡ true → IsInTime t_seq now began
in-time t_seq now None h = tt
in-time t_seq now (Some began) h = below now (began + t_seq) h

abbrev falls_no_deadline : ℕ → Wait → List Input → Bool
falls_no_deadline t_seq w [] = true
falls_no_deadline t_seq w (e ∷ es) =
    is_in_time t_seq (moment_of e) w.began && falls_no_deadline t_seq (wait_after e w) es

no-deadline : (t_seq : ℕ) (w : Wait) (es : List Input) → falls_no_deadline t_seq w es ≡ true
    → NoDeadlineFalls t_seq w es
no-deadline t_seq w [] h = tt
no-deadline t_seq w (e ∷ es) h =
    let parts = and-parts (is_in_time t_seq (moment_of e) w.began) (falls_no_deadline t_seq (wait_after e w) es) h in
    (in-time t_seq (moment_of e) w.began parts.0, no-deadline t_seq (wait_after e w) es parts.1)

abbrev is_near : EndState → Bool
is_near x = arrives_near x.settings.q [] x.inputs && falls_no_deadline x.settings.t_seq no_wait x.inputs

near : Tells is_near IsNear
near x h =
    let parts = and-parts (arrives_near x.settings.q [] x.inputs) (falls_no_deadline x.settings.t_seq no_wait x.inputs)
    h in
    (all-near x.settings.q [] x.inputs parts.0, no-deadline x.settings.t_seq no_wait x.inputs parts.1)

-- the numbers below n have arrived
abbrev has_all : ℕ → List Part → Bool
has_all zero parts = true
has_all (suc n) parts = has_number n parts && has_all n parts

all-below : (n k : ℕ) (parts : List Part) → has_all n parts ≡ true → k < n → has_number k parts ≡ true
all-below zero k parts h under = absurd (omega (arith, under))
all-below (suc n) k parts h under =
    let both = and-parts (has_number n parts) (has_all n parts) h in
    elim (cases_lt k n) [
      | inl less ↦ all-below n k parts both.1 less
      | inr least ↦ let last : n ≡ k =
          omega (arith, under, least) in subst (λ (i : ℕ). has_number i parts ≡ true) last both.0
    ]

-- the second end's PDUs have all come to the first
abbrev has_come : EndState → EndState → Bool
has_come x peer = has_all (length peer.machine.made) (arrivals x.inputs)

all-arrived : (x peer : EndState) → has_come x peer ≡ true → AllArrived x peer
all-arrived x peer h k under = all-below (length peer.machine.made) k (arrivals x.inputs) h under

-- numbers and names are crossed, and the version is one that the field element takes
abbrev is_crossed : EndState → EndState → Bool
is_crossed x peer =
    (x.settings.connection.own == peer.settings.connection.peer)
    && bytes_eq x.settings.addressing.own peer.settings.addressing.peer

abbrev is_match : EndState → EndState → Bool
is_match il fe =
    (il.settings.addressing.protocol == fe.settings.addressing.protocol)
    && (list_any (λ v. v == first_version il.settings.versions) fe.settings.versions
    && (is_crossed il fe && is_crossed fe il))

-- both ends have this rule of the code
abbrev pub HasRule : CodeRule → EndState → Type 0
HasRule rule x = rule_of x.settings ≡ rule

match : (rule : CodeRule) (il fe : EndState) → HasRule rule il → HasRule rule fe → is_match il fe ≡ true → Match il fe
match rule il fe il_rule fe_rule h =
    let one = and-parts _ _ h in
    let two = and-parts _ _ one.1 in
    let three = and-parts _ _ two.1 in
    let il_crossed = and-parts _ _ three.0 in
    let fe_crossed = and-parts _ _ three.1 in
    record {
      rule = il_rule ∙ sym fe_rule;
      protocol = equals il.settings.addressing.protocol fe.settings.addressing.protocol one.0;
      version = two.0;
      il_identifier = equals il.settings.connection.own fe.settings.connection.peer il_crossed.0;
      fe_identifier = equals fe.settings.connection.own il.settings.connection.peer fe_crossed.0;
      il_name = (bytes_eq-Decides il.settings.addressing.own fe.settings.addressing.peer).0 il_crossed.1;
      fe_name = (bytes_eq-Decides fe.settings.addressing.own il.settings.addressing.peer).0 fe_crossed.1;
    }

some-taken : (x : EndState) → not (is_nil (taken_at x)) ≡ true → taken_at x ≢ []
some-taken x h none = let no : false ≡ true = subst (λ items. not (is_nil items) ≡ true) none h in cc

-- all of it, of ends that may not be there
abbrev is_whole : Option EndState → Option EndState → Bool
is_whole (Some il) (Some fe) =
    (has_come il fe && has_come fe il) && (is_match il fe && (not (is_nil (taken_at il)) && not (is_nil (taken_at fe))))
is_whole _ _ = false

arrived : (rule : CodeRule) (il fe : Option EndState) → AtOpened (HasRule rule) il → AtOpened (HasRule rule) fe
    → is_whole il fe ≡ true → OfBothOpened Arrived il fe
arrived rule None fe il_rule fe_rule h = cc
arrived rule (Some il) None il_rule fe_rule h = cc
arrived rule (Some il) (Some fe) il_rule fe_rule h =
    let one = and-parts _ _ h in
    let come = and-parts _ _ one.0 in
    let two = and-parts _ _ one.1 in
    let took = and-parts _ _ two.1 in
    record {
      at_il = all-arrived il fe come.0;
      at_fe = all-arrived fe il come.1;
      match = match rule il fe il_rule fe_rule two.0;
      status = some-taken il took.0;
      commands = some-taken fe took.1;
    }

same-rule : (rule : CodeRule) (il fe : Option EndState) → AtOpened (HasRule rule) il → AtOpened (HasRule rule) fe
    → OfBoth SameRule il fe
same-rule rule None fe h k = tt
same-rule rule (Some il) None h k = tt
same-rule rule (Some il) (Some fe) h k = h ∙ sym k

-- each event is genuine and faithful, and at the end all has arrived
abbrev pub is_course : List Event → World → Bool
is_course [] w =
    (if_opened is_near (present Il w) && if_opened is_near (present Fe w)) && is_whole (present Il w) (present Fe w)
is_course (e ∷ es) w = (is_good e w && opens_once e w) && is_course es (apply_event w e)

pub record Told (es : List Event) (w : World) : Type 0 where
  pub genuine : Genuine es w
  pub events : AllFaithful es w
  pub il_near : AtOpened IsNear (present Il (run es w))
  pub fe_near : AtOpened IsNear (present Fe (run es w))
  pub same_rule : OfBoth SameRule (present Il (run es w)) (present Fe (run es w))
  pub arrived : OfBothOpened Arrived (present Il (run es w)) (present Fe (run es w))

pub course : (rule : CodeRule) (es : List Event) (w : World) → AtOpened (HasRule rule) (present Il (run es w))
    → AtOpened (HasRule rule) (present Fe (run es w)) → is_course es w ≡ true → Told es w
course rule [] w il_rule fe_rule h =
    let one = and-parts _ _ h in
    let ends = and-parts _ _ one.0 in
    record {
      genuine = tt;
      events = tt;
      il_near = at-opened is_near IsNear near (present Il w) ends.0;
      fe_near = at-opened is_near IsNear near (present Fe w) ends.1;
      same_rule = same-rule rule (present Il w) (present Fe w) il_rule fe_rule;
      arrived = arrived rule (present Il w) (present Fe w) il_rule fe_rule one.1;
    }
course rule (e ∷ es) w il_rule fe_rule h =
    let one = and-parts (is_good e w && opens_once e w) (is_course es (apply_event w e)) h in
    let now = and-parts (is_good e w) (opens_once e w) one.0 in
    let rest = course rule es (apply_event w e) il_rule fe_rule one.1 in
    record {
      genuine = ((λ on. genuine-event e w now.0), rest.genuine);
      events = ((λ on. faithful-event e w now.1 now.0), rest.events);
      il_near = rest.il_near;
      fe_near = rest.fe_near;
      same_rule = rest.same_rule;
      arrived = rest.arrived;
    }

-- events of their types
abbrev pub is_typed : Event → Bool
is_typed (Calls side (Deliver channel octets now)) = all_of (λ (o : ℕ). nat_lt o 256) octets
is_typed (Calls side (Put kind payload now)) = nat_lt kind (256 ^ 2)
is_typed _ = true

typed : Tells is_typed IsTyped
typed (Calls side (Put kind payload now)) h = below kind (256 ^ 2) h
typed (Calls side (Deliver channel octets now)) h = all-of _ _ (λ o. below o 256) octets h
typed _ h = tt

pub all-typed : (es : List Event) → all_of is_typed es ≡ true → AreTyped es
all-typed es h = all-of is_typed IsTyped typed es h

-- what an accepted event of a faithful list is
pub faithful-at : (before : List Event) (e : Event) (later : List Event) (w : World)
    → AllFaithful (before ++ e ∷ later) w → refusal e (run before w) ≡ None
    → FaithfulEvent e (run before w)
faithful-at [] e later w h = h.0
faithful-at (b ∷ before) e later w h = faithful-at before e later (apply_event w b) h.1
