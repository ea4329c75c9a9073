-- The laws of two machines that receive the peer's PDUs one by one, in the order in which they were made.
use Rattle.safe_machine.proofs.Words.{◌≡◌, ◌≢◌, inl, inr, ℕ, ◌+◌, ◌≤◌, List, [], length, drop, Bool, true, false, refl, sym, ap, subst, ◌∙◌, arith, ltb-false}
use Rattle.safe_machine.proofs.Words.{DiscReq, Heartbeat, Data, Pdu, ConnectionState, Closed, Down, Start, Up, Reason, Detail, Made, leaving_body, State}
use Rattle.safe_machine.proofs.Words.{next_made, make, leave, guard, respond, arrive, tick, send, GenuineAt, GuardHolds, NextArrival, AllThere, is_live}
use Rattle.safe_machine.proofs.Words.{in_turn, ◌⊎◌, ◌∷◌, ◌++◌, Served, take, false≢true, cond_both, Il, Fe, ConnReq, opening_body, units, run_of, Settings}
use Rattle.safe_machine.proofs.Words.{is_legal, blank, new_state, World, Event, start, run, event_end, event_time, at_end, change_world, apply_event, GenuineEvent, Genuine}
use Rattle.safe_machine.proofs.Words.{Timely, as_role, open_il, open_fe, Open, Send, Close, Guard, Tick, Arrive, AsksNothing, KeepsOrder, InOrderEvent, InOrder}
use Rattle.safe_machine.proofs.Words.{heard_by_il, heard_by_fe, all_heard_by_il, all_heard_by_fe, OrderLaw, if◌then◌else◌, Kind, is_goodbye, decide, carry_out}
use Rattle.safe_machine.proofs.Words.{kept_of, is_close, has_close, StaysLaw, Hears, Move, Sends, HearsNothing, LeavesNow, move, Guards, Ticks, Decision}
use Rattle.safe_machine.proofs.two.Invariant.{Started, Solo, Pair, started-parts, is_opening, NotOpening, needs_peer}
use Rattle.safe_machine.proofs.one.DecisionCounts.{Bounded}
use Rattle.safe_machine.proofs.two.Lone.{pair-arrive, Lone, among-dropped, pair-move, lone-move}
use Rattle.safe_machine.proofs.two.Times.{Makes, makes-none, makes-move}
use Rattle.safe_machine.proofs.one.TurnSteps.{arrive-is}
use Rattle.safe_machine.proofs.one.Runs.{closed-move, leave-cases, heartbeat-cases, send-cases, closed_or, Every, every-at, every-from, every-drop_all, down_or}
use Rattle.safe_machine.proofs.one.Runs.{down≢closed, every-push, unit-cases, quiet-cases, when}
use Rattle.safe_machine.proofs.two.Freshness.{Both, both-makes, met-arrive, no_index, TInv, t-event, t-start, fe-past, opened-times}
use Rattle.safe_machine.proofs.order.OrderArrivals.{all-taken, good-bare, good-plain, state_of, opposite, Ends, ends-make, ends-closed, NextIn, next-ends}
use Rattle.safe_machine.proofs.order.OrderArrivals.{kinds-none, kinds-push, kinds-ordinary, ordinary-asks, taken-so_far, Beyond, End, Leads, next-leads}
use Rattle.safe_machine.proofs.two.Status.{Mute, Quiet, Untouched, mute-move}
use Rattle.safe_machine.proofs.two.Worlds.{met-opened, solo-il, solo-untouched, mute-il}
use Rattle.safe_machine.proofs.order.OrderArrivals.Leads.{takes}

-- Each step of an end keeps what holds for it and its peer while everything arrives in order.

-- An end and its peer, with the times of their last events.
pub record Two (client : Bool) (n k clock other : ℕ) (x y : State) : Type 0 where
  pub pair : Pair x y
  pub peer : Solo y
  pub both : Both clock other x y
  pub ends : Ends client n k x y

-- As the other end sees it.
pub two-swap : (client : Bool) (n k clock other : ℕ) (x y : State) → Two client n k clock other x y
    → Two (opposite client) k n other clock y x
two-swap client n k clock other x y h = grind arith

-- A step in which PDUs are made.
two-makes : (client : Bool) (n k clock other now : ℕ) (x t y : State) → clock ≤ now → Two client n k clock other x y
    → Pair t y → Makes now x t
    → Ends client n k t y → Two client n k now other t y
two-makes client n k clock other now x t y later h pair makes ends =
    record {
      pair = pair;
      peer = h.peer;
      both = both-makes clock other now x t y later h.pair.1 h.pair.2 h.both makes;
      ends = ends;
    }

pub two-later : (client : Bool) (n k clock other now : ℕ) (x y : State) → clock ≤ now → Two client n k clock other x y
    → Two client n k now other x y
two-later client n k clock other now x y later h =
    two-makes client n k clock other now x x y later h h.pair (makes-none now x) h.ends

-- An end that sends is up.
turn-open : (connection : ConnectionState) → in_turn connection ≡ true → connection ≢ Closed
turn-open connection turn = grind arith

turn-up : (client : Bool) (n : ℕ) → in_turn (state_of client n) ≡ true → state_of client n ≡ Up
turn-up client n turn = grind arith

-- An end that disconnects has made something.
goodbye-started : (connection : ConnectionState) (client : Bool) (expected : ℕ) (made : List Made)
    → is_live connection ≡ true
    → Started connection client expected made → 1 ≤ length made
goodbye-started connection client expected made says h = grind arith

ends-leave : (client : Bool) (n k : ℕ) (reason : Reason) (detail : Detail) (now : ℕ) (x y : State) → Pair x y
    → Ends client n k x y
    → Ends client n k (leave reason detail now x) y
ends-leave client n k reason detail now x y pair h =
    let body = leaving_body reason detail in
    let said = make DiscReq body now x in
    leave-cases (λ t. Ends client n k t y) reason detail now x
    (λ says.
    let some = goodbye-started x.connection x.settings.client x.expected x.made says pair.0.started in
    ends-closed Closed client n n k said y refl
    (ends-make client n k DiscReq body now x y pair.2.confirmed_behind
    (good-bare client x.settings.n_sendmax (length x.made) (next_made x DiscReq body now) some refl) h))
    (λ _. ends-closed Closed client n n k x y refl h)

ends-move : (client : Bool) (n k : ℕ) (m : Move) (x y : State) → HearsNothing m → Pair x y → Ends client n k x y
    → Ends client n k (move m x) y
ends-move client n k m x y quiet pair h =
    quiet-cases (λ t. Ends client n k t y) m x quiet h
    (λ reason detail. ends-leave client n k reason detail (when m) x y pair h)
    (λ connected _.
    let some = (started-parts x.connection x.settings.client x.expected x.made connected pair.0.started).1 in
    ends-make client n k Heartbeat [] (when m) x y pair.2.confirmed_behind
    (good-bare client x.settings.n_sendmax (length x.made) (next_made x Heartbeat [] (when m)) some refl) h)
    (λ unit turn _.
    let is : x.connection ≡ state_of client n = h.own.stands.state (turn-open x.connection turn) in
    let up : x.connection ≡ Up = is ∙ turn-up client n (ap in_turn (sym is) ∙ turn) in
    let s = subst (λ (c : ConnectionState). Started c x.settings.client x.expected x.made) up pair.0.started in
    ends-make client n k Data unit (when m) x y pair.2.confirmed_behind
    (good-plain client x.settings.n_sendmax (length x.made) (next_made x Data unit (when m)) s.1 (λ c. h.grown c up)
    refl) h)

pub two-move : (client : Bool) (n k clock other : ℕ) (m : Move) (x y : State) → HearsNothing m → clock ≤ when m
    → Two client n k clock other x y
    → Two client n k (when m) other (move m x) y
two-move client n k clock other m x y quiet later h =
    two-makes client n k clock other (when m) x (move m x) y later h (pair-move m x y quiet h.pair)
    (makes-move m x quiet)
    (ends-move client n k m x y quiet h.pair h.ends)

-- The next PDU in order, as it arrives at an end that is not closed.
pub next-in : (client : Bool) (n k clock other now : ℕ) (p : Pdu) (x y : State) → clock ≤ now
    → Two client n k clock other x y → Bounded x → Bounded y
    → x.settings.t_max ≤ 60000 → (a : NextArrival x p now n y.made) → x.connection ≢ Closed
    → NextIn client n k clock now a.made a.later x y
next-in client n k clock other now p x y later h bounded bounded_peer short a on = grind arith

ends-arrive : (client : Bool) (n k clock other now : ℕ) (p : Pdu) (x y : State) → clock ≤ now
    → Two client n k clock other x y → Bounded x → Bounded y
    → x.settings.t_max ≤ 60000 → NextArrival x p now n y.made → Ends client (n + 1) k (arrive p now x) y
ends-arrive client n k clock other now p x y later h bounded bounded_peer short a =
    elim (closed_or x.connection) [
      | inl closed ↦
          subst (λ (t : State). Ends client (n + 1) k t y) (sym (closed-move (Hears p now) x closed))
          (ends-closed x.connection client n (n + 1) k x y closed h.ends)
      | inr on ↦
          let next = next-in client n k clock other now p x y later h bounded bounded_peer short a on in
          let received : Ends client (n + 1) k (respond p now x) y =
          subst (λ (q : Pdu). Ends client (n + 1) k (respond q now x) y) a.is
          (next-ends client n k clock now a.made a.later x y next) in
          subst (λ (t : State). Ends client (n + 1) k t y) (sym (arrive-is p now x))
          (subst (λ (t : State). Ends client (n + 1) k (respond p now t) y) (sym a.holds) received)
    ]

pub two-arrive : (client : Bool) (n k clock other now dead : ℕ) (p : Pdu) (x y : State) → clock ≤ now
    → Two client n k clock other x y → Bounded x → Bounded y
    → x.settings.t_max ≤ 60000 → GenuineAt x p (drop dead y.made) → NextArrival x p now n y.made
    → Two client (n + 1) k now other (arrive p now x) y
two-arrive client n k clock other now dead p x y later h bounded bounded_peer short genuine a =
    record {
      pair = (pair-arrive now dead p x y h.pair h.peer bounded bounded_peer genuine).0;
      peer = h.peer;
      both = (met-arrive clock other now dead p x y later h.pair h.peer bounded bounded_peer short h.both genuine).both;
      ends = ends-arrive client n k clock other now p x y later h bounded bounded_peer short a;
    }

-- If everything has arrived at an end that is up.
pub two-all_there : (client : Bool) (n k clock other : ℕ) (x y : State) → Two client n k clock other x y
    → x.connection ≡ Up → 1 ≤ n → n ≡ length y.made
    → AllThere x y
two-all_there client n k clock other x y h up one all = grind (arith, turn-open, all-taken, ltb-false)

-- Two ends that have not met, each opened at most once: nothing arrives at the interlocking, and nothing at a field
-- element that is not closed.

-- n PDUs came to the interlocking, and k to the field element.
pub record Apart (n k : ℕ) (il fe : State) (fe_before : List Served) (dead_il : ℕ) : Type 0 where
  pub mute : Mute il
  pub none : n ≡ 0
  pub some : il.connection ≢ Closed → 1 ≤ length il.made
  pub first : (m : Made) (rest : List Made) → il.made ≡ m ∷ rest → is_opening m.pdu.kind ≡ 1
  pub still : (fe.connection ≡ Down) ⊎ (fe.connection ≡ Closed)
  pub made : fe.made ≡ []
  pub heard : fe.connection ≢ Closed → k ≡ 0
  pub unheard : fe_before ≡ [] → k ≡ 0
  pub opened : fe.connection ≢ Closed → fe_before ≢ []
  -- What the interlocking made before the field element was opened never arrives.
  pub dead : fe.connection ≢ Closed → Every NotOpening (drop dead_il il.made)

-- A step of the interlocking in which it takes nothing.
pub apart-il : (n k now : ℕ) (il t fe : State) (fe_before : List Served) (dead_il : ℕ) → Lone il t → Makes now il t
    → Mute t → Apart n k il fe fe_before dead_il
    → Apart n k t fe fe_before dead_il
apart-il n k now il t fe fe_before dead_il l makes mute h = grind arith

pub apart-fe : (n k : ℕ) (il fe t : State) (fe_before : List Served) (dead_il : ℕ) → Lone fe t
    → Apart n k il fe fe_before dead_il
    → Apart n k il t fe_before dead_il
apart-fe n k il fe t fe_before dead_il l h = grind arith

-- Nothing arrives at the interlocking.
pub apart-silent : {P : Type 0} (n k now : ℕ) (p : Pdu) (il fe : State) (fe_before : List Served) (dead_il : ℕ)
    → Apart n k il fe fe_before dead_il
    → NextArrival il p now n fe.made → P
apart-silent n k now p il fe fe_before dead_il h a = no_index n fe.made a.made a.later h.made a.at

-- The PDU that arrives at the field element in order is the ConnReq, which is dead: so the field element is closed.
pub apart-deaf : (n k now : ℕ) (p : Pdu) (il fe : State) (fe_before : List Served) (dead_il : ℕ)
    → Apart n k il fe fe_before dead_il
    → GenuineAt fe p (drop dead_il il.made) → NextArrival fe p now k il.made → fe.connection ≢ Closed → ⊥
apart-deaf n k now p il fe fe_before dead_il h genuine a on =
    let at_first : il.made ≡ a.made ∷ a.later = subst (λ (j : ℕ). drop j il.made ≡ a.made ∷ a.later) (h.heard on) a.at
    in
    let opens : is_opening p.kind ≡ 1 = ap (λ (q : Pdu). is_opening q.kind) (sym a.is)
    ∙ h.first a.made a.later at_first in
    let r = among-dropped p dead_il il.made (genuine on a.ours) in
    let plain : is_opening p.kind ≡ 0 = ap (λ (q : Pdu). is_opening q.kind) (sym r.4)
    ∙ every-at NotOpening dead_il r.0 il.made r.1 r.2 (h.dead on) r.5 r.3 in
    omega arith

-- The PDU that arrives at the field element in order is the ConnReq, which is dead, or the field element is closed.
pub apart-arrive : (n k now : ℕ) (p : Pdu) (il fe : State) (fe_before : List Served) (dead_il : ℕ)
    → Apart n k il fe fe_before dead_il → fe_before ≢ []
    → GenuineAt fe p (drop dead_il il.made) → NextArrival fe p now k il.made
    → Apart n (k + 1) il (arrive p now fe) fe_before dead_il
apart-arrive n k now p il fe fe_before dead_il h new_state genuine a =
    elim (closed_or fe.connection) [
      | inl closed ↦
          subst (λ (t : State). Apart n (k + 1) il t fe_before dead_il) (sym (closed-move (Hears p now) fe closed))
          (record {
            mute = h.mute;
            none = h.none;
            some = h.some;
            first = h.first;
            still = h.still;
            made = h.made;
            heard = λ on. absurd (on closed);
            unheard = λ e. absurd (new_state e);
            opened = h.opened;
            dead = h.dead;
          })
      | inr on ↦ absurd (apart-deaf n k now p il fe fe_before dead_il h genuine a on)
    ]

-- Over every list of events in which each end receives the peer's PDUs one by one, in the order in which they were
-- made, nothing is requested again and everything is taken.

-- The two have met, or they have not.
pub data Standing (n k : ℕ) (il : State) (il_before : List State) (fe : State) (fe_before : List Served)
    (dead_il il_clock fe_clock : ℕ) : Type 0 where
  joint : Two true n k il_clock fe_clock il fe → il_before ≢ [] → fe_before ≢ []
      → Standing n k il il_before fe fe_before dead_il il_clock fe_clock
  apart : Apart n k il fe fe_before dead_il → Standing n k il il_before fe fe_before dead_il il_clock fe_clock

abbrev pub StandsAt : (n k : ℕ) → World → (il_clock fe_clock : ℕ) → Type 0
StandsAt n k w il_clock fe_clock = Standing n k w.il w.il_before w.fe w.fe_before w.dead_il il_clock fe_clock

-- A step of the interlocking or of the field element, if the two have met and if they have not.
il-stands : (n n' k : ℕ) (w : World) (ci cf now : ℕ) (t : State)
    → (Two true n k ci cf w.il w.fe → Two true n' k now cf t w.fe)
    → (Apart n k w.il w.fe w.fe_before w.dead_il → Apart n' k t w.fe w.fe_before w.dead_il) →
    StandsAt n k w ci cf → Standing n' k t w.il_before w.fe w.fe_before w.dead_il now cf
il-stands n n' k w ci cf now t two one h = grind arith

fe-stands : (n k k' : ℕ) (w : World) (ci cf now : ℕ) (t : State)
    → (Two false k n cf ci w.fe w.il → Two false k' n now ci t w.il)
    → (Apart n k w.il w.fe w.fe_before w.dead_il → Apart n k' w.il t w.fe_before w.dead_il) →
    StandsAt n k w ci cf → Standing n k' w.il w.il_before t w.fe_before w.dead_il ci now
fe-stands n k k' w ci cf now t two one h = grind arith

-- Openings.
ends-opened : (settings : Settings) (first now : ℕ) (fe : State) → fe.connection ≡ Down → Untouched fe
    → Ends true 0 0 (new_state (as_role true settings) first now) fe
ends-opened settings first now fe down u =
    let il = new_state (as_role true settings) first now in
    let m = next_made (blank (as_role true settings) first now Start) ConnReq (opening_body settings.n_sendmax) now in
    let own : End true 0 il fe =
    record {
      role_is = refl;
      stands = record { state = λ _. refl; count = λ _. refl; window_is = λ _ one. absurd (omega arith) };
      kinds = kinds-push true settings.n_sendmax [] m (kinds-none true settings.n_sendmax [] refl) (refl, refl);
      beyond = every-from (Beyond 0) fe.made (λ i a ra at. λ one. omega arith);
    } in
    let peer : End false 0 fe il =
    record {
      role_is = u.server;
      stands = record { state = λ _. down; count = λ _. u.expected; window_is = λ _ one. absurd (omega arith) };
      kinds = kinds-none false fe.settings.n_sendmax fe.made u.made;
      beyond =
          every-from (Beyond fe.confirmed) (drop fe.expected il.made) (λ i a ra at. λ one. omega (arith, u.confirmed));
    } in
    record { own = own; peer = peer; grown = λ c up. absurd (start≢up up); grown_peer = λ c up. absurd (false≢true c) }
  where
    start≢up : Start ≡ Up → ⊥
    start≢up e = cc

two-opened : (n k : ℕ) (settings : Settings) (first now cf : ℕ) (fe : State) → is_legal settings ≡ true
    → fe.connection ≡ Down → Untouched fe
    → fe.confirmed_at ≤ cf → n ≡ 0 → k ≡ 0 → Two true n k now cf (new_state (as_role true settings) first now) fe
two-opened n k settings first now cf fe legal down u past none_il none_fe =
    let il = new_state (as_role true settings) first now in
    let halves = met-opened settings first now fe down u in
    let at_none : Two true 0 0 now cf il fe =
    record {
      pair = (solo-il settings first now legal, halves.0, halves.1);
      peer = solo-untouched fe down u;
      both = opened-times settings first now cf fe u past;
      ends = ends-opened settings first now fe down u;
    } in
    subst (λ (i : ℕ). Two true i k now cf il fe) (sym none_il)
    (subst (λ (j : ℕ). Two true 0 j now cf il fe) (sym none_fe) at_none)

some-before : (A : Type 0) (a : A) (before : List A) → a ∷ before ≢ []
some-before A a before e = cc

stands-open_il : (n k : ℕ) (settings : Settings) (first now : ℕ) (w : World) (ci cf : ℕ) → TInv w ci cf
    → is_legal settings ≡ true → w.il_before ≡ []
    → StandsAt n k w ci cf → StandsAt n k (open_il settings first now w) now cf
stands-open_il n k settings first now w ci cf t legal first_time (joint h il_opened fe_opened) =
    absurd (il_opened first_time)
stands-open_il n k settings first now w ci cf t legal first_time (apart h) =
    elim (down_or w.fe.connection) [
      | inl down ↦
          let on : w.fe.connection ≢ Closed = λ e. down≢closed (sym down ∙ e) in
          joint (two-opened n k settings first now cf w.fe legal down (t.inv.idle down).0 (fe-past w ci cf t down)
          h.none (h.heard on))
          (some-before State w.il w.il_before) (h.opened on)
      | inr not_down ↦
          let closed : w.fe.connection ≡ Closed = elim h.still [ inl down ↦ absurd (not_down down) | inr e ↦ e ] in
          apart (record {
            mute = mute-il settings first now;
            none = h.none;
            some = λ on. omega arith;
            first = λ m rest e. let here : next_made (blank (as_role true settings) first now Start) ConnReq
                (opening_body settings.n_sendmax) now ≡ m = cc in
                ap (λ (v : Made). is_opening v.pdu.kind) (sym here);
            still = h.still;
            made = h.made;
            heard = h.heard;
            unheard = h.unheard;
            opened = h.opened;
            dead = λ on. absurd (on closed);
          })
    ]

stands-open_fe : (n k : ℕ) (settings : Settings) (first now : ℕ) (w : World) (ci cf : ℕ) → w.fe_before ≡ []
    → StandsAt n k w ci cf
    → StandsAt n k (open_fe settings first now w) ci now
stands-open_fe n k settings first now w ci cf first_time (joint h il_opened fe_opened) = absurd (fe_opened first_time)
stands-open_fe n k settings first now w ci cf first_time (apart h) =
    apart (record {
      mute = h.mute;
      none = h.none;
      some = h.some;
      first = h.first;
      still = inl refl;
      made = refl;
      heard = λ on. h.unheard first_time;
      unheard = λ e. absurd (some-before Served (record { machine = w.fe; joined = w.joined }) w.fe_before e);
      opened = λ on. some-before Served (record { machine = w.fe; joined = w.joined }) w.fe_before;
      dead = λ on. every-drop_all NotOpening w.il.made;
    })

-- A move that is not an arrival.
il-quiet_stands : (n k : ℕ) (w : World) (ci cf : ℕ) (m : Move) → HearsNothing m → ci ≤ when m → TInv w ci cf
    → StandsAt n k w ci cf
    → Standing n k (move m w.il) w.il_before w.fe w.fe_before w.dead_il (when m) cf
il-quiet_stands n k w ci cf m quiet later t =
    il-stands n n k w ci cf (when m) (move m w.il) (two-move true n k ci cf m w.il w.fe quiet later)
    (λ a. apart-il n k (when m) w.il (move m w.il) w.fe w.fe_before w.dead_il (lone-move m w.il quiet t.inv.bounded_il)
    (makes-move m w.il quiet)
    (mute-move m w.il quiet a.mute) a)

fe-quiet_stands : (n k : ℕ) (w : World) (ci cf : ℕ) (m : Move) → HearsNothing m → cf ≤ when m → TInv w ci cf
    → StandsAt n k w ci cf
    → Standing n k w.il w.il_before (move m w.fe) w.fe_before w.dead_il ci (when m)
fe-quiet_stands n k w ci cf m quiet later t =
    fe-stands n k k w ci cf (when m) (move m w.fe) (two-move false k n cf ci m w.fe w.il quiet later)
    (apart-fe n k w.il w.fe (move m w.fe) w.fe_before w.dead_il (lone-move m w.fe quiet t.inv.bounded_fe))

-- Every event keeps it.
pub stands-event : (n k : ℕ) (w : World) (e : Event) (ci cf : ℕ) → TInv w ci cf → GenuineEvent w e
    → at_end (event_end e) ci cf ≤ event_time e
    → InOrderEvent n k w e → StandsAt n k w ci cf →
    StandsAt (heard_by_il e n) (heard_by_fe e k) (change_world w e) (at_end (event_end e) (event_time e) ci)
    (at_end (event_end e) cf (event_time e))
stands-event n k w (Open Il settings first now) ci cf t g later o h =
    cond_both (is_legal settings) (open_il settings first now w) w (λ v. StandsAt n k v now cf)
    (λ legal. stands-open_il n k settings first now w ci cf t legal o h)
    (λ _. il-stands n n k w ci cf now w.il (two-later true n k ci cf now w.il w.fe later) (λ a. a) h)
stands-event n k w (Open Fe settings first now) ci cf t g later o h =
    cond_both (is_legal settings) (open_fe settings first now w) w (λ v. StandsAt n k v ci now)
    (λ legal. stands-open_fe n k settings first now w ci cf o h)
    (λ _. fe-stands n k k w ci cf now w.fe (two-later false k n cf ci now w.fe w.il later) (λ a. a) h)
stands-event n k w (Send Il unit now) ci cf t g later o h = il-quiet_stands n k w ci cf (Sends unit now) tt later t h
stands-event n k w (Send Fe unit now) ci cf t g later o h = fe-quiet_stands n k w ci cf (Sends unit now) tt later t h
stands-event n k w (Close Il reason detail now) ci cf t g later o h =
    il-quiet_stands n k w ci cf (LeavesNow reason detail now) tt later t h
stands-event n k w (Close Fe reason detail now) ci cf t g later o h =
    fe-quiet_stands n k w ci cf (LeavesNow reason detail now) tt later t h
stands-event n k w (Guard Il now) ci cf t g later o h = il-quiet_stands n k w ci cf (Guards now) tt later t h
stands-event n k w (Guard Fe now) ci cf t g later o h = fe-quiet_stands n k w ci cf (Guards now) tt later t h
stands-event n k w (Tick Il now) ci cf t g later o h = il-quiet_stands n k w ci cf (Ticks now) tt later t h
stands-event n k w (Tick Fe now) ci cf t g later o h = fe-quiet_stands n k w ci cf (Ticks now) tt later t h
stands-event n k w (Arrive Il p now) ci cf t g later o h =
    il-stands n (n + 1) k w ci cf now (arrive p now w.il)
    (λ two. two-arrive true n k ci cf now w.dead_fe p w.il w.fe later two t.inv.bounded_il t.inv.bounded_fe t.short_il g
    o.1)
    (λ a. apart-silent n k now p w.il w.fe w.fe_before w.dead_il a o.1) h
stands-event n k w (Arrive Fe p now) ci cf t g later o h =
    fe-stands n k (k + 1) w ci cf now (arrive p now w.fe)
    (λ two. two-arrive false k n cf ci now w.dead_il p w.fe w.il later two t.inv.bounded_fe t.inv.bounded_il t.short_fe
    g o.1)
    (λ a. apart-arrive n k now p w.il w.fe w.fe_before w.dead_il a o.0 g o.1) h

-- What follows from it.
quiet-asks : (ms : List Made) → Every Quiet ms → AsksNothing ms
quiet-asks [] h = tt
quiet-asks (m ∷ ms) h = ((λ e. absurd (omega (arith, h.0, ap needs_peer e))), quiet-asks ms h.1)

apart-keeps : (n k : ℕ) (w : World) (ci cf : ℕ) → TInv w ci cf → Apart n k w.il w.fe w.fe_before w.dead_il
    → KeepsOrder n k w
apart-keeps n k w ci cf t h = grind (arith, quiet-asks)

two-taken : (client : Bool) (n k clock other : ℕ) (x y : State) → Two client n k clock other x y → x.connection ≢ Closed
    → x.taken ≡ units (take n y.made)
two-taken client n k clock other x y h on =
    taken-so_far x.taken n y.made (kinds-ordinary (opposite client) y.settings.n_sendmax y.made h.ends.peer.kinds)
    (subst (λ (i : ℕ). x.taken ++ (run_of (drop i y.made) ++ []) ≡ units y.made) (h.ends.own.stands.count on)
    h.pair.2.carried)

-- If everything has arrived, both are up.
record BothUp (n k : ℕ) (il fe : State) : Type 0 where
  il_up : il.connection ≡ Up
  fe_up : fe.connection ≡ Up
  some_il : 1 ≤ n
  some_fe : 1 ≤ k

both-up : (n k ci cf : ℕ) (il fe : State) → Two true n k ci cf il fe → il.connection ≢ Closed → fe.connection ≢ Closed
    → n ≡ length fe.made → k ≡ length il.made
    → BothUp n k il fe
both-up n k ci cf il fe h on on_fe all_il all_fe = grind arith

joint-keeps : (n k : ℕ) (w : World) (ci cf : ℕ) → Two true n k ci cf w.il w.fe → KeepsOrder n k w
joint-keeps n k w ci cf h =
    let swapped = two-swap true n k ci cf w.il w.fe h in
    record {
      il_asks_nothing =
          ordinary-asks w.il.made (kinds-ordinary true w.il.settings.n_sendmax w.il.made h.ends.own.kinds);
      fe_asks_nothing =
          ordinary-asks w.fe.made (kinds-ordinary false w.fe.settings.n_sendmax w.fe.made h.ends.peer.kinds);
      client = h.ends.own.stands.state;
      server = h.ends.peer.stands.state;
      il_taken = two-taken true n k ci cf w.il w.fe h;
      fe_taken = two-taken false k n cf ci w.fe w.il swapped;
      il_all =
          λ on on_fe all_il all_fe.
          let b = both-up n k ci cf w.il w.fe h on on_fe all_il all_fe in
          two-all_there true n k ci cf w.il w.fe h b.il_up b.some_il all_il;
      fe_all =
          λ on on_fe all_il all_fe.
          let b = both-up n k ci cf w.il w.fe h on on_fe all_il all_fe in
          two-all_there false k n cf ci w.fe w.il swapped b.fe_up b.some_fe all_fe;
    }

stands-keeps : (n k : ℕ) (w : World) (ci cf : ℕ) → TInv w ci cf → StandsAt n k w ci cf → KeepsOrder n k w
stands-keeps n k w ci cf t (joint h il_opened fe_opened) = joint-keeps n k w ci cf h
stands-keeps n k w ci cf t (apart h) = apart-keeps n k w ci cf t h

order-run : (events : List Event) (n k : ℕ) (w : World) → TInv w w.clock_il w.clock_fe → Genuine events w
    → Timely events w → InOrder n k events w
    → StandsAt n k w w.clock_il w.clock_fe → KeepsOrder (all_heard_by_il events n) (all_heard_by_fe events k)
    (run events w)
order-run [] n k w t g later o h = stands-keeps n k w w.clock_il w.clock_fe t h
order-run (e ∷ es) n k w t g later o h =
    order-run es (heard_by_il e n) (heard_by_fe e k) (apply_event w e)
    (t-event w e w.clock_il w.clock_fe t g.0 later.0).0 g.1 later.1 o.1
    (stands-event n k w e w.clock_il w.clock_fe t g.0 later.0 o.0 h)

pub stands-start : StandsAt 0 0 start 0 0
stands-start = grind arith

-- The law.
pub order_law_holds : OrderLaw
order_law_holds events genuine timely order = order-run events 0 0 start t-start genuine timely order stands-start

-- In order, only a DiscReq closes an end that is not closed, and no other PDU causes it to make a DiscReq.

-- It is not a DiscReq.
abbrev pub Remains : Made → Type 0
Remains m = is_goodbye m.pdu.kind ≡ false

-- An end that is not closed, and has made no DiscReq.
abbrev pub IsOpen : State → Type 0
IsOpen s = (s.connection ≢ Closed) × Every Remains s.made

pub open-make : (kind : Kind) (body : List ℕ) (now : ℕ) (s : State) → is_goodbye kind ≡ false → IsOpen s
    → IsOpen (make kind body now s)
open-make kind body now s e h = (h.0, every-push Remains s.made (next_made s kind body now) h.1 e)

-- The next PDU in order leaves an open end open, if it is not a DiscReq.
leads-open : (client : Bool) (n now : ℕ) (p : Pdu) (x y : State) (d : Decision) → Leads client n p x y d
    → is_goodbye p.kind ≡ false → IsOpen x
    → IsOpen (carry_out p now d x)
leads-open client n now p x y d h stays k = grind (arith, false≢true, takes, unit-cases, open-make, every-push)

-- Over every list of events in order in which no caller closes an end, no end that was opened closes.

-- Each end that was opened is open.
record OpenBoth (w : World) : Type 0 where
  il : w.il_before ≢ [] → IsOpen w.il
  fe : w.fe_before ≢ [] → IsOpen w.fe

open-send : (unit : List ℕ) (now : ℕ) (s : State) → IsOpen s → IsOpen (send unit now s)
open-send unit now s h = send-cases IsOpen unit now s (λ _ _. open-make Data unit now s refl h) h

open-guard : (now : ℕ) (s : State) → GuardHolds s now → IsOpen s → IsOpen (guard now s)
open-guard now s holds h = subst IsOpen (sym holds) h

open-tick : (now : ℕ) (s : State) → GuardHolds s now → IsOpen s → IsOpen (tick now s)
open-tick now s holds h = grind (arith, heartbeat-cases, open-make)

open-opened : (client : Bool) (settings : Settings) (first now : ℕ)
    → IsOpen (new_state (as_role client settings) first now)
open-opened client settings first now = grind arith

-- The next PDU of an open peer arrives at an open end.
open-arrive : (client : Bool) (n k clock other now : ℕ) (p : Pdu) (x y : State) → clock ≤ now
    → Two client n k clock other x y → Bounded x → Bounded y
    → x.settings.t_max ≤ 60000 → NextArrival x p now n y.made → IsOpen x → IsOpen y → IsOpen (arrive p now x)
open-arrive client n k clock other now p x y later h bounded bounded_peer short a own peer =
    let next = next-in client n k clock other now p x y later h bounded bounded_peer short a own.0 in
    let stays : Remains a.made = every-at Remains 0 n y.made a.made a.later peer.1 (omega arith) a.at in
    let leads = next-leads client n k clock now a.made a.later x y next in
    let received : IsOpen (respond p now x) =
    subst (λ (q : Pdu). IsOpen (respond q now x)) a.is
    (leads-open client n now a.made.pdu x y (decide (kept_of x) a.made.pdu now) leads stays own) in
    subst IsOpen (sym (arrive-is p now x)) (subst (λ (t : State). IsOpen (respond p now t)) (sym a.holds) received)

open-arrive_il : (n k now : ℕ) (p : Pdu) (w : World) (ci cf : ℕ) → TInv w ci cf → ci ≤ now
    → (w.il_before ≢ []) × NextArrival w.il p now n w.fe.made
    → StandsAt n k w ci cf → OpenBoth w → IsOpen (arrive p now w.il)
open-arrive_il n k now p w ci cf t later o (joint two il_opened fe_opened) h =
    open-arrive true n k ci cf now p w.il w.fe later two t.inv.bounded_il t.inv.bounded_fe t.short_il o.1
    (h.il il_opened) (h.fe fe_opened)
open-arrive_il n k now p w ci cf t later o (apart a) h = apart-silent n k now p w.il w.fe w.fe_before w.dead_il a o.1

open-arrive_fe : (n k now : ℕ) (p : Pdu) (w : World) (ci cf : ℕ) → TInv w ci cf → cf ≤ now
    → GenuineEvent w (Arrive Fe p now)
    → (w.fe_before ≢ []) × NextArrival w.fe p now k w.il.made → StandsAt n k w ci cf → OpenBoth w
    → IsOpen (arrive p now w.fe)
open-arrive_fe n k now p w ci cf t later g o (joint two il_opened fe_opened) h =
    open-arrive false k n cf ci now p w.fe w.il later (two-swap true n k ci cf w.il w.fe two) t.inv.bounded_fe
    t.inv.bounded_il t.short_fe o.1 (h.fe fe_opened)
    (h.il il_opened)
open-arrive_fe n k now p w ci cf t later g o (apart a) h =
    absurd (apart-deaf n k now p w.il w.fe w.fe_before w.dead_il a g o.1 (h.fe o.0).0)

open-event : (n k : ℕ) (w : World) (e : Event) (ci cf : ℕ) → TInv w ci cf → GenuineEvent w e
    → at_end (event_end e) ci cf ≤ event_time e → InOrderEvent n k w e
    → is_close e ≡ false → StandsAt n k w ci cf → OpenBoth w → OpenBoth (change_world w e)
open-event n k w (Open Il settings first now) ci cf t g later o none s h =
    cond_both (is_legal settings) (open_il settings first now w) w OpenBoth
    (λ _. record { il = λ _. open-opened true settings first now; fe = h.fe }) (λ _. h)
open-event n k w (Open Fe settings first now) ci cf t g later o none s h =
    cond_both (is_legal settings) (open_fe settings first now w) w OpenBoth
    (λ _. record { il = h.il; fe = λ _. open-opened false settings first now }) (λ _. h)
open-event n k w (Send Il unit now) ci cf t g later o none s h =
    record { il = λ some. open-send unit now w.il (h.il some); fe = h.fe }
open-event n k w (Send Fe unit now) ci cf t g later o none s h =
    record { il = h.il; fe = λ some. open-send unit now w.fe (h.fe some) }
open-event n k w (Close Il reason detail now) ci cf t g later o none s h = absurd (false≢true (sym none))
open-event n k w (Close Fe reason detail now) ci cf t g later o none s h = absurd (false≢true (sym none))
open-event n k w (Guard Il now) ci cf t g later o none s h =
    record { il = λ some. open-guard now w.il o (h.il some); fe = h.fe }
open-event n k w (Guard Fe now) ci cf t g later o none s h =
    record { il = h.il; fe = λ some. open-guard now w.fe o (h.fe some) }
open-event n k w (Tick Il now) ci cf t g later o none s h =
    record { il = λ some. open-tick now w.il o (h.il some); fe = h.fe }
open-event n k w (Tick Fe now) ci cf t g later o none s h =
    record { il = h.il; fe = λ some. open-tick now w.fe o (h.fe some) }
open-event n k w (Arrive Il p now) ci cf t g later o none s h =
    record { il = λ some. open-arrive_il n k now p w ci cf t later o s h; fe = h.fe }
open-event n k w (Arrive Fe p now) ci cf t g later o none s h =
    record { il = h.il; fe = λ some. open-arrive_fe n k now p w ci cf t later g o s h }

-- None of them is a close.
no-close : (b c : Bool) → (if b then true else c) ≡ false → (b ≡ false) × (c ≡ false)
no-close b c h = grind arith

open-run : (events : List Event) (n k : ℕ) (w : World) → TInv w w.clock_il w.clock_fe → Genuine events w
    → Timely events w → InOrder n k events w
    → has_close events ≡ false → StandsAt n k w w.clock_il w.clock_fe → OpenBoth w → OpenBoth (run events w)
open-run [] n k w t g later o none s h = h
open-run (e ∷ es) n k w t g later o none s h =
    let parts = no-close (is_close e) (has_close es) none in
    let after : OpenBoth (change_world w e) = open-event n k w e w.clock_il w.clock_fe t g.0 later.0 o.0 parts.0 s h in
    open-run es (heard_by_il e n) (heard_by_fe e k) (apply_event w e)
    (t-event w e w.clock_il w.clock_fe t g.0 later.0).0 g.1 later.1 o.1 parts.1
    (stands-event n k w e w.clock_il w.clock_fe t g.0 later.0 o.0 s) (record { il = after.il; fe = after.fe })

-- The law.
pub stays_law_holds : StaysLaw
stays_law_holds events genuine timely order none = grind (arith, open-run, t-start, stands-start)
