-- Every arrival at one of two machines, and the steps in which an end takes nothing.
use Rattle.safe_machine.proofs.Words.{◌≡◌, ℕ, ◌+◌, ◌-◌, ◌<◌, ◌≤◌, List, [], ◌∷◌, ◌++◌, length, drop, true, false, refl, sym, ap, ◌∙◌, arith, append-nil}
use Rattle.safe_machine.proofs.Words.{RetrReq, ConnectionState, RetrRun, Made, after_pdu, is_carrier_kind, is_request, is_answer, State, make, move_to, pass, hand_up}
use Rattle.safe_machine.proofs.Words.{note_request, reply, ask, unconfirmed, cs_fits, distance, cs_step, Takes, Resumes, AnswersNext, AnswersEarly}
use Rattle.safe_machine.proofs.Words.{tests_passed, carry_out, confirm_units, in_turn, is_connected, kept_of, cond_both, suc, zero, Bool, subst, false≢true}
use Rattle.safe_machine.proofs.Words.{ConnReq, ConnResp, DiscReq, Closed, Down, Start, Up, Pdu, window_of, units, opening_body, leaving_body, next_made}
use Rattle.safe_machine.proofs.Words.{Decision, decide, Nothing, Drops, Shuts, Leaves, Rejects, Accepts, Connects, Asks, set_window, respond, WrongVersion}
use Rattle.safe_machine.proofs.Words.{Unspecified, ◌≢◌, ◌⊎◌, inl, inr, append_assoc, length-append, drop-drop, IsBeginning, Kind, Heartbeat, Data, first_sent}
use Rattle.safe_machine.proofs.Words.{leave, run_of, arrive, Among, GenuineAt, Reason, Detail, is_live, Move, HearsNothing, move, rules}
use Rattle.safe_machine.proofs.one.Runs.{requests, answers, count-at, every-at, no_requests, RequestAt, unit-cases, Every, every-push, numbered-push}
use Rattle.safe_machine.proofs.one.Runs.{units-append, every-drop_push, leave-cases, connected-live, turn-connected, turn-live, opening_window}
use Rattle.safe_machine.proofs.one.Runs.{reply-connection, quiet-cases, arrive-cases, run_after-append, when}
use Rattle.safe_machine.proofs.two.Invariant.{room, needs_peer, Told, Sound, Started, SoloOf, Solo, Half, Pair, Few, room-le, pair-beat, pair-ask, pair-reply}
use Rattle.safe_machine.proofs.two.Invariant.{started-from, half-take, half-resume, half-confirm, confirm-index, is_opening, NotOpening, make-sends}
use Rattle.safe_machine.proofs.two.Invariant.{make-receives, pair-closed, pair-plain, pair-leave, reach, pair-sent}
use Rattle.safe_machine.proofs.one.DecisionCounts.{carries-unit, carries-none, in_turn-room, ByTable, Fits, listens, decide-fits, Bounded, bounded-respond}
use Rattle.safe_machine.proofs.one.DecisionCounts.{unconfirmed-make, bounded-leave}
use Rattle.safe_machine.specs.Numbers.{sn_of}

-- An arrival of a PDU that the peer made keeps the invariant.

-- What is known when a PDU of the peer arrives.
pub record Arrival (d : ℕ) (m : Made) (rest : List Made) (x y : State) : Type 0 where
  pub pair : Pair x y
  pub peer : Solo y
  pub few : Few x
  pub at : drop (x.expected + d) y.made ≡ m ∷ rest

solo-at : (connection : ConnectionState) (expected : ℕ) (x : State) → Solo x
    → Started connection x.settings.client expected x.made
    → SoloOf x.first x.made expected connection x.settings.client
solo-at connection expected x h s = record { numbered = h.numbered; opening = h.opening; sound = h.sound; started = s }

-- The index confirmed, if the PDU needs a peer.
pub arrival-index : (d : ℕ) (m : Made) (rest : List Made) (x y : State) → Arrival d m rest x y
    → needs_peer m.pdu.kind ≡ 1 → cs_fits (kept_of x) m.pdu ≡ true →
    (x.confirmed + cs_step (kept_of x) m.pdu ≡ m.behind - 1) × (1 ≤ m.behind) × (m.behind ≤ y.expected)
arrival-index d m rest x y a needs fits =
    let sound = every-at Sound 0 (x.expected + d) y.made m rest a.peer.sound (omega arith) a.at in
    let told = every-at (Told x.first y.expected) 0 (x.expected + d) y.made m rest a.pair.1.told (omega arith) a.at in
    let late : 1 ≤ m.behind = sound.late (omega arith) in
    (confirm-index (x.expected + d) m rest x y a.pair.1 a.few a.at late fits, late, told.behind)

pub arrival-confirm : (d : ℕ) (m : Made) (rest : List Made) (x y : State) → Arrival d m rest x y
    → needs_peer m.pdu.kind ≡ 1 → cs_fits (kept_of x) m.pdu ≡ true
    → Half (confirm_units m.pdu x) y
arrival-confirm d m rest x y a needs fits = grind (arith, arrival-index, half-confirm)

-- Taking the next PDU.
pub arrival-take : (now : ℕ) (to : ConnectionState) (m : Made) (rest : List Made) (x y : State) → Arrival 0 m rest x y
    → room x.connection ≡ 0
    → is_connected to ≡ true → is_answer m.pdu.kind ≡ 0 → needs_peer m.pdu.kind ≡ 1 → cs_fits (kept_of x) m.pdu ≡ true
    → 1 ≤ length x.made
    → Pair (carry_out m.pdu now (Takes to) x) y
arrival-take now to m rest x y a closed connected plain needs fits some =
    let p = m.pdu in
    let z = move_to to (pass p 0 (tests_passed p x)) in
    let started : Started to x.settings.client (x.expected + 0 + 1) x.made = started-from to x.settings.client
    (x.expected + 0 + 1) x.made connected
    (omega arith) some in
    let solo = solo-at to (x.expected + 0 + 1) x a.pair.0 started in
    let sends = arrival-confirm 0 m rest x y a needs fits in
    let unit : is_carrier_kind p.kind ≡ true → Pair (hand_up p z) y =
    λ c. (
      solo,
      sends,
      half-take (p.body ∷ []) (x.taken ++ p.body ∷ []) to m rest x y a.peer a.pair.2 closed a.at plain
          (carries-unit p.kind p.body c) refl,
    ) in
    let none : is_carrier_kind p.kind ≡ false → Pair z y =
    λ c. (
      solo,
      sends,
      half-take [] x.taken to m rest x y a.peer a.pair.2 closed a.at plain
          (carries-none p.kind p.body c) (sym (append-nil x.taken)),
    ) in
    unit-cases (λ s. Pair s y) p now z (λ c. pair-beat now [] (hand_up p z) y connected (unit c)) (λ c _. unit c) none

-- The answer to the end's own request.
pub arrival-resume : (now : ℕ) (m : Made) (rest : List Made) (x y : State)
    → Arrival (distance (kept_of x) m.pdu) m rest x y → room x.connection ≤ 1
    → is_answer m.pdu.kind ≡ 1 → needs_peer m.pdu.kind ≡ 1 → cs_fits (kept_of x) m.pdu ≡ true → 1 ≤ length x.made
    → Pair (carry_out m.pdu now Resumes x) y
arrival-resume now m rest x y a small is needs fits some =
    let d = distance (kept_of x) m.pdu in (
      solo-at RetrRun (x.expected + d + 1) x a.pair.0 (omega arith, some),
      arrival-confirm d m rest x y a needs fits,
      half-resume d RetrRun m rest x y a.peer a.pair.2 small a.at is,
    )

-- What is known about a request that was not handled before.
pub record Asked (d : ℕ) (m : Made) (x y : State) : Type 0 where
  pub none : requests (drop (x.expected + d + 1) y.made) + answers (drop y.expected x.made) ≡ 0
  pub one : room y.connection ≡ 1
  pub all : x.confirmed + cs_step (kept_of x) m.pdu + 1 ≡ y.expected

asked : (d : ℕ) (m : Made) (rest : List Made) (x y : State) → Arrival d m rest x y → is_request m.pdu.kind ≡ 1
    → needs_peer m.pdu.kind ≡ 1 →
    x.answered < x.expected + d → cs_fits (kept_of x) m.pdu ≡ true → Asked d m x y
asked d m rest x y a is needs new fits =
    let p = arrival-index d m rest x y a needs fits in
    let behind : m.behind ≡ y.expected = every-at (RequestAt y.expected) (x.answered + 1) (x.expected + d) y.made m rest
    a.pair.1.requests_at (omega arith) a.at
    (omega arith) in
    let counted : is_request m.pdu.kind + requests (drop (x.expected + d + 1) y.made)
    ≤ requests (drop (x.answered + 1) y.made) =
    count-at is_request (x.answered + 1) (x.expected + d) y.made m rest (omega arith) a.at in
    let open_now : requests (drop (x.answered + 1) y.made) + answers (drop y.expected x.made)
    ≤ room y.connection = a.pair.1.open_requests in
    let small : room y.connection ≤ 1 = room-le y.connection in
    record { none = omega arith; one = omega arith; all = omega arith }

-- The request is recorded.
half-noted : (d : ℕ) (m : Made) (x y : State) → Half x y → Asked d m x y
    → Half (note_request d (confirm_units m.pdu x)) y
half-noted d m x y h k =
    record {
      carried = h.carried;
      within = h.within;
      first_plain = h.first_plain;
      open_requests = omega (arith, k.none);
      requests_at = no_requests y.expected (drop (x.expected + d + 1) y.made) (omega (arith, k.none));
      confirmed_behind = omega (arith, k.all);
      last = h.last;
      told = h.told;
    }

pub arrival-next_request : (now : ℕ) (m : Made) (rest : List Made) (x y : State) → Arrival 0 m rest x y
    → m.pdu.kind ≡ RetrReq → x.answered < x.expected + 0
    → in_turn x.connection ≡ true → cs_fits (kept_of x) m.pdu ≡ true → 1 ≤ length x.made
    → Pair (carry_out m.pdu now AnswersNext x) y
arrival-next_request now m rest x y a is new turn fits some =
    let k = asked 0 m rest x y a (ap is_request is) (ap needs_peer is) new fits in
    let r = in_turn-room x.connection turn in
    let z = pass m.pdu 0 (note_request 0 (tests_passed m.pdu x)) in
    let before : Pair z y = (
      solo-at x.connection (x.expected + 0 + 1) x a.pair.0
          (started-from x.connection x.settings.client (x.expected + 0 + 1) x.made r.1 (omega arith) some),
      half-noted 0 m x y a.pair.1 k,
      half-take [] x.taken x.connection m rest x y a.peer a.pair.2 r.0 a.at (ap is_answer is)
          (ap (λ kind. after_pdu kind m.pdu.body []) is)
          (sym (append-nil x.taken)),
    ) in
    pair-reply now z y r.1 before k.none k.one k.all

pub arrival-early_request : (now : ℕ) (m : Made) (rest : List Made) (x y : State)
    → Arrival (distance (kept_of x) m.pdu) m rest x y → m.pdu.kind ≡ RetrReq →
    x.answered < x.expected + distance (kept_of x) m.pdu → is_connected x.connection ≡ true
    → cs_fits (kept_of x) m.pdu ≡ true →
    Pair (carry_out m.pdu now AnswersEarly x) y
arrival-early_request now m rest x y a is new connected fits =
    let d = distance (kept_of x) m.pdu in
    let k = asked d m rest x y a (ap is_request is) (ap needs_peer is) new fits in
    let z = note_request d (confirm_units m.pdu x) in
    let before : Pair z y = (a.pair.0, half-noted d m x y a.pair.1 k, a.pair.2) in
    let t = reply now z in
    let replied : Pair t y = pair-reply now z y connected before k.none k.one k.all in
    let same : t.connection ≡ x.connection = reply-connection now z in
    cond_both (in_turn x.connection) (ask now t) t (λ s. Pair s y)
    (λ turn. let r = in_turn-room x.connection turn in pair-ask now t y (ap is_connected same ∙ connected) (ap room same
    ∙ r.0) replied)
    (λ _. replied)

-- The opening of a connection, and every arrival.

-- A ConnReq or ConnResp is the first PDU that its end made.
opening-first : (i : ℕ) (m : Made) (rest : List Made) (y : State) → Solo y → drop i y.made ≡ m ∷ rest
    → is_opening m.pdu.kind ≡ 1 → i ≡ 0
opening-first zero m rest y h at is = refl
opening-first (suc i) m rest y h at is =
    let none : is_opening m.pdu.kind ≡ 0 = every-at NotOpening 1 (suc i) y.made m rest h.opening (omega arith) at in
    absurd (omega arith)

-- The first PDU of the peer, which carries nothing, if nothing was taken before.
pub first-arrival : (i : ℕ) (m : Made) (rest : List Made) (x y : State) → Pair x y → Solo y → Few x
    → drop i y.made ≡ m ∷ rest → is_opening m.pdu.kind ≡ 1
    → x.expected ≡ 0 → Arrival 0 m rest x y
first-arrival i m rest x y h peer few at is none = grind (arith, opening-first)

-- The client takes a ConnResp.
connected : (now i : ℕ) (m : Made) (rest : List Made) (x y : State) → Pair x y → Solo y → Few x
    → drop i y.made ≡ m ∷ rest → m.pdu.kind ≡ ConnResp
    → x.expected ≡ 0 → room x.connection ≡ 0 → 1 ≤ length x.made → cs_fits (kept_of x) m.pdu ≡ true
    → Pair (carry_out m.pdu now Connects x) y
connected now i m rest x y h peer few at is none closed some fits =
    let a = first-arrival i m rest x y h peer few at (ap is_opening is) none in
    let z = move_to Up (set_window (window_of m.pdu.body) (pass m.pdu 0 (tests_passed m.pdu x))) in
    let before : Pair z y = (
      record { numbered = h.0.numbered; opening = h.0.opening; sound = h.0.sound; started = (omega arith, some) },
      arrival-confirm 0 m rest x y a (ap needs_peer is) fits,
      half-take [] x.taken Up m rest x y peer h.2 closed a.at (ap is_answer is)
          (ap (λ kind. after_pdu kind m.pdu.body []) is) (sym (append-nil x.taken)),
    ) in
    pair-beat now [] z y refl before

-- The server takes a ConnReq of another version.
rejected : (now i : ℕ) (m : Made) (rest : List Made) (x y : State) → Pair x y → Solo y → Few x
    → drop i y.made ≡ m ∷ rest → m.pdu.kind ≡ ConnReq
    → x.expected ≡ 0 → room x.connection ≡ 0 → Pair (carry_out m.pdu now Rejects x) y
rejected now i m rest x y h peer few at is none closed =
    let a = first-arrival i m rest x y h peer few at (ap is_opening is) none in
    let z = move_to Closed (pass m.pdu 0 x) in
    let before : Pair z y = (
      record { numbered = h.0.numbered; opening = h.0.opening; sound = h.0.sound; started = tt },
      h.1,
      half-take [] x.taken Closed m rest x y peer h.2 closed a.at (ap is_answer is)
          (ap (λ kind. after_pdu kind m.pdu.body []) is) (sym (append-nil x.taken)),
    ) in
    pair-plain DiscReq (leaving_body WrongVersion Unspecified) now [] z y before (λ run. refl) refl refl refl refl
    (λ one. absurd (omega arith)) tt

-- The server takes a ConnReq.
accepted : (now i : ℕ) (m : Made) (rest : List Made) (x y : State) → Pair x y → Solo y → Few x
    → drop i y.made ≡ m ∷ rest → m.pdu.kind ≡ ConnReq
    → x.expected ≡ 0 → x.connection ≡ Down → x.made ≡ [] → x.settings.client ≡ false → x.settings.n_sendmax ≤ 32
    → Pair (carry_out m.pdu now Accepts x) y
accepted now i m rest x y h peer few at is none down empty server small =
    let a = first-arrival i m rest x y h peer few at (ap is_opening is) none in
    let z = move_to Start (set_window (window_of m.pdu.body) (pass m.pdu 0 x)) in
    let body = opening_body x.settings.n_sendmax in
    let made = next_made z ConnResp body now in
    let takes : Half y z =
    half-take [] x.taken Start m rest x y peer h.2 (ap room down) a.at (ap is_answer is)
    (ap (λ kind. after_pdu kind m.pdu.body []) is)
    (sym (append-nil x.taken)) in
    let sends : Half (make ConnResp body now z) y =
    make-sends ConnResp body now [] [] z y h.1 (omega (arith, h.1.open_requests)) (h.1.carried
    ∙ sym (append-nil (units x.made))) (λ e. refl) in
    let one : x.made ++ made ∷ [] ≡ made ∷ [] = ap (λ ms. ms ++ made ∷ []) empty in
    let zero_made : length x.made ≡ 0 = ap length empty in (
      record {
        numbered = numbered-push x.first 0 x.made made h.0.numbered (ap (sn_of x.first) (omega arith));
        opening = subst (λ ms. Every NotOpening (drop 1 ms)) (sym one) tt;
        sound =
            every-push Sound x.made made h.0.sound (record {
              late = λ k. omega arith;
              window = λ k. rw (opening_window x.settings.n_sendmax small) small;
            });
        started =
            ((λ client. absurd (false≢true (sym server ∙ client))), (λ k. omega arith), omega (arith, ap length one));
      },
      record {
        carried = sends.carried;
        within = sends.within;
        first_plain = sends.first_plain;
        open_requests = sends.open_requests;
        requests_at = sends.requests_at;
        confirmed_behind = omega arith;
        last = sends.last;
        told = sends.told;
      },
      make-receives ConnResp body now z y takes refl,
    )

-- An arrival at an end.
pub record Incoming (i : ℕ) (m : Made) (rest : List Made) (x y : State) : Type 0 where
  pub pair : Pair x y
  pub peer : Solo y
  pub few : Few x
  pub few_peer : Few y
  pub small : x.settings.n_sendmax ≤ 32
  pub at : drop i y.made ≡ m ∷ rest

-- If the table decides for an end, it has taken something and made something.
listens-started : (connection : ConnectionState) (client : Bool) (expected : ℕ) (made : List Made)
    → listens connection client ≡ true
    → Started connection client expected made → (1 ≤ expected) × (1 ≤ length made)
listens-started connection client expected made l h = grind arith

pub by_table-started : (x : State) (p : Pdu) → Solo x → ByTable (kept_of x) p → (1 ≤ x.expected) × (1 ≤ length x.made)
by_table-started x p h t = listens-started x.connection x.settings.client x.expected x.made t.listens_now h.started

-- The PDU has the index that its number means.
pub incoming-arrival : (i : ℕ) (m : Made) (rest : List Made) (x y : State) → Incoming i m rest x y
    → ByTable (kept_of x) m.pdu
    → Arrival (distance (kept_of x) m.pdu) m rest x y
incoming-arrival i m rest x y a t = grind (arith, by_table-started, reach)

pub incoming-next : (i : ℕ) (m : Made) (rest : List Made) (x y : State) → Incoming i m rest x y
    → ByTable (kept_of x) m.pdu → distance (kept_of x) m.pdu ≡ 0
    → Arrival 0 m rest x y
incoming-next i m rest x y a t none = subst (λ (n : ℕ). Arrival n m rest x y) none (incoming-arrival i m rest x y a t)

-- Each decision keeps the invariant.
pair-carry : (now i : ℕ) (m : Made) (rest : List Made) (x y : State) → Incoming i m rest x y → (e : Decision)
    → Fits (kept_of x) m.pdu now e
    → Pair (carry_out m.pdu now e x) y
pair-carry now i m rest x y a Nothing f = a.pair
pair-carry now i m rest x y a (Drops cause) f = a.pair
pair-carry now i m rest x y a Shuts f = pair-closed x y a.pair
pair-carry now i m rest x y a (Leaves reason detail) f = pair-leave reason detail now x y a.pair
pair-carry now i m rest x y a Rejects (down, is) =
    let s = subst (λ (c : ConnectionState). Started c x.settings.client x.expected x.made) down a.pair.0.started in
    rejected now i m rest x y a.pair a.peer a.few a.at is s.1 (ap room down)
pair-carry now i m rest x y a Accepts (down, is, ours) =
    let s = subst (λ (c : ConnectionState). Started c x.settings.client x.expected x.made) down a.pair.0.started in
    accepted now i m rest x y a.pair a.peer a.few a.at is s.1 down s.0 s.2 a.small
pair-carry now i m rest x y a Connects (start, client, is, passed) =
    let s = subst (λ (c : ConnectionState). Started c x.settings.client x.expected x.made) start a.pair.0.started in
    connected now i m rest x y a.pair a.peer a.few a.at is (s.0 client) (ap room start) s.2 passed.cs
pair-carry now i m rest x y a (Takes to) f =
    arrival-take now to m rest x y (incoming-next i m rest x y a f.table f.next) f.quiet f.connected f.plain f.needs
    f.passed.cs
    (by_table-started x m.pdu a.pair.0 f.table).1
pair-carry now i m rest x y a Asks f = pair-ask now x y f.connected f.quiet a.pair
pair-carry now i m rest x y a Resumes f =
    arrival-resume now m rest x y (incoming-arrival i m rest x y a f.table) (room-le x.connection) f.answer f.needs
    f.passed.cs
    (by_table-started x m.pdu a.pair.0 f.table).1
pair-carry now i m rest x y a AnswersNext (f, none, turn, cts) =
    arrival-next_request now m rest x y (incoming-next i m rest x y a f.table none) f.request (omega (arith, f.new))
    turn f.cs
    (by_table-started x m.pdu a.pair.0 f.table).1
pair-carry now i m rest x y a AnswersEarly f =
    arrival-early_request now m rest x y (incoming-arrival i m rest x y a f.table) f.request f.new f.connected f.cs

-- For any PDU of the peer, the invariant is kept.
pub pair-respond : (now i : ℕ) (m : Made) (rest : List Made) (x y : State) → Incoming i m rest x y
    → Pair (respond m.pdu now x) y
pair-respond now i m rest x y a =
    pair-carry now i m rest x y a (decide (kept_of x) m.pdu now) (decide-fits (kept_of x) m.pdu now)

-- The steps in which an end takes nothing: it sends, disconnects, checks its timeouts, or ticks.

-- Nothing was taken from s to t.
pub record Lone (s t : State) : Type 0 where
  pub taken : t.taken ≡ s.taken
  pub longer : IsBeginning (units s.made) (units t.made)
  pub opening : (n : ℕ) → Every NotOpening (drop n s.made) → Every NotOpening (drop n t.made)
  pub settings : t.settings ≡ s.settings
  pub expected : t.expected ≡ s.expected
  pub confirmed : t.confirmed ≡ s.confirmed
  pub connection : (t.connection ≡ s.connection) ⊎ (t.connection ≡ Closed)
  -- An end that was not live is as before, or closed with the same lists.
  pub down : s.connection ≡ Down → (t.made ≡ s.made)
  pub closed : s.connection ≡ Closed → t ≡ s
  -- As many more units are unconfirmed as were sent.
  pub owes : length (units t.made) + length (unconfirmed s) ≡ length (units s.made) + length (unconfirmed t)

pub beginning_trans : (us vs ws : List (List ℕ)) → IsBeginning us vs → IsBeginning vs ws → IsBeginning us ws
beginning_trans us vs ws h k = (h.0 ++ k.0, sym (append_assoc us h.0 k.0) ∙ (ap (λ xs. xs ++ k.0) h.1 ∙ k.1))

-- An end that does not change, or closes.
lone-still : (connection : ConnectionState) (s : State) → (connection ≡ s.connection) ⊎ (connection ≡ Closed)
    → Lone s (move_to connection s)
lone-still connection s goes = search rules

pub lone-refl : (s : State) → Lone s s
lone-refl s = lone-still s.connection s (inl refl)

pub lone-closed : (s : State) → Lone s (move_to Closed s)
lone-closed s = lone-still Closed s (inr refl)

-- A live end makes a PDU that adds what it carries to both lists, and stays or closes.
lone-said : (connection : ConnectionState) (kind : Kind) (body : List ℕ) (now : ℕ) (s : State)
    → is_live s.connection ≡ true → is_opening kind ≡ 0 →
    (connection ≡ s.connection) ⊎ (connection ≡ Closed) →
    length (unconfirmed (make kind body now s)) ≡ length (unconfirmed s) + length (first_sent kind body) →
    Lone s (move_to connection (make kind body now s))
lone-said connection kind body now s live plain goes adds =
    let m = next_made s kind body now in
    let sent : units (s.made ++ m ∷ []) ≡ units s.made ++ first_sent kind body =
    units-append s.made (m ∷ []) ∙ ap (λ us. units s.made ++ us) (append-nil (first_sent kind body)) in
    record {
      taken = refl;
      longer = (first_sent kind body, sym sent);
      opening = λ n h. every-drop_push NotOpening n s.made m h plain;
      settings = refl;
      expected = refl;
      confirmed = refl;
      connection = goes;
      down = λ e. absurd (false≢true (sym (ap is_live e) ∙ live));
      closed = λ e. absurd (false≢true (sym (ap is_live e) ∙ live));
      owes = omega (arith, ap length sent, length-append (units s.made) (first_sent kind body), adds);
    }

lone-made : (kind : Kind) (body : List ℕ) (now : ℕ) (s : State) → is_live s.connection ≡ true
    → s.confirmed < length s.made → is_opening kind ≡ 0 →
    length (after_pdu kind body (unconfirmed s)) ≡ length (unconfirmed s) + length (first_sent kind body)
    → Lone s (make kind body now s)
lone-made kind body now s live made plain adds =
    lone-said s.connection kind body now s live plain (inl refl) (ap length (unconfirmed-make kind body now s made)
    ∙ adds)

-- A PDU that carries no unit, appended to the others, does not change the unconfirmed units.
unsaid-drop : (k : ℕ) (ms : List Made) (m : Made) → ((run : List (List ℕ)) → after_pdu m.pdu.kind m.pdu.body run ≡ run)
    → run_of (drop k (ms ++ m ∷ [])) ≡ run_of (drop k ms)
unsaid-drop zero ms m plain = run_after-append [] ms (m ∷ []) ∙ plain (run_of ms)
unsaid-drop (suc zero) [] m plain = refl
unsaid-drop (suc (suc k)) [] m plain = refl
unsaid-drop (suc k) (x ∷ xs) m plain = unsaid-drop k xs m plain

pub lone-leave : (reason : Reason) (detail : Detail) (now : ℕ) (s : State) → Lone s (leave reason detail now s)
lone-leave reason detail now s =
    leave-cases (Lone s) reason detail now s
    (λ live. lone-said Closed DiscReq (leaving_body reason detail) now s live refl (inr refl)
    (let m = next_made s DiscReq (leaving_body reason detail) now in
    let same = ap length (unsaid-drop (s.confirmed + 1) s.made m (λ run. refl)) in omega (arith, same)))
    (λ _. lone-closed s)

pub lone-move : (m : Move) (s : State) → HearsNothing m → Bounded s → Lone s (move m s)
lone-move m s quiet b =
    quiet-cases (Lone s) m s quiet (lone-refl s) (λ reason detail. lone-leave reason detail (when m) s)
    (λ connected _.
    let live = connected-live s.connection connected in
    lone-made Heartbeat [] (when m) s live (b.confirmed_made live) refl (omega arith))
    (λ unit turn _.
    let live = turn-live s.connection turn in
    lone-made Data unit (when m) s live (b.confirmed_made live) refl (length-append (unconfirmed s) (unit ∷ [])))

-- The same moves keep the invariant of a pair.
pub pair-move : (m : Move) (x y : State) → HearsNothing m → Pair x y → Pair (move m x) y
pair-move m x y quiet h =
    quiet-cases (λ s. Pair s y) m x quiet h (λ reason detail. pair-leave reason detail (when m) x y h)
    (λ connected _. pair-beat (when m) [] x y connected h)
    (λ unit turn _. pair-sent unit (when m) x y (turn-connected x.connection turn) h)

-- The index of a PDU among those made.
pub among-index : (p : Pdu) (ms : List Made) → Among p ms → (k : ℕ) × (m : Made) × (rest : List Made)
    × (drop k ms ≡ m ∷ rest) × (m.pdu ≡ p)
among-index p [] h = absurd h
among-index p (m ∷ ms) (inl e) = (0, m, ms, refl, e)
among-index p (m ∷ ms) (inr h) = let r = among-index p ms h in (suc r.0, r.1, r.2, r.3, r.4)

pub among-dropped : (p : Pdu) (n : ℕ) (ms : List Made) → Among p (drop n ms) → (i : ℕ) × (m : Made) × (rest : List Made)
    × (drop i ms ≡ m ∷ rest) × (m.pdu ≡ p)
    × (n ≤ i)
among-dropped p n ms h = let r =
    among-index p (drop n ms) h in (n + r.0, r.1, r.2, sym (drop-drop r.0 n ms) ∙ r.3, r.4, omega arith)

-- The index of a genuine PDU that arrives.
pub incoming-at : (p : Pdu) (n : ℕ) (x y : State) → Pair x y → Solo y → Bounded x → Bounded y
    → (h : Among p (drop n y.made)) →
    let r = among-dropped p n y.made h in Incoming r.0 r.1 r.2 x y
incoming-at p n x y h peer bounded bounded_peer among = grind arith

-- A genuine arrival keeps the invariant of the pair, and the counts.
pub pair-arrive : (now n : ℕ) (p : Pdu) (x y : State) → Pair x y → Solo y → Bounded x → Bounded y
    → GenuineAt x p (drop n y.made) →
    Pair (arrive p now x) y × Bounded (arrive p now x)
pair-arrive now n p x y h peer bounded bounded_peer genuine =
    arrive-cases (λ t. Pair t y × Bounded t) p now x (h, bounded)
    (λ reason detail. (pair-leave reason detail now x y h, bounded-leave reason detail now x bounded))
    (λ on meant in_time.
    let r = among-dropped p n y.made (genuine on meant) in
    let m = r.1 in
    let sound = every-at Sound 0 r.0 y.made m r.2 peer.sound (omega arith) r.3 in
    let down : x.connection ≡ Down → x.made ≡ [] = λ e.
    (subst (λ (c : ConnectionState). Started c x.settings.client x.expected x.made) e h.0.started).0 in
    subst (λ (q : Pdu). Pair (respond q now x) y × Bounded (respond q now x)) r.4 (
      pair-respond now r.0 m r.2 x y (incoming-at p n x y h peer bounded bounded_peer (genuine on meant)),
      bounded-respond now m.pdu x bounded (λ live. (in_time live).1) down sound.window,
    ))
