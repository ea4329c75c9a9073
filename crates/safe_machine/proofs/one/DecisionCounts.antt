-- How many PDUs an end makes, and how many units are unconfirmed.
use Rattle.safe_machine.proofs.Words.{◌≡◌, ℕ, List, [], ◌∷◌, true, refl, Kind, RetrReq, Heartbeat, Data, RetrData, ConnectionState, Start, Up}
use Rattle.safe_machine.proofs.Words.{RetrRun, after_pdu, in_turn, is_connected, ◌+◌, ◌<◌, ◌≤◌, ap, ◌∙◌}
use Rattle.safe_machine.proofs.Words.{ConnReq, Closed, Down, Pdu, Decision, cs_fits, distance, decide, cs_step, Nothing, Drops}
use Rattle.safe_machine.proofs.Words.{Shuts, Leaves, Rejects, Accepts, Connects, Takes, Asks, Resumes, AnswersNext, AnswersEarly, WrongVersion, Unspecified}
use Rattle.safe_machine.proofs.Words.{is_live, ◌-◌, ◌++◌, length, take, drop, sym, arith, append_assoc, length-append, append-nil, drop-append-le}
use Rattle.safe_machine.proofs.Words.{take-append-drop, drop-drop, ltb-true, false≢true, DiscReq, window_of, Made, run_after, run_of, opening_body}
use Rattle.safe_machine.proofs.Words.{leaving_body, Settings, State, unconfirmed, next_made, make, move_to, pass, hand_up, note_request, resend, reply, ask}
use Rattle.safe_machine.proofs.Words.{leave, tests_passed, carry_out, set_window, respond, confirm_units, Reason, Detail, kept_of, Move, HearsNothing, move}
use Rattle.safe_machine.proofs.Words.{is_legal, new_state, blank}
use Rattle.safe_machine.proofs.one.Lists.{is_opening}
use Rattle.safe_machine.proofs.one.Runs.{run_after-append, resend-settings, resend-connection, resend-confirmed, resend-window, leave-cases, unit-cases}
use Rattle.safe_machine.proofs.one.Runs.{early-cases, connected-live, turn-live, quiet-cases, when, legal}
use Rattle.safe_machine.proofs.one.TurnSteps.{opened-cases}
pub use Rattle.safe_machine.proofs.one.DecisionFits.{
  AnswerFits,
  AskFits,
  ByTable,
  Fits,
  ResumeFits,
  StartsBy,
  TakeFits,
  Tested,
  carries-none,
  carries-unit,
  decide-fits,
  in_turn-room,
  listens,
  listens-live,
}

pub record BoundedOf (settings : Settings) (made : List Made) (confirmed : ℕ) (connection : ConnectionState)
    (window : ℕ) : Type 0 where
  pub small : settings.n_sendmax ≤ 32
  pub limit : settings.pdu_limit ≤ 4294901760
  pub few : length made ≤ 4294901860
  -- After the limit, only unconfirmed units were sent.
  pub few_live : is_live connection ≡ true → length made ≤ 4294901795 + length (run_of (drop (confirmed + 1) made))
  pub window_small : window ≤ 32
  pub in_window : length (run_of (drop (confirmed + 1) made)) ≤ window
  -- Here the client's window is set.
  pub none_in_start : connection ≡ Start → length (run_of (drop (confirmed + 1) made)) ≡ 0
  pub confirmed_made : is_live connection ≡ true → confirmed < length made

abbrev pub Bounded : State → Type 0
Bounded s = BoundedOf s.settings s.made s.confirmed s.connection s.window

-- The limit is not reached.
abbrev pub Ready : State → Type 0
Ready s = is_live s.connection ≡ true → length s.made < s.settings.pdu_limit

pub unconfirmed-make : (kind : Kind) (body : List ℕ) (now : ℕ) (s : State) → s.confirmed < length s.made
    → unconfirmed (make kind body now s) ≡ after_pdu kind
    body (unconfirmed s)
unconfirmed-make kind body now s h = grind (arith, drop-append-le, run_after-append)

pub length-make : (kind : Kind) (body : List ℕ) (now : ℕ) (s : State)
    → length (make kind body now s).made ≡ length s.made + 1
length-make kind body now s = length-append s.made (next_made s kind body now ∷ [])

-- A longer run before a PDU gives a longer run after it.
after_pdu-longer : (kind : Kind) (body : List ℕ) (us vs : List (List ℕ)) → length us ≤ length vs
    → length (after_pdu kind body us)
    ≤ length (after_pdu kind body vs)
after_pdu-longer kind body us vs h = grind (arith, length-append)

run_after-longer : (us vs : List (List ℕ)) (ms : List Made) → length us ≤ length vs
    → length (run_after us ms) ≤ length (run_after vs ms)
run_after-longer us vs [] h = h
run_after-longer us vs (m ∷ ms) h =
    run_after-longer (after_pdu m.pdu.kind m.pdu.body us) (after_pdu m.pdu.kind m.pdu.body vs) ms
    (after_pdu-longer m.pdu.kind m.pdu.body us vs h)

pub run_of-shrinks : (a b : ℕ) (ms : List Made) → a ≤ b → length (run_of (drop b ms)) ≤ length (run_of (drop a ms))
run_of-shrinks a b ms h =
    let rest = drop a ms in
    let split : run_of rest ≡ run_after (run_of (take (b - a) rest)) (drop (b - a) rest) =
    ap run_of (sym (take-append-drop (b - a) rest)) ∙ run_after-append [] (take (b - a) rest) (drop (b - a) rest) in
    let same : drop (b - a) rest ≡ drop b ms = drop-drop (b - a) a ms ∙ ap (λ n. drop n ms) (omega arith) in
    let l : length (run_of (drop (b - a) rest)) ≤ length (run_after (run_of (take (b - a) rest)) (drop (b - a) rest)) =
    run_after-longer [] (run_of (take (b - a) rest)) (drop (b - a) rest) (omega arith) in
    omega (arith, ap length split, ap (λ ds. length (run_of ds)) same)

pub bounded-low : (t : State) → t.settings.n_sendmax ≤ 32 → t.settings.pdu_limit ≤ 4294901760
    → length t.made ≤ 4294901795 → t.window ≤ 32 →
    length (unconfirmed t) ≤ t.window → (t.connection ≡ Start → length (unconfirmed t) ≡ 0)
    → (is_live t.connection ≡ true → t.confirmed < length t.made)
    → Bounded t
bounded-low t small limit few window in_window none made = grind arith

-- An end when it is opened.
pub bounded-opened : (settings : Settings) (first now : ℕ) → is_legal settings ≡ true
    → Bounded (new_state settings first now)
bounded-opened settings first now e =
    let l = legal settings e in
    let waits = blank settings first now Down in
    let asks = make ConnReq (opening_body settings.n_sendmax) now (blank settings first now Start) in
    opened-cases Bounded settings first now
    (λ _. bounded-low asks l.window_most l.limit_most (omega arith) (omega arith) (omega arith) (λ _. omega arith)
    (λ _. omega arith))
    (λ _. bounded-low waits l.window_most l.limit_most (omega arith) (omega arith) (omega arith) (λ _. omega arith)
    (λ live. absurd (false≢true live)))

-- A PDU without a unit, made by a live end.
bounded-plain : (kind : Kind) (body : List ℕ) (now : ℕ) (s : State) → Bounded s → length s.made ≤ 4294901794
    → s.confirmed < length s.made →
    ((run : List (List ℕ)) → after_pdu kind body run ≡ run) → Bounded (make kind body now s)
bounded-plain kind body now s b few made plain = grind (arith, unconfirmed-make, bounded-low, length-make)

pub bounded-closed : (s : State) → Bounded s → Bounded (move_to Closed s)
bounded-closed s b = grind arith

bounded-said : (reason : Reason) (detail : Detail) (now : ℕ) (s : State) → Bounded s → is_live s.connection ≡ true
    → Bounded (move_to Closed (make DiscReq (leaving_body reason detail) now s))
bounded-said reason detail now s b live = grind (arith, unconfirmed-make, length-make, false≢true, bounded-closed)

pub bounded-leave : (reason : Reason) (detail : Detail) (now : ℕ) (s : State) → Bounded s
    → Bounded (leave reason detail now s)
bounded-leave reason detail now s b =
    leave-cases Bounded reason detail now s (bounded-said reason detail now s b) (λ _. bounded-closed s b)

-- How many PDUs sending again makes.
pub resend-length : (us : List (List ℕ)) (now : ℕ) (s : State)
    → length (resend us now s).made ≡ length s.made + length us
resend-length [] now s = omega arith
resend-length (u ∷ us) now s = omega (arith, resend-length us now (make RetrData u now s), length-make RetrData u now s)

resend-unconfirmed : (us : List (List ℕ)) (now : ℕ) (s : State) → s.confirmed < length s.made
    → unconfirmed (resend us now s) ≡ unconfirmed s ++ us
resend-unconfirmed [] now s h = sym (append-nil (unconfirmed s))
resend-unconfirmed (u ∷ us) now s h =
    resend-unconfirmed us now (make RetrData u now s) (omega (arith, length-make RetrData u now s))
    ∙ (ap (λ run. run ++ us) (unconfirmed-make RetrData u now s h) ∙ append_assoc (unconfirmed s) (u ∷ []) us)

-- An answer to a request.
pub record Replied (s t : State) : Type 0 where
  pub settings : t.settings ≡ s.settings
  pub connection : t.connection ≡ s.connection
  pub confirmed : t.confirmed ≡ s.confirmed
  pub window : t.window ≡ s.window
  pub more : length t.made ≡ length s.made + 2 + length (unconfirmed s)
  pub same : unconfirmed t ≡ unconfirmed s

pub replied : (now : ℕ) (s : State) → s.confirmed < length s.made → Replied s (reply now s)
replied now s h =
    grind (
      arith,
      length-make,
      resend-length,
      resend-confirmed,
      resend-settings,
      resend-connection,
      resend-window,
      unconfirmed-make,
      resend-unconfirmed,
    )

bounded-replied : (s t : State) → Bounded s → Replied s t → length s.made ≤ 4294901759 → s.confirmed < length s.made
    → Bounded t × (length t.made ≤ 4294901794)
    × (t.confirmed < length t.made)
bounded-replied s t b r few made = grind arith

-- Confirming.
pub confirmed-made : (x : State) (p : Pdu) → cs_fits (kept_of x) p ≡ true
    → x.confirmed + cs_step (kept_of x) p < length x.made
confirmed-made x p fits = omega (arith, ltb-true (cs_step (kept_of x) p) (length x.made - x.confirmed) fits)

bounded-confirmed : (x : State) (p : Pdu) (connection : ConnectionState) (window : ℕ) → Bounded x
    → length x.made ≤ 4294901795 → cs_fits (kept_of x) p ≡ true
    → window ≤ 32 → length (unconfirmed x) ≤ window → (connection ≡ Start → length (unconfirmed x) ≡ 0)
    → BoundedOf x.settings x.made (x.confirmed + cs_step (kept_of x) p) connection window
bounded-confirmed x p connection window b few fits small in_window none = grind (arith, confirmed-made, run_of-shrinks)

bounded-carry : (now : ℕ) (p : Pdu) (x : State) → Bounded x → Ready x → (x.connection ≡ Down → x.made ≡ [])
    → (1 ≤ is_opening p.kind → window_of p.body ≤ 32) →
    (e : Decision) → Fits (kept_of x) p now e → Bounded (carry_out p now e x)
bounded-carry now p x b ready down window Nothing f = b
bounded-carry now p x b ready down window (Drops cause) f = b
bounded-carry now p x b ready down window Shuts f = bounded-closed x b
bounded-carry now p x b ready down window (Leaves reason detail) f = bounded-leave reason detail now x b
bounded-carry now p x b ready down window Rejects (is_down, is) =
    let empty : length x.made ≡ 0 = ap length (down is_down) in
    let z = pass p 0 x in
    let one = length-make DiscReq (leaving_body WrongVersion Unspecified) now z in
    let none : length (run_of (drop (x.confirmed + 1)
    (x.made ++ next_made z DiscReq (leaving_body WrongVersion Unspecified) now ∷ []))) ≤ x.window =
    omega (
      arith,
      run_of-shrinks 0 (x.confirmed + 1) (x.made ++ next_made z DiscReq (leaving_body WrongVersion Unspecified) now ∷
          []) (omega arith),
      ap (λ ms. length (run_of (ms ++ next_made z DiscReq (leaving_body WrongVersion Unspecified) now ∷ [])))
          (down is_down),
    ) in
    bounded-low (move_to Closed (make DiscReq (leaving_body WrongVersion Unspecified) now z)) b.small b.limit
    (omega arith) b.window_small none (λ start. cc)
    (λ live. absurd (false≢true live))
bounded-carry now p x b ready down window Accepts (is_down, is, ours) = grind arith
bounded-carry now p x b ready down window Connects (start, client, is, passed) =
    let few = ready (ap is_live start) in
    let z = move_to Up (set_window (window_of p.body) (pass p 0 (tests_passed p x))) in
    let bz : Bounded z =
    bounded-confirmed x p Up (window_of p.body) b (omega (arith, b.limit)) passed.cs
    (window (omega (arith, ap is_opening is)))
    (omega (arith, b.none_in_start start)) (λ up. cc) in
    bounded-plain Heartbeat [] now z bz (omega (arith, b.limit)) (confirmed-made x p passed.cs) (λ run. refl)
bounded-carry now p x b ready down window (Takes to) f =
    let few = ready (listens-live x.connection x.settings.client f.table.listens_now) in
    let z = move_to to (pass p 0 (tests_passed p x)) in
    let bz : Bounded z = bounded-confirmed x p to x.window b (omega (arith, b.limit)) f.passed.cs b.window_small
    b.in_window
    (λ start. absurd (false≢true (sym (ap is_connected start) ∙ f.connected))) in
    let u = hand_up p z in
    unit-cases Bounded p now z (λ _. bounded-plain Heartbeat [] now u bz (omega (arith, b.limit))
    (confirmed-made x p f.passed.cs) (λ run. refl)) (λ _ _. bz)
    (λ _. bz)
bounded-carry now p x b ready down window Asks f =
    let live = listens-live x.connection x.settings.client f.table.listens_now in
    let few = ready live in
    let bt = bounded-plain RetrReq [] now x b (omega (arith, b.limit)) (b.confirmed_made live) (λ run. refl) in
    bounded-low (ask now x) b.small b.limit (omega (arith, length-make RetrReq [] now x, b.limit)) b.window_small
    bt.in_window (λ start. cc)
    (λ _. bt.confirmed_made live)
bounded-carry now p x b ready down window Resumes f =
    let few = ready (listens-live x.connection x.settings.client f.table.listens_now) in
    bounded-confirmed x p RetrRun x.window b (omega (arith, b.limit)) f.passed.cs b.window_small b.in_window
    (λ start. cc)
bounded-carry now p x b ready down window AnswersNext (f, none, turn, cts) =
    let few = ready (listens-live x.connection x.settings.client f.table.listens_now) in
    let z = pass p 0 (note_request 0 (tests_passed p x)) in
    let bz : Bounded z = bounded-confirmed x p x.connection x.window b (omega (arith, b.limit)) f.cs b.window_small
    b.in_window b.none_in_start in
    (bounded-replied z (reply now z) bz (replied now z (confirmed-made x p f.cs)) (omega (arith, b.limit))
    (confirmed-made x p f.cs)).0
bounded-carry now p x b ready down window AnswersEarly f =
    let few = ready (listens-live x.connection x.settings.client f.table.listens_now) in
    let z = note_request (distance (kept_of x) p) (confirm_units p x) in
    let bz : Bounded z = bounded-confirmed x p x.connection x.window b (omega (arith, b.limit)) f.cs b.window_small
    b.in_window b.none_in_start in
    let t = reply now z in
    let bt = bounded-replied z t bz (replied now z (confirmed-made x p f.cs)) (omega (arith, b.limit))
    (confirmed-made x p f.cs) in
    let asked = bounded-plain RetrReq [] now t bt.0 bt.1 bt.2 (λ run. refl) in
    early-cases Bounded p now x
    (λ _. bounded-low (ask now t) bt.0.small bt.0.limit (omega (arith, length-make RetrReq [] now t, bt.1))
    bt.0.window_small asked.in_window (λ start. cc)
    (λ _. omega (arith, length-make RetrReq [] now t, bt.2)))
    bt.0

pub bounded-respond : (now : ℕ) (p : Pdu) (x : State) → Bounded x → Ready x → (x.connection ≡ Down → x.made ≡ [])
    → (1 ≤ is_opening p.kind → window_of p.body ≤ 32) → Bounded (respond p now x)
bounded-respond now p x b ready down window =
    bounded-carry now p x b ready down window (decide (kept_of x) p now) (decide-fits (kept_of x) p now)

-- A move that is not an arrival.
pub bounded-move : (m : Move) (x : State) → HearsNothing m → Bounded x → Bounded (move m x)
bounded-move m x quiet b =
    let now = when m in
    quiet-cases Bounded m x quiet b (λ reason detail. bounded-leave reason detail now x b)
    (λ connected in_time.
    let live = connected-live x.connection connected in
    let few = (in_time live).1 in
    bounded-plain Heartbeat [] now x b (omega (arith, few, b.limit)) (b.confirmed_made live) (λ run. refl))
    (λ unit turn room_left.
    let live = turn-live x.connection turn in
    let made = b.confirmed_made live in
    let same : unconfirmed (make Data unit now x) ≡ unconfirmed x ++ unit ∷
    [] = unconfirmed-make Data unit now x made in
    let count : length (unconfirmed (make Data unit now x)) ≡ length (unconfirmed x) + 1 = ap length same
    ∙ length-append (unconfirmed x) (unit ∷ []) in
    let more = length-make Data unit now x in
    let few = b.few_live live in
    record {
      small = b.small;
      limit = b.limit;
      few = omega (arith, b.window_small, few, more);
      few_live = λ _. omega (arith, few, more);
      window_small = b.window_small;
      in_window = omega arith;
      none_in_start = λ start. absurd (false≢true (sym (ap in_turn start) ∙ turn));
      confirmed_made = λ _. omega (arith, more);
    })
