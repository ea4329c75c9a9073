-- What holds for every machine, since it is in a state that moves lead to from an opening.
use Rattle.safe_machine.proofs.Words.{◌≡◌, ℕ, ◌+◌, ◌<◌, ◌≤◌, List, [], ◌∷◌, ◌++◌, length, drop, true, refl, sym, ap, subst, ◌∙◌, arith, ◌⊎◌, inl, inr}
use Rattle.safe_machine.proofs.Words.{false≢true, and_parts, drop_all, length-drop, All-nil, All-cons, All-push, All-weaker, Numbered, octets_of}
use Rattle.safe_machine.proofs.Words.{after_at, carried_at, ring_of, Kind, ConnReq, ConnResp, RetrResp, Heartbeat, Data, RetrData, Pdu, IsBody, window_of}
use Rattle.safe_machine.proofs.Words.{HasNumbers, Down, Reason, Detail, Made, opening_body, Settings, is_legal, Decision, decide, distance, Nothing, Drops}
use Rattle.safe_machine.proofs.Words.{Shuts, Leaves, Takes, Resumes, AnswersNext, AnswersEarly, take_unit, tests_passed, carry_out, respond, send}
use Rattle.safe_machine.proofs.Words.{confirm_units, Move, move, make_moves, IsUnitSized, Hears, Sends, State, new_state, make, move_to, pass, note_request, resend}
use Rattle.safe_machine.proofs.Words.{reply, unconfirmed, leave, IsRead, AreRead, IsReached, AllBelow, AllUnits, Sound, MaySend, turn, View, kept_of}
use Rattle.safe_machine.proofs.Words.{is_connected, arrive, arrival_turn, guard_turn, index_step, ◌-◌, length-append, ltb-true, above, renumber_units, RetrReq, DiscReq}
use Rattle.safe_machine.proofs.Words.{WrongVersion, Unspecified, leaving_body, next_made, hand_up, ask, cs_fits, cs_step, Rejects, Accepts, Connects, Asks}
use Rattle.safe_machine.proofs.Words.{set_window, WINDOW_MAX, beside, StopsOnly, octets-renumbered, may_send, FewLaw, if◌then◌else◌}
use Rattle.safe_machine.proofs.one.TurnSteps.{opened-cases, send-is}
use Rattle.safe_machine.proofs.one.Runs.{octets_of-length, ring_of-units, legal as lawful, resend-settings, resend-connection, leave-cases, unit-cases}
use Rattle.safe_machine.proofs.one.Runs.{early-cases, turn-connected, turn-live, connected-up, legal, resend-expected, ring-resend, plain-ring, ring-step}
use Rattle.safe_machine.proofs.one.Runs.{answer-ring, quiet-cases, arrive-cases, when}
use Rattle.safe_machine.proofs.two.Invariant.{is_opening}
use Rattle.safe_machine.proofs.one.DecisionCounts.{Fits, decide-fits, Bounded, bounded-respond, bounded-leave, unconfirmed-make, length-make, resend-length}
use Rattle.safe_machine.proofs.one.DecisionCounts.{run_of-shrinks, bounded-move, bounded-opened}
use Rattle.safe_machine.proofs.one.Kept.{AllowsMove, kept-move, Texts, own-legal, kept-texts, AllSized, sized-run, texts-drop, kept-moved, kept-lists}
use Rattle.safe_machine.proofs.one.Kept.{texts-opened}
use Rattle.safe_machine.proofs.one.TurnSteps.{tells_law_holds, turns_law_holds}

-- What holds for every machine, since it is in a state that moves lead to from an opening.
moved-snoc : (ms : List Move) (m : Move) (s : State) → make_moves (ms ++ m ∷ []) s ≡ move m (make_moves ms s)
moved-snoc [] m s = refl
moved-snoc (n ∷ ms) m s = moved-snoc ms m (move n s)

read-snoc : (ms : List Move) (m : Move) → AreRead ms → IsRead m → AreRead (ms ++ m ∷ [])
read-snoc [] m h k = (k, tt)
read-snoc (n ∷ ms) m h k = (h.0, read-snoc ms m h.1 k)

-- Bounds of a state that every move keeps.
pub record Sure (s : State) : Type 0 where
  pub bounded : Bounded s
  pub down : s.connection ≡ Down → s.made ≡ []
  pub since : s.since < s.settings.mwa

opening-small : (body : List ℕ) → IsBody ConnReq body → window_of body ≤ 32
opening-small body b = grind arith

opening-window : (kind : Kind) (body : List ℕ) → IsBody kind body → 1 ≤ is_opening kind → window_of body ≤ 32
opening-window kind body b h = grind (arith, opening-small)

abbrev Waits : State → Type 0
Waits s = (s.connection ≡ Down → s.made ≡ []) × (s.since < s.settings.mwa)

waits-leave : (reason : Reason) (detail : Detail) (now : ℕ) (s : State) → Waits s → Waits (leave reason detail now s)
waits-leave reason detail now s h =
    leave-cases Waits reason detail now s (λ _. (λ e. cc, omega (arith, h.1))) (λ _. (λ e. cc, h.1))

-- A connected end that has made a PDU.
waits-made : (kind : Kind) (body : List ℕ) (now : ℕ) (s : State) → is_connected s.connection ≡ true
    → s.since < s.settings.mwa → Waits (make kind body now s)
waits-made kind body now s on h = (λ e. absurd (connected-up s.connection on e), omega (arith, h))

waits-reply : (now : ℕ) (s : State) → is_connected s.connection ≡ true → s.since < s.settings.mwa → Waits (reply now s)
waits-reply now s on h = grind (arith, resend-connection, resend-settings, connected-up)

waits-unit : (p : Pdu) (now : ℕ) (s : State) → is_connected s.connection ≡ true → s.since < s.settings.mwa
    → Waits (take_unit p now s)
waits-unit p now s on h = grind arith

waits-decided : (p : Pdu) (now : ℕ) (d : Decision) (s : State) → Fits (kept_of s) p now d → Waits s
    → Waits (carry_out p now d s)
waits-decided p now Nothing s f h = h
waits-decided p now (Drops cause) s f h = h
waits-decided p now Shuts s f h = (λ e. cc, h.1)
waits-decided p now (Leaves reason detail) s f h = waits-leave reason detail now s h
waits-decided p now (Takes to) s f h = waits-unit p now (move_to to (pass p 0 (tests_passed p s))) f.connected h.1
waits-decided p now Resumes s f h = (λ e. cc, h.1)
waits-decided p now AnswersNext s (f, none, turn, cts) h =
    waits-reply now (pass p 0 (note_request 0 (tests_passed p s))) f.connected h.1
waits-decided p now AnswersEarly s f h =
    let z = note_request (distance (kept_of s) p) (confirm_units p s) in
    let t = reply now z in
    let w : Waits t = waits-reply now z f.connected h.1 in
    early-cases Waits p now s (λ _. (λ e. cc, omega (arith, w.1))) w
waits-decided p now _ s f h = (λ e. cc, omega (arith, h.1))

sure : (s : State) → Bounded s → Waits s → Sure s
sure s b w = record { bounded = b; down = w.0; since = w.1 }

waits : (s : State) → Sure s → Waits s
waits s h = (h.down, h.since)

sure-move : (m : Move) (s : State) → IsRead m → Sure s → Sure (move m s)
sure-move (Hears p now) s a h =
    arrive-cases Sure p now s h
    (λ reason detail.
    sure (leave reason detail now s) (bounded-leave reason detail now s h.bounded)
    (waits-leave reason detail now s (waits s h)))
    (λ _ _ in_time.
    sure (respond p now s) (bounded-respond now p s h.bounded (λ live. (in_time live).1) h.down
    (opening-window p.kind p.body a.1))
    (waits-decided p now (decide (kept_of s) p now) s (decide-fits (kept_of s) p now) (waits s h)))
sure-move m s a h =
    sure (move m s) (bounded-move m s tt h.bounded)
    (quiet-cases Waits m s tt (waits s h) (λ reason detail. waits-leave reason detail (when m) s (waits s h))
    (λ connected _. waits-made Heartbeat [] (when m) s connected h.since)
    (λ unit turn _. waits-made Data unit (when m) s (turn-connected s.connection turn) h.since))

pub sure-moved : (ms : List Move) (s : State) → AreRead ms → Sure s → Sure (make_moves ms s)
sure-moved [] s a h = h
sure-moved (m ∷ ms) s a h = sure-moved ms (move m s) a.1 (sure-move m s a.0 h)

read-allows : (m : Move) → IsRead m → AllowsMove HasNumbers IsUnitSized m
read-allows m h = grind arith

texts-moved : (ms : List Move) (s : State) → AreRead ms → Texts s → Texts (make_moves ms s)
texts-moved [] s a h = h
texts-moved (m ∷ ms) s a h =
    texts-moved ms (move m s) a.1 (kept-move HasNumbers IsUnitSized Texts kept-texts m s (read-allows m a.0) h)

pub opened-sure : (settings : Settings) (first now : ℕ) → is_legal settings ≡ true → Sure (new_state settings first now)
opened-sure settings first now legal =
    let since = (lawful settings legal).mwa_least in
    let waits : Waits (new_state settings first now) = opened-cases Waits settings first now (λ _. ((λ e. cc), since))
    (λ _. ((λ e. refl), since)) in
    sure (new_state settings first now) (bounded-opened settings first now legal) waits

-- The ring of a state.
units-of : (us : List Numbered) → AllSized (octets_of us) → AllUnits us
units-of [] h = All-nil (λ (u : Numbered). IsBody RetrData u.octets)
units-of (u ∷ us) h = All-cons (λ (u : Numbered). IsBody RetrData u.octets) u us h.0 (units-of us h.1)

below-more : (n m : ℕ) (us : List Numbered) → n ≤ m → AllBelow n us → AllBelow m us
below-more n m us le h =
    All-weaker (λ (u : Numbered). u.number < n) (λ (u : Numbered). u.number < m) (λ u k. omega (arith, k, le)) us h

below-push : (n : ℕ) (us : List Numbered) (body : List ℕ) → AllBelow n us
    → AllBelow (n + 1) (us ++ record { number = n; octets = body } ∷ [])
below-push n us body h = All-push (λ (u : Numbered). u.number < n + 1) us (record { number = n; octets = body })
    (below-more n (n + 1) us (omega arith) h)
    (omega arith)

below-after : (kind : Kind) (body : List ℕ) (n : ℕ) (us : List Numbered) → AllBelow n us
    → AllBelow (n + 1) (after_at kind body n us)
below-after kind body n us h = grind (arith, below-push, below-more)

below-carried : (n end : ℕ) (us : List Numbered) (ms : List Made) → n + length ms ≤ end → AllBelow n us
    → AllBelow end (carried_at n us ms)
below-carried n end us [] h k = below-more n end us (omega arith) k
below-carried n end us (m ∷ ms) h k = below-carried (n + 1) end (after_at m.pdu.kind m.pdu.body n us) ms (omega arith)
    (below-after m.pdu.kind m.pdu.body n us k)

below-ring : (s : State) → AllBelow (length s.made) (ring_of s)
below-ring s = grind (arith, below-carried, length-drop, drop_all)

pub legal-reached : (v : View) (r : IsReached v)
    → is_legal (make_moves r.moves (new_state r.settings r.first r.began)).settings ≡ true
legal-reached v r =
    let P : State → Type 0 = λ s. is_legal s.settings ≡ true in
    kept-moved P (kept-lists P (λ s t e f h. ap is_legal e ∙ h) (λ kind body now s h. h)) r.moves
    (new_state r.settings r.first r.began)
    (opened-cases P r.settings r.first r.began (λ _. r.legal) (λ _. r.legal))

pub reached-legal : (v : View) → IsReached v → is_legal v.settings ≡ true
reached-legal v r = subst (λ (w : View). is_legal w.settings ≡ true) (sym r.stands) (legal-reached v r)

pub reached-room : (v : View) → IsReached v → v.room ≡ WINDOW_MAX
reached-room v r = ap (λ (w : View). w.room) r.stands

sure-reached : (v : View) (r : IsReached v) → Sure (make_moves r.moves (new_state r.settings r.first r.began))
sure-reached v r =
    sure-moved r.moves (new_state r.settings r.first r.began) r.read (opened-sure r.settings r.first r.began r.legal)

pub reached-sound : (v : View) → IsReached v → Sound v
reached-sound v r =
    let s : State = new_state r.settings r.first r.began in
    let t : State = make_moves r.moves s in
    let h : Sure t = sure-reached v r in
    let legal : is_legal t.settings ≡ true = legal-reached v r in
    let texts : Texts t = texts-moved r.moves s r.read (texts-opened r.settings r.first r.began r.legal) in
    let ranges = lawful t.settings legal in
    let same : octets_of (ring_of t) ≡ unconfirmed t = ring_of-units t in
    let sized : AllSized (unconfirmed t) = sized-run [] (drop (t.confirmed + 1) t.made)
    (texts-drop (t.confirmed + 1) t.made texts.texts) tt in
    subst Sound (sym r.stands)
    (record {
      few = omega (arith, h.bounded.few);
      window = h.bounded.window_small;
      room = refl;
      short = omega (arith, ap length same, octets_of-length (ring_of t), h.bounded.in_window, h.bounded.window_small);
      sized = units-of (ring_of t) (subst AllSized (sym same) sized);
      below = below-ring t;
      live = h.bounded.confirmed_made;
      since = omega (arith, h.since, ranges.mwa_most);
      down =
          λ e. ap (carried_at (t.confirmed + 1) [])
          (drop_all (t.confirmed + 1) t.made (omega (arith, ap length (h.down e))));
      opening = (own-legal t.settings legal).window;
    })

-- An end that sends has made the PDU last confirmed.
pub reached-may : (m : Move) (v : View) → IsReached v → MaySend m v
reached-may (Sends unit now) v r = λ turn. (reached-sound v r).live (turn-live v.connection turn)
reached-may _ v r = tt

-- One more move.
pub reached-turn : (m : Move) (v w : View) → IsReached v → IsRead m → w ≡ (turn m v).left → IsReached w
reached-turn m v w r read e =
    let s = make_moves r.moves (new_state r.settings r.first r.began) in
    record {
      settings = r.settings;
      first = r.first;
      began = r.began;
      moves = r.moves ++ m ∷ [];
      legal = r.legal;
      read = read-snoc r.moves m r.read read;
      stands = e ∙ ((turns_law_holds m v s (reached-may m v r) r.stands).stands
          ∙ ap kept_of (sym (moved-snoc r.moves m (new_state r.settings r.first r.began))));
    }

-- At most as many units are unconfirmed as the peer's window allows.
pub reached-window : (v : View) → IsReached v → length v.ring ≤ v.window
reached-window v r =
    let t : State = make_moves r.moves (new_state r.settings r.first r.began) in
    let count : length v.ring ≡ length (unconfirmed t) = (tells_law_holds v t r.stands).awaiting in
    let window : v.window ≡ t.window = ap (λ (w : View). w.window) r.stands in
    omega (arith, (sure-reached v r).bounded.in_window)

-- How far the index of the peer's next PDU moves.
leave-expected : (reason : Reason) (detail : Detail) (now : ℕ) (s : State)
    → (leave reason detail now s).expected ≡ s.expected
leave-expected reason detail now s =
    leave-cases (λ t. t.expected ≡ s.expected) reason detail now s (λ _. refl) (λ _. refl)

unit-expected : (p : Pdu) (now : ℕ) (s : State) → (take_unit p now s).expected ≡ s.expected
unit-expected p now s = unit-cases (λ t. t.expected ≡ s.expected) p now s (λ _. refl) (λ _ _. refl) (λ _. refl)

near-decided : (p : Pdu) (now : ℕ) (d : Decision) (s : State) → s.settings.n_sendmax ≤ 32 → Fits (kept_of s) p now d
    → (carry_out p now d s).expected
    ≤ s.expected + index_step
near-decided p now d s small f = grind (arith, leave-expected, unit-expected, resend-expected, early-cases)

near-arrive : (p : Pdu) (now : ℕ) (s : State) → s.settings.n_sendmax ≤ 32
    → (arrive p now s).expected ≤ s.expected + index_step
near-arrive p now s small =
    arrive-cases (λ (t : State). t.expected ≤ s.expected + index_step) p now s (omega arith)
    (λ reason detail. omega (arith, leave-expected reason detail now s))
    (λ _ _ _. near-decided p now (decide (kept_of s) p now) s small (decide-fits (kept_of s) p now))

-- One arrival.
pub reached-near : (p : Pdu) (now : ℕ) (v w : View) → IsReached v → w ≡ (arrival_turn p now v).left
    → w.expected ≤ v.expected + index_step
reached-near p now v w r e =
    let t = make_moves r.moves (new_state r.settings r.first r.began) in
    let stands = (turns_law_holds (Hears p now) v t tt r.stands).stands in
    let before : v.expected ≡ t.expected = ap (λ (x : View). x.expected) r.stands in
    let after : w.expected ≡ (arrive p now t).expected = ap (λ (x : View). x.expected) (e ∙ stands) in
    omega (arith, before, after, near-arrive p now t (legal t.settings (legal-reached v r)).window_most)

-- Bytes that are not a PDU do not move it.
pub reached-still : (now : ℕ) (v w : View) → IsReached v → w ≡ (guard_turn now v).left → w.expected ≡ v.expected
reached-still now v w r e = grind arith

-- Which units an arrival confirms.
abbrev Stops : Pdu → State → State → Type 0
Stops p s t =
    (octets_of (ring_of t) ≡ octets_of (ring_of s)) ⊎
    (octets_of (ring_of t) ≡ octets_of (above (s.confirmed + cs_step (kept_of s) p) (ring_of s)))

ring-leave : (reason : Reason) (detail : Detail) (now : ℕ) (s : State) → ring_of (leave reason detail now s) ≡ ring_of s
ring-leave reason detail now s = leave-cases (λ (t : State). ring_of t ≡ ring_of s) reason detail now s
    (λ live. grind (arith, plain-ring)) (λ quiet. refl)

ring-unit : (p : Pdu) (now : ℕ) (s : State) → ring_of (take_unit p now s) ≡ ring_of s
ring-unit p now s = unit-cases (λ t. ring_of t ≡ ring_of s) p now s
    (λ _. plain-ring Heartbeat [] now (hand_up p s) refl) (λ _ _. refl) (λ _. refl)

-- An answer keeps the units.
ring-reply : (now : ℕ) (y : State) → y.confirmed < length y.made
    → octets_of (ring_of (reply now y)) ≡ octets_of (ring_of y)
ring-reply now y within =
    let t = make RetrResp [] now y in
    let us = unconfirmed y in
    let r = resend us now t in
    let more : length t.made ≡ length y.made + 1 = length-append y.made (next_made y RetrResp [] now ∷ []) in
    ap octets_of
    (plain-ring Heartbeat [] now r refl
    ∙ (ring-resend us now t (omega arith) ∙ ap (λ cs. cs ++ renumber_units (length t.made) us)
    (answer-ring now y within)))
    ∙ (octets-renumbered (length t.made) us ∙ sym (ring_of-units y))

-- A server that was just opened has no unit, also after its ConnResp.
ring-none : (ms : List Made) (m : Made) → carried_at (length ms + 1) [] (drop (length ms + 1) (ms ++ m ∷ [])) ≡ []
ring-none ms m = go (drop (length ms + 1) (ms ++ m ∷ [])) (length-drop (length ms + 1) (ms ++ m ∷ [])
    ∙ omega (arith, length-append ms (m ∷ [])))
  where
    go : (rest : List Made) → length rest ≡ 0 → carried_at (length ms + 1) [] rest ≡ []
    go [] e = refl
    go (a ∷ rest) e = absurd (omega (arith, e))

fits-within : (p : Pdu) (s : State) → cs_fits (kept_of s) p ≡ true → cs_step (kept_of s) p < length s.made - s.confirmed
fits-within p s e = ltb-true (cs_step (kept_of s) p) (length s.made - s.confirmed) e

confirmed-stops : (p : Pdu) (s t : State) → cs_fits (kept_of s) p ≡ true
    → octets_of (ring_of t) ≡ octets_of (ring_of (confirm_units p s)) → Stops p s t
confirmed-stops p s t fits e = inr (e ∙ ap octets_of (sym (ring-step p s (fits-within p s fits))))

stops-decided : (p : Pdu) (now : ℕ) (d : Decision) (s : State) → (s.connection ≡ Down → ring_of s ≡ [])
    → Fits (kept_of s) p now d
    → Stops p s (carry_out p now d s)
stops-decided p now Nothing s down f = inl refl
stops-decided p now (Drops cause) s down f = inl refl
stops-decided p now Shuts s down f = inl refl
stops-decided p now (Leaves reason detail) s down f = inl (ap octets_of (ring-leave reason detail now s))
stops-decided p now Rejects s down f =
    inl (ap octets_of (plain-ring DiscReq (leaving_body WrongVersion Unspecified) now (pass p 0 s) refl))
stops-decided p now Accepts s down f = grind (arith, ring-none)
stops-decided p now Connects s down f =
    let y = set_window (window_of p.body) (pass p 0 (tests_passed p s)) in
    confirmed-stops p s (carry_out p now Connects s) f.3.cs (ap octets_of (plain-ring Heartbeat [] now y refl))
stops-decided p now (Takes to) s down f =
    let y = move_to to (pass p 0 (tests_passed p s)) in
    confirmed-stops p s (carry_out p now (Takes to) s) f.passed.cs (ap octets_of (ring-unit p now y))
stops-decided p now Asks s down f = inl (ap octets_of (plain-ring RetrReq [] now s refl))
stops-decided p now Resumes s down f = confirmed-stops p s (carry_out p now Resumes s) f.passed.cs refl
stops-decided p now AnswersNext s down f =
    let y = pass p 0 (note_request 0 (tests_passed p s)) in
    confirmed-stops p s (reply now y) f.0.cs (ring-reply now y (omega (arith, fits-within p s f.0.cs)))
stops-decided p now AnswersEarly s down f =
    let y = note_request (distance (kept_of s) p) (confirm_units p s) in
    let t = reply now y in
    let same = ring-reply now y (omega (arith, fits-within p s f.cs)) in
    early-cases (Stops p s) p now s (λ _. confirmed-stops p s (ask now t) f.cs
    (ap octets_of (plain-ring RetrReq [] now t refl) ∙ same))
    (confirmed-stops p s t f.cs same)

stops-arrive : (p : Pdu) (now : ℕ) (s : State) → (s.connection ≡ Down → ring_of s ≡ []) → Stops p s (arrive p now s)
stops-arrive p now s down =
    arrive-cases (Stops p s) p now s (inl refl) (λ reason detail. inl (ap octets_of (ring-leave reason detail now s)))
    (λ _ _ _. stops-decided p now (decide (kept_of s) p now) s down (decide-fits (kept_of s) p now))

-- For every machine.
pub reached-stops : (p : Pdu) (now : ℕ) (v w : View) → IsReached v → w ≡ (arrival_turn p now v).left
    → StopsOnly (v.confirmed + cs_step v p) v w
reached-stops p now v w r is =
    let t = make_moves r.moves (new_state r.settings r.first r.began) in
    let down : t.connection ≡ Down → ring_of t ≡ [] =
    λ e. sym (ap (λ (x : View). x.ring) r.stands)
    ∙ (reached-sound v r).down (ap (λ (x : View). x.connection) r.stands ∙ e) in
    subst (λ (x : View). StopsOnly (x.confirmed + cs_step x p) x w) (sym r.stands)
    (subst (λ (y : View). StopsOnly (t.confirmed + cs_step (kept_of t) p) (beside (ring_of t) t) y)
    (sym (is ∙ (turns_law_holds (Hears p now) v t tt r.stands).stands)) (stops-arrive p now t down))

pub reached-keeps : (now : ℕ) (v w : View) → IsReached v → w ≡ (guard_turn now v).left
    → octets_of w.ring ≡ octets_of v.ring
reached-keeps now v w r is = grind arith

-- How few PDUs a move makes.
few-leave : (reason : Reason) (detail : Detail) (now : ℕ) (s : State)
    → length (leave reason detail now s).made ≤ length s.made + 1
few-leave reason detail now s =
    leave-cases (λ (t : State). length t.made ≤ length s.made + 1) reason detail now s
    (λ live. omega (arith, length-make DiscReq (leaving_body reason detail) now s))
    (λ quiet. omega arith)

reply-length : (now : ℕ) (s : State) → length (reply now s).made ≡ length s.made + 2 + length (unconfirmed s)
reply-length now s = grind (arith, length-make, resend-length)

-- A PDU that confirms does not add unconfirmed units.
shrinks : (p : Pdu) (s : State) → length (unconfirmed (confirm_units p s)) ≤ length (unconfirmed s)
shrinks p s = run_of-shrinks (s.confirmed + 1) (s.confirmed + cs_step (kept_of s) p + 1) s.made (omega arith)

few-carry : (p : Pdu) (now : ℕ) (d : Decision) (s : State) → length (unconfirmed s) ≤ 32
    → length (carry_out p now d s).made ≤ length s.made + 35
few-carry p now (Leaves reason detail) s h = omega (arith, few-leave reason detail now s)
few-carry p now Rejects s h =
    omega (arith, length-make DiscReq (leaving_body WrongVersion Unspecified) now (pass p 0 s))
few-carry p now Accepts s h =
    omega (
      arith,
      length-make ConnResp (opening_body s.settings.n_sendmax) now
          (set_window (window_of p.body) (pass p 0 s)),
    )
few-carry p now Connects s h =
    omega (arith, length-make Heartbeat [] now (set_window (window_of p.body) (pass p 0 (tests_passed p s))))
few-carry p now (Takes to) s h =
    let y = move_to to (pass p 0 (tests_passed p s)) in
    unit-cases (λ t. length t.made ≤ length s.made + 35) p now y
    (λ _. omega (arith, length-make Heartbeat [] now (hand_up p y))) (λ _ _. omega arith)
    (λ _. omega arith)
few-carry p now Asks s h = omega (arith, length-make RetrReq [] now s)
few-carry p now AnswersNext s h =
    let y = pass p 0 (note_request 0 (tests_passed p s)) in
    let few : length (unconfirmed y) ≤ length (unconfirmed s) = shrinks p s in
    omega (arith, reply-length now y)
few-carry p now AnswersEarly s h =
    let y = note_request (distance (kept_of s) p) (confirm_units p s) in
    let z = reply now y in
    let few : length (unconfirmed y) ≤ length (unconfirmed s) = shrinks p s in
    let more = reply-length now y in
    early-cases (λ t. length t.made ≤ length s.made + 35) p now s (λ _. omega (arith, length-make RetrReq [] now z))
    (omega arith)
few-carry p now _ s h = omega arith

few-move : (m : Move) (s : State) → Bounded s → length (move m s).made ≤ length s.made + 36
few-move (Hears p now) s b =
    arrive-cases (λ (t : State). length t.made ≤ length s.made + 36) p now s (omega arith)
    (λ reason detail. omega (arith, few-leave reason detail now s))
    (λ _ _ _. omega (arith, few-carry p now (decide (kept_of s) p now) s (omega (arith, b.in_window, b.window_small))))
few-move m s b =
    quiet-cases (λ (t : State). length t.made ≤ length s.made + 36) m s tt (omega arith)
    (λ reason detail. omega (arith, few-leave reason detail (when m) s))
    (λ _ _. omega (arith, length-make Heartbeat [] (when m) s))
    (λ unit _ _. omega (arith, length-make Data unit (when m) s))

sending-one : (s : State) → Bounded s → (unit : List ℕ) (now : ℕ) → may_send s ≡ true
    → length (unconfirmed (send unit now s)) ≡ length (unconfirmed s) + 1
sending-one s b unit now may =
    subst (λ (t : State). length (unconfirmed t) ≡ length (unconfirmed s) + 1) (sym (send-is unit now s)) (by_room may)
  where
    by_room : may_send s ≡ true → length (unconfirmed (if may_send s then make Data unit now s else s))
        ≡ length (unconfirmed s) + 1
    by_room may = grind (arith, turn-live, and_parts, unconfirmed-make, length-append, false≢true)

pub few_law_holds : FewLaw
few_law_holds settings first now ms m legal read reads = grind (arith, sure-moved, opened-sure, few-move, sending-one)
