-- What every move of one machine keeps, for any input.
use Rattle.safe_machine.proofs.Words.{◌≡◌, ℕ, List, [], Bool, true, false, refl, Kind, ConnResp, RetrReq, DiscReq, Heartbeat, Data, Pdu, IsBody, window_of}
use Rattle.safe_machine.proofs.Words.{Closed, Start, Up, Requesting, RetrRun, Reason, WrongVersion, Detail, Unspecified, opening_body, leaving_body, State}
use Rattle.safe_machine.proofs.Words.{make, move_to, pass, hand_up, note_request, reply, leave, Decision, decide, cs_fits, distance, Nothing, Drops, Shuts}
use Rattle.safe_machine.proofs.Words.{Leaves, Rejects, Accepts, Connects, Takes, Asks, Resumes, AnswersNext, AnswersEarly, set_window, confirm_to, tests_passed}
use Rattle.safe_machine.proofs.Words.{carry_out, guard, confirm_units, Move, move, Guards, Hears, Ticks, Sends, LeavesNow, kept_of, length, sym, subst, ◌∙◌}
use Rattle.safe_machine.proofs.Words.{ConnectionState, Down, is_joining, ◌∷◌, ◌++◌, RetrData, Made, Settings, next_made, resend, new_state, make_moves, AreFrom, SettingsLaw}
use Rattle.safe_machine.proofs.Words.{IdentifiedLaw, ap, append_assoc, if◌then◌else◌, nat_le, units, may_send, sent_by, MovesLaw, append-nil}
use Rattle.safe_machine.proofs.Words.{ConnReq, respond, RequestsLaw, ◌⊎◌, inl, inr, StrangersLaw, WaitsLaw, GoesOn, HearsNothing, ConnectionsLaw, ◌≤◌, ◌<◌, ◌^◌}
use Rattle.safe_machine.proofs.Words.{zero, suc, arith, drop, le-leb, leb-true, and_parts, UNIT_MIN, UNIT_MAX, Eight, HasNumbers, length-text, after_pdu}
use Rattle.safe_machine.proofs.Words.{run_after, blank, is_legal, HasText, HaveTexts, IsUnitSized, AreSoundMoves, IsSoundMove, TextsLaw, HearsOwn, first_sent}
use Rattle.safe_machine.proofs.Words.{handed_by, units_of_move, IsTakenBy}
use Rattle.safe_machine.proofs.one.DecisionCounts.{Fits, decide-fits}
use Rattle.safe_machine.proofs.one.TurnSteps.{arrive-is, opened-cases, send-is, tick-is}
use Rattle.safe_machine.proofs.one.Runs.{heartbeat-cases, leave-cases}
use Rattle.safe_machine.proofs.one.Runs.{guard-cases, unit-cases, send-cases, early-cases, units-append, legal, made-again, reply-connection, taken-move}
use Rattle.safe_machine.proofs.one.Runs.{by_guard-cases, closed-move}
use Rattle.safe_machine.specs.Numbers.{sn_of}

-- If every single change of a machine keeps a property, every move keeps it.

-- Nothing changes that is derived from the PDUs made.
abbrev pub Silent : State → State → Type 0
Silent s t =
    (t.settings ≡ s.settings) × (t.made ≡ s.made) × (t.confirmed ≡ s.confirmed) × (t.last_sn ≡ s.last_sn)
    × (t.last_ts ≡ s.last_ts)

-- PDUs without a unit, and not a RetrResp.
abbrev pub is_plain : Kind → Bool
is_plain Heartbeat = true
is_plain RetrReq = true
is_plain DiscReq = true
is_plain _ = false

-- P is kept if A holds for each PDU that arrives and U for each unit that is sent.
pub record Kept (A : Pdu → Type 0) (U : List ℕ → Type 0) (P : State → Type 0) : Type 0 where
  pub silent : (s t : State) → Silent s t → P s → P t
  pub plain : (kind : Kind) (body : List ℕ) (now : ℕ) (s : State) → is_plain kind ≡ true → IsBody kind body → P s
      → P (make kind body now s)
  pub passes : (p : Pdu) (d : ℕ) (s : State) → A p → P s → P (pass p d s)
  pub confirms : (p : Pdu) (s : State) → cs_fits (kept_of s) p ≡ true → P s → P (confirm_units p s)
  pub accepts : (now : ℕ) (s : State) → P s
      → P (confirm_to (length s.made) now (make ConnResp (opening_body s.settings.n_sendmax) now s))
  pub sends : (unit : List ℕ) (now : ℕ) (s : State) → U unit → P s → P (make Data unit now s)
  pub replies : (now : ℕ) (s : State) → P s → P (reply now s)

-- The condition on the PDU or unit of a move.
abbrev pub AllowsMove : (A : Pdu → Type 0) (U : List ℕ → Type 0) → Move → Type 0
AllowsMove A U (Hears p now) = A p
AllowsMove A U (Sends unit now) = U unit
AllowsMove A U _ = Unit {0}

-- No condition on the PDU or unit of a move.
abbrev pub Anything : {X : Type 0} → X → Type 0
Anything x = Unit {0}

pub anything : (m : Move) → AllowsMove Anything Anything m
anything m = grind arith

module _ (A : Pdu → Type 0) (U : List ℕ → Type 0) (P : State → Type 0) (k : Kept A U P) where
  kept-leave : (reason : Reason) (detail : Detail) (now : ℕ) (s : State) → P s → P (leave reason detail now s)
  kept-leave reason detail now s h = leave-cases P reason detail now s (λ live. grind arith) (λ quiet. grind arith)

  kept-guard : (now : ℕ) (s : State) → P s → P (guard now s)
  kept-guard now s h = guard-cases P now s (λ reason detail. kept-leave reason detail now s h) (λ _. h)

  kept-tests : (p : Pdu) (s : State) → cs_fits (kept_of s) p ≡ true → P s → P (tests_passed p s)
  kept-tests p s fits h = grind arith

  pub kept-decided : (p : Pdu) (now : ℕ) (d : Decision) (s : State) → A p → Fits (kept_of s) p now d → P s
      → P (carry_out p now d s)
  kept-decided p now Nothing s a f h = h
  kept-decided p now (Drops cause) s a f h = h
  kept-decided p now Shuts s a f h = k.silent s (move_to Closed s) (refl, refl, refl, refl, refl) h
  kept-decided p now (Leaves reason detail) s a f h = kept-leave reason detail now s h
  kept-decided p now Rejects s a f h =
      let m = make DiscReq (leaving_body WrongVersion Unspecified) now (pass p 0 s) in
      k.silent m (move_to Closed m) (refl, refl, refl, refl, refl)
      (k.plain DiscReq (leaving_body WrongVersion Unspecified) now (pass p 0 s) refl refl (k.passes p 0 s a h))
  kept-decided p now Accepts s a f h =
      let y = set_window (window_of p.body) (pass p 0 s) in
      let z = confirm_to (length s.made) now (make ConnResp (opening_body s.settings.n_sendmax) now y) in
      k.silent z (move_to Start z) (refl, refl, refl, refl, refl)
      (k.accepts now y (k.silent (pass p 0 s) y (refl, refl, refl, refl, refl) (k.passes p 0 s a h)))
  kept-decided p now Connects s a f h =
      let t = tests_passed p s in
      let y = set_window (window_of p.body) (pass p 0 t) in
      let z = make Heartbeat [] now y in
      k.silent z (move_to Up z) (refl, refl, refl, refl, refl)
      (k.plain Heartbeat [] now y refl refl (k.silent (pass p 0 t) y (refl, refl, refl, refl, refl)
      (k.passes p 0 t a (kept-tests p s f.3.cs h))))
  kept-decided p now (Takes to) s a f h =
      let t = tests_passed p s in
      let y = move_to to (pass p 0 t) in
      let z = hand_up p y in
      let before : P y = k.silent (pass p 0 t) y (refl, refl, refl, refl, refl)
      (k.passes p 0 t a (kept-tests p s f.passed.cs h)) in
      let up : P z = k.silent y z (refl, refl, refl, refl, refl) before in
      unit-cases P p now y (λ _. k.plain Heartbeat [] now z refl refl up) (λ _ _. up) (λ _. before)
  kept-decided p now Asks s a f h = grind arith
  kept-decided p now Resumes s a f h =
      let t = tests_passed p s in
      let y = pass p (distance (kept_of s) p) t in
      k.silent y (move_to RetrRun y) (refl, refl, refl, refl, refl)
      (k.passes p (distance (kept_of s) p) t a (kept-tests p s f.passed.cs h))
  kept-decided p now AnswersNext s a f h =
      let t = tests_passed p s in
      let y = note_request 0 t in
      k.replies now (pass p 0 y) (k.passes p 0 y a
      (k.silent t y (refl, refl, refl, refl, refl) (kept-tests p s f.0.cs h)))
  kept-decided p now AnswersEarly s a f h =
      let t = confirm_units p s in
      let y = note_request (distance (kept_of s) p) t in
      let z = reply now y in
      let m = make RetrReq [] now z in
      let before : P z = k.replies now y (k.silent t y (refl, refl, refl, refl, refl) (k.confirms p s f.cs h)) in
      early-cases P p now s (λ _. k.silent m (move_to Requesting m) (refl, refl, refl, refl, refl)
      (k.plain RetrReq [] now z refl refl before)) before

  pub kept-move : (m : Move) (s : State) → AllowsMove A U m → P s → P (move m s)
  kept-move (Guards now) s a h = kept-guard now s h
  kept-move (Hears p now) s a h =
      let g = guard now s in
      subst P (sym (arrive-is p now s)) (kept-decided p now (decide (kept_of g) p now) g a
      (decide-fits (kept_of g) p now) (kept-guard now s h))
  kept-move (Ticks now) s a h =
      let g = guard now s in
      let kept = kept-guard now s h in
      subst P (sym (tick-is now s)) (heartbeat-cases P now g (λ on. k.plain Heartbeat [] now g refl refl kept) kept)
  kept-move (Sends unit now) s a h = send-cases P unit now s (λ _ _. k.sends unit now s a h) h
  kept-move (LeavesNow reason detail now) s a h = kept-leave reason detail now s h

-- A property of the settings and of the PDUs made.
pub kept-lists : (P : State → Type 0) → ((s t : State) → t.settings ≡ s.settings → t.made ≡ s.made → P s → P t) →
    ((kind : Kind) (body : List ℕ) (now : ℕ) (s : State) → P s → P (make kind body now s)) → Kept Anything Anything P
kept-lists P same makes =
    record {
      silent = λ s t k h. same s t k.0 k.1 h;
      plain = λ kind body now s is fits h. makes kind body now s h;
      passes = λ p d s a h. same s (pass p d s) refl refl h;
      confirms = λ p s fits h. same s (confirm_units p s) refl refl h;
      accepts = λ now s h.
          let m = make ConnResp (opening_body s.settings.n_sendmax) now s in
          same m (confirm_to (length s.made) now m) refl refl
          (makes ConnResp (opening_body s.settings.n_sendmax) now s h);
      sends = λ unit now s a h. makes Data unit now s h;
      replies = λ now s h. made-again P now (λ kind body s none h. makes kind body now s h) s h;
    }

-- A list of moves.
pub kept-moved : (P : State → Type 0) → Kept Anything Anything P → (ms : List Move) (s : State) → P s
    → P (make_moves ms s)
kept-moved P k [] s h = h
kept-moved P k (m ∷ ms) s h = kept-moved P k ms (move m s) (kept-move Anything Anything P k m s (anything m) h)

-- A machine's settings stay the same, and every PDU that it makes has its identifiers.
pub settings_law_holds : SettingsLaw
settings_law_holds m s =
    kept-move Anything Anything (λ (t : State). t.settings ≡ s.settings)
    (kept-lists (λ (t : State). t.settings ≡ s.settings) (λ a b e f h. e ∙ h) (λ kind body now a h. h)) m s (anything m)
    refl

from-push : (settings : Settings) (ms : List Made) (m : Made) → AreFrom settings ms → (m.pdu.receiver ≡ settings.peer)
    × (m.pdu.sender ≡ settings.own)
    → AreFrom settings (ms ++ m ∷ [])
from-push settings [] m h k = (k, tt)
from-push settings (x ∷ xs) m h k = (h.0, from-push settings xs m h.1 k)

pub identified_law_holds : IdentifiedLaw
identified_law_holds settings first now ms =
    let P : State → Type 0 = λ s. (s.settings ≡ settings) × AreFrom settings s.made in
    let kept : Kept Anything Anything P =
    kept-lists P (λ s t e f h. (e ∙ h.0, subst (AreFrom settings) (sym f) h.1))
    (λ kind body now s h. (
      h.0,
      from-push settings s.made (next_made s kind body now) h.1
          (ap (λ (c : Settings). c.peer) h.0, ap (λ (c : Settings). c.own) h.0),
    )) in
    let begun : P (new_state settings first now) = opened-cases P settings first now (λ _. (refl, ((refl, refl), tt)))
    (λ _. (refl, tt)) in
    (kept-moved P kept ms (new_state settings first now) begun).1

-- A stranger's PDU changes nothing.
pub strangers_law_holds : StrangersLaw
strangers_law_holds p now s strange = grind arith

-- The states that can follow a state.
decided-goes : (p : Pdu) (now : ℕ) (s : State) (d : Decision) → Fits (kept_of s) p now d
    → GoesOn s.connection (carry_out p now d s).connection
decided-goes p now s Nothing f = inl refl
decided-goes p now s (Drops cause) f = inl refl
decided-goes p now s Accepts f = inr (inr (inl (f.0, refl)))
decided-goes p now s Connects f = inr (inr (inr (inl (f.0, refl))))
decided-goes p now s (Takes to) f = grind arith
decided-goes p now s Asks f = inr (inr (inr (inr (f.connected, refl))))
decided-goes p now s Resumes f = inr (inr (inr (inr (f.connected, refl))))
decided-goes p now s AnswersNext f = inl (reply-connection now (pass p 0 (note_request 0 (tests_passed p s))))
decided-goes p now s AnswersEarly f =
    early-cases (λ t. GoesOn s.connection t.connection) p now s (λ _. inr (inr (inr (inr (f.connected, refl)))))
    (inl (reply-connection now (note_request (distance (kept_of s) p) (confirm_units p s))))
decided-goes p now s _ f = inr (inl refl)

connection-stays : (m : Move) (s : State) → HearsNothing m
    → ((move m s).connection ≡ s.connection) ⊎ ((move m s).connection ≡ Closed)
connection-stays m s quiet = grind arith

stays-goes : (a b : ConnectionState) → (b ≡ a) ⊎ (b ≡ Closed) → GoesOn a b
stays-goes a b h = grind arith

connection-goes : (m : Move) (s : State) → GoesOn s.connection (move m s).connection
connection-goes (Hears p now) s =
    subst (λ (t : State). GoesOn s.connection t.connection) (sym (arrive-is p now s))
    (guard-cases (λ g. GoesOn s.connection (respond p now g).connection) now s (λ reason detail. inr (inl refl))
    (λ _. decided-goes p now s (decide (kept_of s) p now) (decide-fits (kept_of s) p now)))
connection-goes m s = stays-goes s.connection (move m s).connection (connection-stays m s tt)

pub connections_law_holds : ConnectionsLaw
connections_law_holds = (connection-goes, connection-stays)

-- What every move of a machine does, in every state.
goes-down : (a b : ConnectionState) → GoesOn a b → b ≡ Down → a ≡ Down
goes-down a b h down = grind arith

starts-own : (m : Move) (s : State) → s.connection ≡ Down → (move m s).connection ≡ Start → HearsOwn m s
starts-own m s down start = grind arith

-- The PDUs made before stay at the front.
abbrev Grown : List Made → State → Type 0
Grown before t = (more : List Made) × (t.made ≡ before ++ more)

grown : (m : Move) (s : State) → Grown s.made (move m s)
grown m s =
    kept-move Anything Anything (Grown s.made)
    (kept-lists (Grown s.made) (λ a b e f h. (h.0, f ∙ h.1))
    (λ kind body now a h.
    let new = next_made a kind body now ∷ [] in (h.0 ++ new, ap (λ ms. ms ++ new) h.1 ∙ append_assoc s.made h.0 new)))
    m s (anything m) ([], sym (append-nil s.made))

-- A PDU without a new unit.
unsent-make : (us : List (List ℕ)) (kind : Kind) (body : List ℕ) (now : ℕ) (s : State) → first_sent kind body ≡ []
    → units s.made ≡ us
    → units (make kind body now s).made ≡ us
unsent-make us kind body now s none h = grind (arith, units-append, append-nil)

plain-unsent : (kind : Kind) (body : List ℕ) → is_plain kind ≡ true → first_sent kind body ≡ []
plain-unsent kind body is = grind arith

pub kept-unsent : (us : List (List ℕ)) → Kept Anything (λ unit. ⊥) (λ (s : State). units s.made ≡ us)
kept-unsent us =
    record {
      silent = λ s t same h. ap units same.1 ∙ h;
      plain = λ kind body now s is fits h. unsent-make us kind body now s (plain-unsent kind body is) h;
      passes = λ p d s a h. h;
      confirms = λ p s fits h. h;
      accepts = λ now s h. unsent-make us ConnResp (opening_body s.settings.n_sendmax) now s refl h;
      sends = λ unit now s a h. absurd a;
      replies = λ now s h. made-again (λ (s : State). units s.made ≡ us) now
          (λ kind body s none h. unsent-make us kind body now s none h) s h;
    }

unsent : (m : Move) (s : State) → AllowsMove Anything (λ unit. ⊥) m → units (move m s).made ≡ units s.made ++ []
unsent m s a =
    kept-move Anything (λ unit. ⊥) (λ (t : State). units t.made ≡ units s.made) (kept-unsent (units s.made)) m s a refl
    ∙ sym (append-nil (units s.made))

move-sent : (m : Move) (s : State) → units (move m s).made ≡ units s.made ++ sent_by m s
move-sent (Sends unit now) s =
    subst (λ (t : State). units t.made ≡ units s.made ++ (if may_send s then unit ∷ [] else []))
    (sym (send-is unit now s)) (go (may_send s))
  where
    go : (b : Bool) → units (if b then make Data unit now s else s).made ≡ units s.made ++ (if b then unit ∷ [] else [])
    go true = units-append s.made (next_made s Data unit now ∷ [])
    go false = sym (append-nil (units s.made))
move-sent m s = unsent m s tt

handed-one : (d : Decision) (p : Pdu) → (handed_by d p ≡ []) ⊎ (handed_by d p ≡ p.body ∷ [])
handed-one d p = grind arith

one-taken : (m : Move) (s : State) → IsTakenBy m (units_of_move m (kept_of s))
one-taken m s = grind (arith, by_guard-cases, handed-one)

pub moves_law_holds : MovesLaw
moves_law_holds m s =
    let g = grown m s in
    record {
      never_down = goes-down s.connection (move m s).connection (connection-goes m s);
      starts = starts-own m s;
      more_made = g.0;
      made = g.1;
      sent = move-sent m s;
      more_taken = units_of_move m (kept_of s);
      taken = taken-move m s;
      one_taken = one-taken m s;
      closed = closed-move m s;
    }

pub joins-down : (a b : ConnectionState) → is_joining a b ≡ true → (a ≡ Down) × (b ≡ Start)
joins-down a b h = grind arith

-- A connection starts only by a ConnReq.
pub requests_law_holds : RequestsLaw
requests_law_holds h s down e = grind arith

none-by : (p : Pdu) (now : ℕ) (d : Decision) (s : State) → (s.connection ≡ Down) ⊎ (s.connection ≡ Start)
    → Fits (kept_of s) p now d → handed_by d p ≡ []
none-by p now (Takes to) s before f = grind arith
none-by p now _ s before f = refl

-- Before the connection is up, nothing is taken.
pub waits_law_holds : WaitsLaw
waits_law_holds m s before = taken-move m s ∙ ap (λ us. s.taken ++ us) (none-handed m s before) ∙ append-nil s.taken
  where
    none-handed : (m : Move) (s : State) → (s.connection ≡ Down) ⊎ (s.connection ≡ Start)
        → units_of_move m (kept_of s) ≡ []
    none-handed (Hears p now) s before =
        by_guard-cases (λ (us : List (List ℕ)). us ≡ []) now (kept_of s) (λ reason detail. [])
        (handed_by (decide (kept_of s) p now) p) (λ reason detail. refl)
        (λ _. none-by p now (decide (kept_of s) p now) s before (decide-fits (kept_of s) p now))
    none-handed m s before = refl

-- Each PDU that a machine makes has an encoding.

-- A number of 32 bits.
small_number : (first index : ℕ) → sn_of first index < 256 ^ 4
unfolding sn_of
small_number first index = omega arith

-- A PDU that fits its fields has an encoding under every rule.
text-of : (p : Pdu) → HasNumbers p → IsBody p.kind p.body → length p.body ≤ UNIT_MAX → HasText p
text-of p numbers body small rule =
    record { numbers = numbers; body = body; size = omega (arith, length-text p rule); spelled = refl }

-- What the settings say about an end's own fields.
pub record Own (s : Settings) : Type 0 where
  pub own : s.own < 256 ^ 4
  pub peer : s.peer < 256 ^ 4
  pub window : IsBody ConnReq (opening_body s.n_sendmax)

pub own-legal : (s : Settings) → is_legal s ≡ true → Own s
own-legal s e = grind (arith, legal, le-leb)

-- What is known about the PDUs made, and about what the next one confirms.
pub record TextsOf (settings : Settings) (made : List Made) (last_sn last_ts : ℕ) : Type 0 where
  pub own : Own settings
  pub sn : last_sn < 256 ^ 4
  pub ts : last_ts < 256 ^ 4
  pub texts : HaveTexts made

abbrev pub Texts : State → Type 0
Texts s = TextsOf s.settings s.made s.last_sn s.last_ts

texts-push : (ms : List Made) (m : Made) → HaveTexts ms → HasText m.pdu → HaveTexts (ms ++ m ∷ [])
texts-push [] m h k = (k, tt)
texts-push (a ∷ ms) m h k = (h.0, texts-push ms m h.1 k)

pub texts-make : (kind : Kind) (body : List ℕ) (now : ℕ) (s : State) → IsBody kind body → length body ≤ UNIT_MAX
    → Texts s → Texts (make kind body now s)
texts-make kind body now s fits small h =
    let m = next_made s kind body now in
    record {
      own = h.own;
      sn = h.sn;
      ts = h.ts;
      texts =
          texts-push s.made m h.texts
          (text-of m.pdu
          (record {
            receiver = h.own.peer;
            sender = h.own.own;
            sn = small_number s.first (length s.made);
            cs = h.sn;
            ts = omega arith;
            cts = h.ts;
          })
          fits small);
    }

-- The units in PDUs with encodings have the size of units.
abbrev pub AllSized : List (List ℕ) → Type 0
AllSized [] = Unit {0}
AllSized (u ∷ us) = IsBody Data u × AllSized us

sized-push : (us : List (List ℕ)) (u : List ℕ) → AllSized us → IsBody Data u → AllSized (us ++ u ∷ [])
sized-push [] u h k = (k, tt)
sized-push (a ∷ us) u h k = (h.0, sized-push us u h.1 k)

sized-after : (kind : Kind) (body : List ℕ) (run : List (List ℕ)) → IsBody kind body → AllSized run
    → AllSized (after_pdu kind body run)
sized-after kind body run k h = grind (arith, sized-push)

pub sized-run : (run : List (List ℕ)) (ms : List Made) → HaveTexts ms → AllSized run → AllSized (run_after run ms)
sized-run run [] h k = k
sized-run run (m ∷ ms) h k = sized-run (after_pdu m.pdu.kind m.pdu.body run) ms h.1
    (sized-after m.pdu.kind m.pdu.body run (h.0 (record { length = Eight; initial_value = [] })).body k)

pub texts-drop : (n : ℕ) (ms : List Made) → HaveTexts ms → HaveTexts (drop n ms)
texts-drop zero ms h = h
texts-drop (suc n) [] h = tt
texts-drop (suc n) (m ∷ ms) h = texts-drop n ms h.1

unit-small : (u : List ℕ) → IsBody Data u → length u ≤ UNIT_MAX
unit-small u h = leb-true (length u) UNIT_MAX (and_parts (nat_le UNIT_MIN (length u)) (nat_le (length u) UNIT_MAX) h).1

texts-resend : (us : List (List ℕ)) (now : ℕ) (s : State) → AllSized us → Texts s → Texts (resend us now s)
texts-resend [] now s k h = h
texts-resend (u ∷ us) now s k h =
    texts-resend us now (make RetrData u now s) k.1 (texts-make RetrData u now s k.0 (unit-small u k.0) h)

texts-reply : (now : ℕ) (s : State) → Texts s → Texts (reply now s)
texts-reply now s h = grind (arith, sized-run, texts-drop, texts-make, texts-resend)

plain-small : (kind : Kind) (body : List ℕ) → is_plain kind ≡ true → IsBody kind body → length body ≤ UNIT_MAX
plain-small kind body is fits = grind arith

unit-body : (unit : List ℕ) → IsUnitSized unit → IsBody Data unit
unit-body unit sized = grind arith

pub kept-texts : Kept HasNumbers IsUnitSized Texts
kept-texts = grind (arith, texts-make, plain-small, unit-body, texts-reply)

allowed : (m : Move) → IsSoundMove m → AllowsMove HasNumbers IsUnitSized m
allowed m h = grind arith

texts-moved : (ms : List Move) (s : State) → AreSoundMoves ms → Texts s → Texts (make_moves ms s)
texts-moved [] s a h = h
texts-moved (m ∷ ms) s a h =
    texts-moved ms (move m s) a.1 (kept-move HasNumbers IsUnitSized Texts kept-texts m s (allowed m a.0) h)

pub texts-opened : (settings : Settings) (first now : ℕ) → is_legal settings ≡ true
    → Texts (new_state settings first now)
texts-opened settings first now lawful =
    let own = own-legal settings lawful in
    let begun : State = blank settings first now Start in
    let before : Texts begun = record { own = own; sn = omega arith; ts = omega arith; texts = tt } in
    opened-cases Texts settings first now
    (λ _. texts-make ConnReq (opening_body settings.n_sendmax) now begun own.window (omega arith) before)
    (λ _. record { own = own; sn = omega arith; ts = omega arith; texts = tt })

pub texts_law_holds : TextsLaw
texts_law_holds settings first now ms lawful sound =
    (texts-moved ms (new_state settings first now) sound (texts-opened settings first now lawful)).texts
