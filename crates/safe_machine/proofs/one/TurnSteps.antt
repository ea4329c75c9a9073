-- What is kept of a history takes the turn, and the history grows by what the turn made and handed up.
use Rattle.safe_machine.proofs.Words.{◌≡◌, ℕ, ◌+◌, ◌-◌, ◌<◌, List, [], ◌∷◌, ◌++◌, length, Bool, true, false, refl, sym, ap, subst, ◌∙◌, arith, append_assoc}
use Rattle.safe_machine.proofs.Words.{length-append, Result, Ok, Err, if◌then◌else◌, nat_le, ltb-true, and_parts, drop_all, Numbered, octets_of, renumber_units}
use Rattle.safe_machine.proofs.Words.{Kind, ConnResp, RetrReq, RetrResp, DiscReq, Heartbeat, Data, RetrData, Pdu, window_of, safe_seen, SafeFault}
use Rattle.safe_machine.proofs.Words.{ConnectionState, Closed, Start, Up, Requesting, RetrRun, Reason, WrongVersion, Detail, Unspecified, Decision, Nothing}
use Rattle.safe_machine.proofs.Words.{Drops, Shuts, Leaves, Rejects, Accepts, Connects, Takes, Asks, Resumes, AnswersNext, AnswersEarly, in_turn, is_live}
use Rattle.safe_machine.proofs.Words.{beat_due, cs_fits, cs_step, decide, distance, is_carrier_kind, leaving_body, opening_body, Move, move, Guards, Hears, Sends}
use Rattle.safe_machine.proofs.Words.{arrive_octets, move_of, octets_turn, octets_units, carried_at, ring_of, Settings, State, ask, hand_up, leave, make, move_to}
use Rattle.safe_machine.proofs.Words.{next_made, note_request, pass, reply, resend, unconfirmed, answered_ahead, arrive, beat, carry_out, confirm_to}
use Rattle.safe_machine.proofs.Words.{confirm_units, guard, heartbeat, may_send, respond, send, set_window, take_unit, tests_passed, MaySend, OpenedTurn, DeterminesUnits}
use Rattle.safe_machine.proofs.Words.{LeadsByTurn, units_of_move, turn, Turn, answer_ahead_turn, arrival_turn, request_turn, heartbeat_turn, both_confirmed, decision_turn, confirmed_to, count_pdu}
use Rattle.safe_machine.proofs.Words.{goes_on, guard_turn, has_room, is_open, leave_turn, moved_to, move_past, renumber_ring, reply_turn, mark_answered, resend_turn, response_turn, sending_turn}
use Rattle.safe_machine.proofs.Words.{send_turn, send_unit_turn, still, take_unit_turn, units_confirmed, with_window, View, StandsFor, beside, kept_of, append-nil}
use Rattle.safe_machine.proofs.Words.{ConnReq, Down, Ticks, LeavesNow, blank, follow, guarded, handed_by, handed_units, history, left_by, new_state, tick, tick_turn}
use Rattle.safe_machine.proofs.one.DecisionFits.{Fits, decide-fits}
use Rattle.safe_machine.proofs.one.Lists.{octets_of-length, ring_of-units, ring-resend, answer-ring, data-ring, made-beside, plain-ring, ring-step}
use Rattle.safe_machine.proofs.one.Lists.{by_guard-cases, by_guard-two, decided-taken, none-taken}

-- A history's view takes the view's turn, and the history grows by what the turn made and what it handed up.

-- What the turn left is what is kept of the history with these units in the ring, and the history has grown by what was
-- made.
abbrev FollowsAt : List Numbered → Turn → State → State → Type 0
FollowsAt ring t s u = (t.left ≡ beside ring u) × (u.made ≡ s.made ++ t.made)

abbrev Follows : Turn → State → State → Type 0
Follows t s u = FollowsAt (ring_of u) t s u

stays : (s : State) → Follows (still (kept_of s)) s s
stays s = (refl, sym (append-nil s.made))

then-at : (end : List Numbered) (ring : List Numbered) (t : Turn) (next : View → Turn) (s u w : State)
    → FollowsAt ring t s u
    → FollowsAt end (next (beside ring u)) u w → FollowsAt end (goes_on t next) s w
then-at end ring t next s u w h k = grind (arith, append_assoc)

choose : (b : Bool) (t r : Turn) (s u w : State) → (b ≡ true → Follows t s u) → (b ≡ false → Follows r s w)
    → Follows (if b then t else r) s (if b then u else w)
choose b t r s u w h k = grind arith

moved : (connection : ConnectionState) (t : Turn) (s u : State) → Follows t s u
    → Follows (moved_to connection t) s (move_to connection u)
moved connection t s u h = (ap (λ (v : View). record v { connection = connection }) h.0, h.1)

-- A PDU is made with any units in the ring, or with the history's own if it does not change them.
said-at : (ring : List Numbered) (kind : Kind) (body : List ℕ) (now : ℕ) (s : State)
    → FollowsAt ring (sending_turn kind body now (beside ring s)) s
    (make kind body now s)
said-at ring kind body now s = (made-beside ring kind body now s, refl)

said : (kind : Kind) (body : List ℕ) (now : ℕ) (s : State) → ring_of (make kind body now s) ≡ ring_of s
    → Follows (sending_turn kind body now (kept_of s)) s (make kind body now s)
said kind body now s same =
    (made-beside (ring_of s) kind body now s ∙ ap (λ r. beside r (make kind body now s)) (sym same), refl)

left-follows : (reason : Reason) (detail : Detail) (now : ℕ) (s : State)
    → Follows (leave_turn reason detail now (kept_of s)) s (left_by reason detail now s)
left-follows reason detail now s =
    let body = leaving_body reason detail in
    moved Closed (if is_live s.connection then sending_turn DiscReq body now (kept_of s) else still (kept_of s)) s
    (if is_live s.connection then make DiscReq body now s else s)
    (choose (is_live s.connection) (sending_turn DiscReq body now (kept_of s)) (still (kept_of s)) s
    (make DiscReq body now s) s
    (λ _. said DiscReq body now s (plain-ring DiscReq body now s refl)) (λ _. stays s))

-- A history that follows a turn is what the changes lead to.
follow-is : (ring : List Numbered) (t : Turn) (units : List (List ℕ)) (s u : State) → FollowsAt ring t s u
    → u.taken ≡ s.taken ++ units → follow t units s ≡ u
follow-is ring t units s u h taken =
    ap (λ v. history v (s.made ++ t.made) (s.taken ++ units)) h.0
    ∙ (ap (λ ms. history (beside ring u) ms (s.taken ++ units)) (sym h.1)
    ∙ ap (history (beside ring u) u.made) (sym taken))

left-taken : (reason : Reason) (detail : Detail) (now : ℕ) (s : State)
    → (left_by reason detail now s).taken ≡ s.taken ++ []
left-taken reason detail now s = grind (arith, none-taken)

pub leave-is : (reason : Reason) (detail : Detail) (now : ℕ) (s : State)
    → leave reason detail now s ≡ left_by reason detail now s
leave-is reason detail now s =
    let u = left_by reason detail now s in
    follow-is (ring_of u) (leave_turn reason detail now (kept_of s)) [] s u (left-follows reason detail now s)
    (left-taken reason detail now s)

leaves-follows : (reason : Reason) (detail : Detail) (now : ℕ) (s : State)
    → Follows (leave_turn reason detail now (kept_of s)) s (leave reason detail now s)
leaves-follows reason detail now s = subst (Follows (leave_turn reason detail now (kept_of s)) s)
    (sym (leave-is reason detail now s)) (left-follows reason detail now s)

guarded-follows : (now : ℕ) (s : State) → Follows (guard_turn now (kept_of s)) s (guarded now s)
guarded-follows now s =
    by_guard-two (λ t u. Follows t s u) now (kept_of s) (λ reason detail. leave_turn reason detail now (kept_of s))
    (still (kept_of s))
    (λ reason detail. leave reason detail now s) s
    (λ reason detail. leaves-follows reason detail now s) (stays s)

pub guard-is : (now : ℕ) (s : State) → guard now s ≡ guarded now s
guard-is now s =
    let u = guarded now s in
    follow-is (ring_of u) (guard_turn now (kept_of s)) [] s u (guarded-follows now s)
    (by_guard-cases (λ (t : State). t.taken ≡ s.taken ++ []) now (kept_of s)
    (λ reason detail. leave reason detail now s) s (λ reason detail. refl)
    (λ _. none-taken s))

guards-follows : (now : ℕ) (s : State) → Follows (guard_turn now (kept_of s)) s (guard now s)
guards-follows now s = subst (Follows (guard_turn now (kept_of s)) s) (sym (guard-is now s)) (guarded-follows now s)

-- What was confirmed.
within : (p : Pdu) (s : State) → cs_fits (kept_of s) p ≡ true → cs_step (kept_of s) p < length s.made - s.confirmed
within p s e = ltb-true (cs_step (kept_of s) p) (length s.made - s.confirmed) e

units-kept : (p : Pdu) (s : State) → cs_fits (kept_of s) p ≡ true
    → units_confirmed p (kept_of s) ≡ kept_of (confirm_units p s)
units-kept p s e = ap (λ r. beside r (confirm_units p s)) (ring-step p s (within p s e))

both-kept : (p : Pdu) (s : State) → cs_fits (kept_of s) p ≡ true
    → both_confirmed p (kept_of s) ≡ kept_of (tests_passed p s)
both-kept p s e = ap (λ r. beside r (tests_passed p s)) (ring-step p s (within p s e))

-- A unit is delivered.
unit-follows : (p : Pdu) (now : ℕ) (s : State) → Follows (take_unit_turn p now (kept_of s)) s (take_unit p now s)
unit-follows p now s =
    let u = hand_up p s in
    choose (is_carrier_kind p.kind) (if nat_le s.settings.mwa u.since then sending_turn Heartbeat [] now (kept_of u)
    else still (kept_of u)) (still (kept_of s)) s (beat now u)
    s
    (λ _. choose (nat_le s.settings.mwa u.since) (sending_turn Heartbeat [] now (kept_of u)) (still (kept_of u)) s
    (make Heartbeat [] now u) u
    (λ _. said Heartbeat [] now u (plain-ring Heartbeat [] now u refl)) (λ _. stays u))
    (λ _. stays s)

asks-follows : (now : ℕ) (s : State) → Follows (request_turn now (kept_of s)) s (ask now s)
asks-follows now s = moved Requesting (sending_turn RetrReq [] now (kept_of s)) s (make RetrReq [] now s)
    (said RetrReq [] now s (plain-ring RetrReq [] now s refl))

-- Units are sent again.
resends-at : (ring : List Numbered) (units : List (List ℕ)) (now : ℕ) (s : State)
    → FollowsAt ring (resend_turn units now (beside ring s)) s (resend units now s)
resends-at ring [] now s = (refl, sym (append-nil s.made))
resends-at ring (unit ∷ units) now s =
    let u = make RetrData unit now s in
    then-at ring ring (sending_turn RetrData unit now (beside ring s)) (resend_turn units now) s u (resend units now u)
    (said-at ring RetrData unit now s)
    (resends-at ring units now u)

replies-follows : (now : ℕ) (s : State) → s.confirmed < length s.made
    → Follows (reply_turn now (kept_of s)) s (reply now s)
replies-follows now s inside =
    let ring = ring_of s in
    let units = octets_of ring in
    let a = make RetrResp [] now s in
    let b = resend units now a in
    let c = make Heartbeat [] now b in
    let first = length s.made + 1 in
    let long : length a.made ≡ first = length-append s.made (next_made s RetrResp [] now ∷ []) in
    let rung : ring_of b ≡ renumber_units first units =
    ring-resend units now a (omega (arith, long))
    ∙ (ap (λ cs. cs ++ renumber_units (length a.made) units) (answer-ring now s inside)
    ∙ ap (λ n. renumber_units n units) long) in
    let last : View → Turn = λ u. sending_turn Heartbeat [] now (renumber_ring first u) in
    let beaten : Follows (sending_turn Heartbeat [] now (kept_of b)) b c = said Heartbeat [] now b
    (plain-ring Heartbeat [] now b refl) in
    let behind : Follows (last (beside ring b)) b c = subst
    (λ r. Follows (sending_turn Heartbeat [] now (beside r b)) b c) rung beaten in
    let again : View → Turn = λ w. goes_on (resend_turn (octets_of w.ring) now w)
    (λ u. sending_turn Heartbeat [] now (renumber_ring w.made u)) in
    let from : Follows (again (count_pdu now (kept_of s))) a c =
    let at = subst (λ v. FollowsAt ring (resend_turn units now v) a b) (sym (said-at ring RetrResp [] now s).0)
    (resends-at ring units now a) in
    then-at (ring_of c) ring (resend_turn units now (count_pdu now (kept_of s))) last a b c at behind in
    let is : units ≡ unconfirmed s = ring_of-units s in
    subst (λ us. Follows (reply_turn now (kept_of s)) s (make Heartbeat [] now (resend us now a))) is
    (from.0, from.1 ∙ append_assoc s.made (next_made s RetrResp [] now ∷ []) (again (count_pdu now (kept_of s))).made)

-- The decision is carried out.
ahead-follows : (p : Pdu) (now : ℕ) (s : State) → cs_fits (kept_of s) p ≡ true
    → Follows (answer_ahead_turn p now (kept_of s)) s (answered_ahead p now s)
ahead-follows p now s fits =
    let d = distance (kept_of s) p in
    let y = note_request d (confirm_units p s) in
    let h = replies-follows now y (omega (arith, within p s fits)) in
    subst (λ v. Follows (reply_turn now (mark_answered d v)) s (reply now y)) (sym (units-kept p s fits)) h

accepts-follows : (p : Pdu) (now : ℕ) (s : State)
    → Follows (decision_turn p now Accepts (kept_of s)) s (carry_out p now Accepts s)
accepts-follows p now s =
    let body = opening_body s.settings.n_sendmax in
    let u = set_window (window_of p.body) (pass p 0 s) in
    let t = make ConnResp body now u in
    let z = confirm_to (length s.made) now t in
    let grown : length t.made ≡ length s.made + 1 = length-append s.made (next_made u ConnResp body now ∷ []) in
    let none : ring_of z ≡ [] = ap (carried_at (length s.made + 1) [])
    (drop_all (length s.made + 1) t.made (omega (arith, grown))) in
    let change : View → View = λ v. record v { confirmed = length s.made; confirmed_at = now; ring = [] } in
    let kept : change (count_pdu now (kept_of u)) ≡ kept_of z = ap change (made-beside (ring_of u) ConnResp body now u)
    ∙ ap (λ r. beside r z) (sym none) in
    moved Start (confirmed_to (length s.made) now (sending_turn ConnResp body now (kept_of u))) s z (kept, refl)

decision-follows : (p : Pdu) (now : ℕ) (d : Decision) (s : State) → Fits (kept_of s) p now d
    → Follows (decision_turn p now d (kept_of s)) s (carry_out p now d s)
decision-follows p now Nothing s f = stays s
decision-follows p now (Drops cause) s f = stays s
decision-follows p now Shuts s f = moved Closed (still (kept_of s)) s s (stays s)
decision-follows p now (Leaves reason detail) s f = leaves-follows reason detail now s
decision-follows p now Rejects s f =
    let body = leaving_body WrongVersion Unspecified in
    let y = pass p 0 s in
    moved Closed (sending_turn DiscReq body now (kept_of y)) s (make DiscReq body now y)
    (said DiscReq body now y (plain-ring DiscReq body now y refl))
decision-follows p now Accepts s f = accepts-follows p now s
decision-follows p now Connects s f =
    let y = set_window (window_of p.body) (pass p 0 (tests_passed p s)) in
    let h = moved Up (sending_turn Heartbeat [] now (kept_of y)) s (make Heartbeat [] now y)
    (said Heartbeat [] now y (plain-ring Heartbeat [] now y refl)) in
    subst (λ v. Follows (moved_to Up (sending_turn Heartbeat [] now (with_window (window_of p.body) (move_past p 0 v))))
    s (carry_out p now Connects s))
    (sym (both-kept p s f.3.cs)) h
decision-follows p now (Takes to) s f =
    let h = unit-follows p now (move_to to (pass p 0 (tests_passed p s))) in
    subst (λ v. Follows (take_unit_turn p now (record (move_past p 0 v) { connection = to })) s
    (carry_out p now (Takes to) s)) (sym (both-kept p s f.passed.cs)) h
decision-follows p now Asks s f = asks-follows now s
decision-follows p now Resumes s f =
    let d = distance (kept_of s) p in
    let h = stays (carry_out p now Resumes s) in
    subst (λ v. Follows (still (record (move_past p d v) { connection = RetrRun })) s (carry_out p now Resumes s))
    (sym (both-kept p s f.passed.cs)) h
decision-follows p now AnswersNext s f =
    let y = pass p 0 (note_request 0 (tests_passed p s)) in
    let h = replies-follows now y (omega (arith, within p s f.0.cs)) in
    subst (λ v. Follows (reply_turn now (move_past p 0 (mark_answered 0 v))) s (reply now y))
    (sym (both-kept p s f.0.cs)) h
decision-follows p now AnswersEarly s f =
    let u = answered_ahead p now s in
    let t = answer_ahead_turn p now (kept_of s) in
    let h = ahead-follows p now s f.cs in
    choose (in_turn s.connection) (goes_on t (request_turn now)) t s (ask now u) u
    (λ _. then-at (ring_of (ask now u)) (ring_of u) t (request_turn now) s u (ask now u) h (asks-follows now u))
    (λ _. h)

responds-follows : (p : Pdu) (now : ℕ) (s : State) → Follows (response_turn p now (kept_of s)) s (respond p now s)
responds-follows p now s = decision-follows p now (decide (kept_of s) p now) s (decide-fits (kept_of s) p now)

beats-follows : (now : ℕ) (s : State) → Follows (heartbeat_turn now (kept_of s)) s (heartbeat now s)
beats-follows now s =
    choose (beat_due now (kept_of s)) (sending_turn Heartbeat [] now (kept_of s)) (still (kept_of s)) s
    (make Heartbeat [] now s) s
    (λ _. said Heartbeat [] now s (plain-ring Heartbeat [] now s refl)) (λ _. stays s)

-- How many units are unconfirmed, and whether one may be sent.
count-kept : (s : State) → length (ring_of s) ≡ length (unconfirmed s)
count-kept s = sym (octets_of-length (ring_of s)) ∙ ap length (ring_of-units s)

room-kept : (s : State) → has_room (kept_of s) ≡ may_send s
room-kept s = ap (λ (n : ℕ). is_open s.connection n s.window) (count-kept s)

pub tells_law_holds : (v : View) (s : State) → StandsFor v s → DeterminesUnits v s
tells_law_holds v s h =
    subst (λ w. DeterminesUnits w s) (sym h) (record { awaiting = count-kept s; room = room-kept s })

-- A send, with the ring that it leaves.
sent-follows : (unit : List ℕ) (now : ℕ) (s : State) (b : Bool) → (ring : List Numbered)
    × FollowsAt ring (if b then send_unit_turn unit now (kept_of s) else still (kept_of s)) s
    (if b then make Data unit now s else s)
sent-follows unit now s true =
    let keep : View → View = λ v. record v { ring = ring_of s ++ record { number = length s.made; octets = unit } ∷ [] }
    in (
      ring_of s ++ record { number = length s.made; octets = unit } ∷ [],
      (ap keep (made-beside (ring_of s) Data unit now s), refl),
    )
sent-follows unit now s false = (ring_of s, stays s)

sent-taken : (unit : List ℕ) (now : ℕ) (s : State) (b : Bool)
    → (if b then make Data unit now s else s).taken ≡ s.taken ++ []
sent-taken unit now s b = grind (arith, none-taken)

pub send-is : (unit : List ℕ) (now : ℕ) (s : State) → send unit now s ≡ (if may_send s then make Data unit now s else s)
send-is unit now s =
    let h = sent-follows unit now s (may_send s) in
    subst (λ (b : Bool). follow (if b then send_unit_turn unit now (kept_of s) else still (kept_of s)) [] s
    ≡ (if may_send s then make Data unit now s else s))
    (sym (room-kept s))
    (follow-is h.0 (if may_send s then send_unit_turn unit now (kept_of s) else still (kept_of s)) [] s
    (if may_send s then make Data unit now s else s) h.1
    (sent-taken unit now s (may_send s)))

sends-follows : (unit : List ℕ) (now : ℕ) (s : State) → (in_turn s.connection ≡ true → s.confirmed < length s.made)
    → Follows (send_turn unit now (kept_of s)) s (send unit now s)
sends-follows unit now s made =
    let u = make Data unit now s in
    let keep : View → View = λ v. record v { ring = ring_of s ++ record { number = length s.made; octets = unit } ∷ [] }
    in
    let kept : may_send s ≡ true → Follows (send_unit_turn unit now (kept_of s)) s u =
    λ open_now.
    let turn = (and_parts (in_turn s.connection) _ open_now).0 in (
      ap keep (made-beside (ring_of s) Data unit now s)
          ∙ ap (λ r. beside r u) (sym (data-ring unit now s (made turn))),
      refl,
    ) in
    subst (Follows (send_turn unit now (kept_of s)) s) (sym (send-is unit now s))
    (subst (λ (b : Bool). Follows (if b then send_unit_turn unit now (kept_of s) else still (kept_of s)) s
    (if may_send s then u else s)) (sym (room-kept s))
    (choose (may_send s) (send_unit_turn unit now (kept_of s)) (still (kept_of s)) s u s kept (λ _. stays s)))

-- An arrival.
responded-follows : (p : Pdu) (now : ℕ) (s : State)
    → Follows (arrival_turn p now (kept_of s)) s (respond p now (guard now s))
responded-follows p now s =
    let g = guard now s in
    let u = respond p now g in
    then-at (ring_of u) (ring_of g) (guard_turn now (kept_of s)) (response_turn p now) s g u (guards-follows now s)
    (responds-follows p now g)

responded-taken : (p : Pdu) (now : ℕ) (s : State)
    → (respond p now (guarded now s)).taken ≡ s.taken ++ handed_units p now (kept_of s)
responded-taken p now s =
    by_guard-two (λ (g : State) us. (respond p now g).taken ≡ s.taken ++ us) now (kept_of s)
    (λ reason detail. leave reason detail now s) s
    (λ reason detail. []) (handed_by (decide (kept_of s) p now) p) (λ reason detail. refl)
    (decided-taken p now (decide (kept_of s) p now) s)

pub arrive-is : (p : Pdu) (now : ℕ) (s : State) → arrive p now s ≡ respond p now (guard now s)
arrive-is p now s =
    let u = respond p now (guard now s) in
    follow-is (ring_of u) (arrival_turn p now (kept_of s)) (handed_units p now (kept_of s)) s u
    (responded-follows p now s)
    (subst (λ (g : State). (respond p now g).taken ≡ s.taken ++ handed_units p now (kept_of s)) (sym (guard-is now s))
    (responded-taken p now s))

-- Time passes.
beaten-follows : (now : ℕ) (s : State) → Follows (tick_turn now (kept_of s)) s (heartbeat now (guard now s))
beaten-follows now s =
    let g = guard now s in
    let u = heartbeat now g in
    then-at (ring_of u) (ring_of g) (guard_turn now (kept_of s)) (heartbeat_turn now) s g u (guards-follows now s)
    (beats-follows now g)

beat-taken : (now : ℕ) (s : State) → (heartbeat now s).taken ≡ s.taken
beat-taken now s = grind arith

pub tick-is : (now : ℕ) (s : State) → tick now s ≡ heartbeat now (guard now s)
tick-is now s =
    let u = heartbeat now (guard now s) in
    follow-is (ring_of u) (tick_turn now (kept_of s)) [] s u (beaten-follows now s) (beat-taken now (guard now s))

follows : (m : Move) (s : State) → MaySend m (kept_of s) → Follows (turn m (kept_of s)) s (move m s)
follows (Guards now) s may = guards-follows now s
follows (Hears p now) s may =
    subst (Follows (arrival_turn p now (kept_of s)) s) (sym (arrive-is p now s)) (responded-follows p now s)
follows (Ticks now) s may = subst (Follows (tick_turn now (kept_of s)) s) (sym (tick-is now s)) (beaten-follows now s)
follows (Sends unit now) s may = sends-follows unit now s may
follows (LeavesNow reason detail now) s may = leaves-follows reason detail now s

turned-of : (m : Move) (s : State) → MaySend m (kept_of s)
    → LeadsByTurn (turn m (kept_of s)) (units_of_move m (kept_of s)) s (move m s)
turned-of m s may = let h = follows m s may in record { stands = h.0; made = h.1; taken = taken-move m s }
  where
    taken-move : (m : Move) (s : State) → (move m s).taken ≡ s.taken ++ units_of_move m (kept_of s)
    taken-move m s = grind arith

pub turns_law_holds : (m : Move) (v : View) (s : State) → MaySend m v → StandsFor v s
    → LeadsByTurn (turn m v) (units_of_move m v) s (move m s)
turns_law_holds m v s may h = subst (λ w. LeadsByTurn (turn m w) (units_of_move m w) s (move m s)) (sym h)
    (turned-of m s (subst (MaySend m) h may))

-- The arrival of bytes is not a send.
heard-turns : (read : Result Pdu SafeFault) (now : ℕ) (v : View) (s : State) → StandsFor v s
    → LeadsByTurn (turn (move_of read now) v) (units_of_move (move_of read now) v) s
    (move (move_of read now) s)
heard-turns (Ok p) now v s h = turns_law_holds (Hears p now) v s tt h
heard-turns (Err fault) now v s h = turns_law_holds (Guards now) v s tt h

pub octets_law_holds : (octets : List ℕ) (now : ℕ) (v : View) (s : State) → StandsFor v s
    → LeadsByTurn (octets_turn octets now v) (octets_units octets now v) s
    (arrive_octets octets now s)
octets_law_holds octets now v s h =
    subst (λ (w : View). LeadsByTurn (octets_turn octets now v) (octets_units octets now v) s
    (move (move_of (safe_seen w.settings.rule octets) now) s)) h
    (heard-turns (safe_seen v.settings.rule octets) now v s h)

pub opening_law_holds : (settings : Settings) (first now : ℕ) → OpenedTurn settings first now
opening_law_holds settings first now = grind arith

-- An opening.
pub opened-cases : (P : State → Type 0) (settings : Settings) (first now : ℕ)
    → (settings.client ≡ true → P (make ConnReq (opening_body settings.n_sendmax) now (blank settings first now Start)))
    → (settings.client ≡ false → P (blank settings first now Down)) → P (new_state settings first now)
opened-cases P settings first now request_turn waits = grind arith
