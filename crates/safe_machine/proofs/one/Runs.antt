-- The cases of each move of a history.
use Rattle.safe_machine.proofs.Words.{inl, inr, ◌≡◌, ℕ, ◌<◌, List, [], ◌++◌, length, refl, sym, ap, subst, ◌∙◌}
use Rattle.safe_machine.proofs.Words.{arith, Data}
use Rattle.safe_machine.proofs.Words.{true, false, if◌then◌else◌}
use Rattle.safe_machine.proofs.Words.{false≢true, DiscReq, Heartbeat, Pdu, Closed, Reason, Detail}
use Rattle.safe_machine.proofs.Words.{is_live, is_connected, in_turn, leaving_body, State, make, move_to, leave}
use Rattle.safe_machine.proofs.Words.{unconfirmed, kept_of, guard, heartbeat, send, carry_out, ◌≢◌}
use Rattle.safe_machine.proofs.Words.{respond}
use Rattle.safe_machine.proofs.Words.{by_sender, Nothing, is_closed}
use Rattle.safe_machine.proofs.Words.{Move, move, units_of_move, Guards}
use Rattle.safe_machine.proofs.Words.{Hears, Ticks, Sends, LeavesNow, HearsNothing, is_stranger, arrive}
use Rattle.safe_machine.proofs.Words.{left_by, may_send}
pub use Rattle.safe_machine.proofs.one.Lists.{CountsUp, Every, InTime, Legal, RequestAt, above-append, above-one, after_answer, after_pdu-front}
pub use Rattle.safe_machine.proofs.one.Lists.{ahead-down, ahead-next, ahead-up, answer-ring, answers, at-length, at-next, bool_or, by_guard-cases}
pub use Rattle.safe_machine.proofs.one.Lists.{by_guard-two, carried_at-above, carried_at-append, carried_at-units, closed_or, closed≢down}
pub use Rattle.safe_machine.proofs.one.Lists.{connected-live, connected-up, count, count-append, count-at, count-drop_nil, count-drop_push, count-push}
pub use Rattle.safe_machine.proofs.one.Lists.{data-ring, decided-taken, down_or, down≢closed, early-cases, every-append, every-at, every-drop}
pub use Rattle.safe_machine.proofs.one.Lists.{every-drop_all, every-drop_push, every-from, every-push, every-weaken, first_plain-push, heartbeat-cases}
pub use Rattle.safe_machine.proofs.one.Lists.{is_opening, leaves_units, legal, made-again, made-beside, needs_peer, no_requests, numbered-at}
pub use Rattle.safe_machine.proofs.one.Lists.{numbered-push, octets_of-append, octets_of-length, opening_window, plain-ring, reply-connection}
pub use Rattle.safe_machine.proofs.one.Lists.{reply-taken, requests, resend-confirmed, resend-connection, resend-expected, resend-settings}
pub use Rattle.safe_machine.proofs.one.Lists.{resend-taken, resend-window, ring-confirm, ring-resend, ring-step, ring_of-units, room, run_after-append}
pub use Rattle.safe_machine.proofs.one.Lists.{run_after-front, run_of-resume, split_at, turn-connected, turn-live, unit-cases, units-append}
use Rattle.safe_machine.proofs.one.TurnSteps.{leave-is, guard-is, arrive-is, tick-is, send-is}

-- The moves with a case split: what holds for each case holds for the move.

-- A DiscReq or nothing, and Closed.
pub leave-cases : (P : State → Type 0) (reason : Reason) (detail : Detail) (now : ℕ) (s : State)
    → (is_live s.connection ≡ true → P (move_to Closed (make DiscReq (leaving_body reason detail) now s)))
    → (is_live s.connection ≡ false → P (move_to Closed s)) → P (leave reason detail now s)
leave-cases P reason detail now s says quiet = subst P (sym (leave-is reason detail now s)) (by_live says quiet)
  where
    by_live : (is_live s.connection ≡ true → P (move_to Closed (make DiscReq (leaving_body reason detail) now s)))
        → (is_live s.connection ≡ false → P (move_to Closed s)) → P (left_by reason detail now s)
    by_live says quiet = grind arith

pub guard-cases : (P : State → Type 0) (now : ℕ) (s : State) → ((reason : Reason) (detail : Detail) → P (leave reason detail now s))
    → (InTime now (kept_of s) → P s) → P (guard now s)
guard-cases P now s left on = subst P (sym (guard-is now s)) (by_guard-cases P now (kept_of s) (λ reason detail. leave reason detail now s) s left on)

-- An end that is not live does not change in its timeout check.
pub guard-idle : (now : ℕ) (s : State) → is_live s.connection ≡ false → guard now s ≡ s
guard-idle now s e = guard-is now s ∙ rw e refl

-- A unit sent through an open window, or nothing.
pub send-cases : (P : State → Type 0) (unit : List ℕ) (now : ℕ) (s : State)
    → (in_turn s.connection ≡ true → length (unconfirmed s) < s.window → P (make Data unit now s)) → P s → P (send unit now s)
send-cases P unit now s sends quiet = subst P (sym (send-is unit now s)) (by_room sends quiet)
  where
    by_room : (in_turn s.connection ≡ true → length (unconfirmed s) < s.window → P (make Data unit now s)) → P s
        → P (if may_send s then make Data unit now s else s)
    by_room sends quiet = grind arith

-- When a move happens.
abbrev pub when : Move → ℕ
when (Guards now) = now
when (Hears p now) = now
when (Ticks now) = now
when (Sends unit now) = now
when (LeavesNow reason detail now) = now

-- A move that is not an arrival: nothing, a disconnect, a heartbeat in time, or a unit.
pub quiet-cases : (P : State → Type 0) (m : Move) (s : State) → HearsNothing m → P s →
    ((reason : Reason) (detail : Detail) → P (leave reason detail (when m) s)) →
    (is_connected s.connection ≡ true → InTime (when m) (kept_of s) → P (make Heartbeat [] (when m) s)) →
    ((unit : List ℕ) → in_turn s.connection ≡ true → length (unconfirmed s) < s.window → P (make Data unit (when m) s)) → P (move m s)
quiet-cases P (Guards now) s quiet same left beats sends = guard-cases P now s left (λ _. same)
quiet-cases P (Hears p now) s quiet same left beats sends = absurd quiet
quiet-cases P (Ticks now) s quiet same left beats sends =
    subst P (sym (tick-is now s))
    (guard-cases (λ g. P (heartbeat now g)) now s left (λ in_time. heartbeat-cases P now s (λ on. beats on in_time) same))
quiet-cases P (Sends unit now) s quiet same left beats sends = send-cases P unit now s (sends unit) same
quiet-cases P (LeavesNow reason detail now) s quiet same left beats sends = left reason detail

closed-respond : (p : Pdu) (now : ℕ) (s : State) → s.connection ≡ Closed → respond p now s ≡ s
closed-respond p now s e = ap (λ c. carry_out p now (if is_closed c then Nothing else by_sender (kept_of s) p now) s) e

pub strange-drops : (p : Pdu) (now : ℕ) (s : State) → is_stranger s p ≡ true → respond p now s ≡ s
strange-drops p now s strange = grind arith

-- An arrival: nothing, a disconnect, or in time the decision on a PDU with the end's identifiers.
pub arrive-cases : (P : State → Type 0) (p : Pdu) (now : ℕ) (s : State) → P s → ((reason : Reason) (detail : Detail) → P (leave reason detail now s)) →
    (s.connection ≢ Closed → is_stranger s p ≡ false → InTime now (kept_of s) → P (respond p now s)) → P (arrive p now s)
arrive-cases P p now s same left on =
    subst P (sym (arrive-is p now s))
    (guard-cases (λ g. P (respond p now g)) now s left
    (λ in_time. elim (closed_or s.connection) [
      | inl closed ↦ subst P (sym (closed-respond p now s closed)) same
      | inr opened ↦
          elim (bool_or (is_stranger s p)) [ inl strange ↦ subst P (sym (strange-drops p now s strange)) same | inr meant ↦ on opened meant in_time ]
    ]))

-- A closed end does not change; what each move delivers.

closed-leave : (reason : Reason) (detail : Detail) (now : ℕ) (s : State) → s.connection ≡ Closed → leave reason detail now s ≡ s
closed-leave reason detail now s e =
    leave-cases (λ t. t ≡ s) reason detail now s (λ live. absurd (false≢true (sym (ap is_live e) ∙ live))) (λ _. ap (λ c. move_to c s) (sym e))

pub closed-move : (m : Move) (s : State) → s.connection ≡ Closed → move m s ≡ s
closed-move (Hears p now) s e = arrive-cases (λ t. t ≡ s) p now s refl (λ reason detail. closed-leave reason detail now s e) (λ on _ _. absurd (on e))
closed-move m s e =
    quiet-cases (λ t. t ≡ s) m s tt refl (λ reason detail. closed-leave reason detail (when m) s e)
    (λ connected _. absurd (false≢true (sym (ap is_connected e) ∙ connected))) (λ unit turn _. absurd (false≢true (sym (ap in_turn e) ∙ turn)))

pub taken-move : (m : Move) (s : State) → (move m s).taken ≡ s.taken ++ units_of_move m (kept_of s)
taken-move m s = grind arith
