-- An end that sends has made the PDU last confirmed, and every move keeps that.
use Rattle.safe_machine.proofs.Words.{◌≡◌, ℕ, ◌-◌, ◌<◌, [], length, true, sym, subst, arith}
use Rattle.safe_machine.proofs.Words.{ltb-true}
use Rattle.safe_machine.proofs.Words.{Heartbeat, Data, Pdu}
use Rattle.safe_machine.proofs.Words.{Reason, Detail, Decision}
use Rattle.safe_machine.proofs.Words.{cs_fits, cs_step, decide, Move, move, Hears, Sends}
use Rattle.safe_machine.proofs.Words.{State, leave}
use Rattle.safe_machine.proofs.Words.{carry_out}
use Rattle.safe_machine.proofs.Words.{MaySend}
use Rattle.safe_machine.proofs.Words.{turn}
use Rattle.safe_machine.proofs.Words.{View, StandsFor, kept_of, false≢true}
use Rattle.safe_machine.proofs.Words.{HasMade}
use Rattle.safe_machine.proofs.one.DecisionCounts.{Fits, decide-fits, confirmed-made, length-make, replied}
use Rattle.safe_machine.proofs.one.Runs.{quiet-cases, arrive-cases, when}
use Rattle.safe_machine.proofs.one.Kept.{Anything, Kept, kept-decided}
use Rattle.safe_machine.proofs.one.TurnSteps.{turns_law_holds}

-- More PDUs are made than confirmed.
abbrev IsAhead : State → Type 0
IsAhead s = s.confirmed < length s.made

ahead-kept : Kept Anything Anything IsAhead
ahead-kept = grind (arith, length-make, confirmed-made, replied)

-- A PDU that confirms finds a PDU to confirm.
was-ahead : (p : Pdu) (s : State) → cs_fits (kept_of s) p ≡ true → IsAhead s
was-ahead p s fits = omega (arith, ltb-true (cs_step (kept_of s) p) (length s.made - s.confirmed) fits)

leave-made : (reason : Reason) (detail : Detail) (now : ℕ) (s : State) → HasMade (kept_of (leave reason detail now s))
leave-made reason detail now s = grind arith

by-fit : (p : Pdu) (now : ℕ) (d : Decision) (s : State) → Fits (kept_of s) p now d → cs_fits (kept_of s) p ≡ true
    → HasMade (kept_of (carry_out p now d s))
by-fit p now d s f fits turn = kept-decided Anything Anything IsAhead ahead-kept p now d s tt f (was-ahead p s fits)

decided-made : (p : Pdu) (now : ℕ) (d : Decision) (s : State) → Fits (kept_of s) p now d → HasMade (kept_of s)
    → HasMade (kept_of (carry_out p now d s))
decided-made p now d s f h = grind (arith, leave-made, by-fit, false≢true)

move-made : (m : Move) (s : State) → HasMade (kept_of s) → HasMade (kept_of (move m s))
move-made (Hears p now) s h =
    arrive-cases (λ t. HasMade (kept_of t)) p now s h (λ reason detail. leave-made reason detail now s)
    (λ _ _ _. decided-made p now (decide (kept_of s) p now) s (decide-fits (kept_of s) p now) h)
move-made m s h =
    quiet-cases (λ t. HasMade (kept_of t)) m s tt h (λ reason detail. leave-made reason detail (when m) s)
    (λ _ _ turn. omega (arith, h turn, length-make Heartbeat [] (when m) s))
    (λ unit _ _ turn. omega (arith, h turn, length-make Data unit (when m) s))

-- The same for what is kept.
pub made_law_holds : (m : Move) (v : View) (s : State) → HasMade v → StandsFor v s → HasMade (turn m v).left
made_law_holds m v s h stands =
    let kept : HasMade (kept_of s) = subst HasMade stands h in
    let may : MaySend m v = may-send m v h in
    subst HasMade (sym (turns_law_holds m v s may stands).stands) (move-made m s kept)
  where
    may-send : (m : Move) (v : View) → HasMade v → MaySend m v
    may-send (Sends unit now) v h = h
    may-send _ v h = tt
