-- No layer skips input: a datagram reaches the redundancy layer, and each part that goes up reaches the application.
use Rattle.std.specs.Prelude.{◌≡◌, ℕ, false, List, [], ◌∷◌}
use Rattle.std.specs.List.{FoldsTo}
use Rattle.red_layer.specs.Redundancy.{Datagram, after, parts_passed}
use Rattle.pdi_session.specs.SessionStep.{Item}
use Rattle.stack_end.specs.Turns.{Inside, upper_turn, guard_turn, is_over, judge_part}

-- an end that is open, and stays open in the timeout check
pub record StaysOpen (now : ℕ) (v : Inside) : Type 0 where
  pub before : is_over v ≡ false  -- it is not closed
  pub behind : is_over (upper_turn (guard_turn now) v).left ≡ false  -- nor is it after the timeout check

-- if the end is open and stays open, its redundancy layer has processed the datagram
abbrev pub HasProcessed : ℕ → List ℕ → Inside → Inside → Type 0
HasProcessed now octets v w = StaysOpen now v → w.red ≡ after (Datagram octets now) v.red

-- if exactly one part goes up, the taker gets what the session takes of the units that the machine delivers of it
abbrev pub TakesPart : {T : Type 0} → (T → Item → T → Type 0) → ℕ → List ℕ → Inside → T → T → Type 0
TakesPart takes now octets v t u =
    (number : ℕ) (upper : List ℕ) → StaysOpen now v → parts_passed (Datagram octets now) v.red ≡ (number, upper) ∷ []
    → FoldsTo takes t (judge_part now upper (guard_turn now v.upper).left).left.history.taken u
