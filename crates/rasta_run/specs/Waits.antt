-- How long a run waits after a turn.
use Rattle.std.specs.Prelude.{◌≡◌, ℕ, ◌+◌, ◌-◌, ◌^◌, ◌≤◌, nat_eq, Bool, true, false, min, Option, Some, None, if◌then◌else◌}
use Rattle.octets.specs.declared.limits.TheConstants.{TIME_MAX}
use Rattle.rasta_words.specs.declared.status.RunLength.{RunLength}
use Rattle.rasta_words.specs.declared.status.RunLength.TheVariants.{Turns, UntilEnd}
use Rattle.safe_machine.specs.Deadlines.{IsBefore, IsReachedAt}
use Rattle.stack_end.specs.Deadlines.{HasFallen, IsQuiet}
use Rattle.stack_end.specs.Turns.{Inside, is_over}

-- in milliseconds. If turns are counted: a heartbeat is due after 10 at least, and the sockets are asked at most 250
-- times a second. If a run lasts until input ends: input ends the wait.
abbrev pub longest_rest : RunLength → ℕ
longest_rest (Turns turns) = 4
longest_rest UntilEnd = 1_000

-- in milliseconds: none after a turn that found something; else until the deadline, and at most the longest
abbrev pub rest_of : RunLength → Bool → ℕ → Option ℕ → Option ℕ
rest_of length true _ _ = None
rest_of length false _ None = Some (longest_rest length)
rest_of length false now (Some deadline) = Some (min (deadline - now) (longest_rest length))

-- one wait of this many milliseconds, or none
abbrev pub TakesRest : {W : Type 0} → (W → ℕ → W → Type 0) → Option ℕ → W → W → Type 0
TakesRest waits None old new = new ≡ old
TakesRest waits (Some milliseconds) old new = waits old milliseconds new

-- when an end tries again after turns in which a reception failed: 10 ms after the last one
abbrev pub again_at : (deaf last : ℕ) → Option ℕ
again_at deaf last = if nat_eq deaf 0 then None else Some (min (last + 10) (2 ^ 64 - 1))

-- the deadline of an end: a tick before it does nothing, and one at or after it does something; a closed end has none
abbrev pub IsDeadlineOf : Inside → Option ℕ → Type 0
IsDeadlineOf v own =
    (is_over v ≡ false → (now : ℕ) → IsBefore now own → IsQuiet now v)
    × ((now : ℕ) → now ≤ TIME_MAX → IsReachedAt now own → HasFallen now v)
    × (is_over v ≡ true → own ≡ None)
