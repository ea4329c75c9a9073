-- When a run until the end of input gives up: T_max after it last got on.
use Rattle.std.specs.Prelude.{ℕ, ◌+◌, ◌-◌, ◌^◌, min, nat_eq, nat_le, nat_lt, Bool, false, not, ◌&&◌, ◌||◌, Option, Some, None, if◌then◌else◌}
use Rattle.rasta_run.specs.declared.progress.ProgressMarks.{ProgressMarks}
use Rattle.rasta_run.specs.declared.progress.Progress.{Progress}
use Rattle.safe_machine.specs.declared.ConnectionState.{ConnectionState}
use Rattle.safe_machine.specs.declared.ConnectionState.TheVariants.{Closed, Down, Start, Up, RetrReq, RetrRun}

-- at the opening of an end nothing is gained
abbrev pub new_progress : ℕ → Progress
new_progress at = record { gained = record { put = 0; confirmed = 0; openings = 0 }; at = at }

-- the same telegrams were put and confirmed, in as many openings
abbrev pub is_same : ProgressMarks → ProgressMarks → Bool
is_same a b = nat_eq a.put b.put && (nat_eq a.confirmed b.confirmed && nat_eq a.openings b.openings)

-- when an end last got on: now, if anything of what it has gained is new; while it waits for its peer the time does not
-- count
abbrev pub progress_after : ProgressMarks → (waits : Bool) → ℕ → Progress → Progress
progress_after gained waits now p =
    if is_same gained p.gained && not waits then p else record { gained = gained; at = now }

-- an end that is kept waits for its peer as long as it has no connection
abbrev pub waits_for_peer : ConnectionState → (kept : Bool) → Bool
waits_for_peer Closed kept = kept
waits_for_peer Down kept = kept
waits_for_peer Start kept = false
waits_for_peer Up kept = false
waits_for_peer RetrReq kept = false
waits_for_peer RetrRun kept = false

-- an end has nothing left to do once input is done: everything of the list is put and confirmed, or its connection is
-- closed; one that is kept opens again while something is left to put
abbrev pub is_finished : ConnectionState → (kept is_empty settled : Bool) → Bool
is_finished Closed kept is_empty settled = not kept || is_empty
is_finished Down kept is_empty settled = settled && is_empty
is_finished Start kept is_empty settled = settled && is_empty
is_finished Up kept is_empty settled = settled && is_empty
is_finished RetrReq kept is_empty settled = settled && is_empty
is_finished RetrRun kept is_empty settled = settled && is_empty

-- when an end gives up
abbrev pub limit_of : (at t_max : ℕ) → ℕ
limit_of at t_max = min (at + t_max) (2 ^ 64 - 1)

-- an end is over: it has finished all of its input, or it gives up
abbrev pub is_over : (input_done finished : Bool) → (limit now : ℕ) → Bool
is_over input_done finished limit now = (input_done && finished) || nat_le limit now

-- when a run gives up once input has ended, unless that time has passed
abbrev pub limit_after : (ended : Option ℕ) → (limit now : ℕ) → Option ℕ
limit_after None limit now = None
limit_after (Some at) limit now = if nat_lt now limit then Some limit else None
