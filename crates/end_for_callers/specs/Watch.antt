-- T_max is watched, even while there is no room for what a call may deliver or send.
use Rattle.std.specs.Prelude.{◌≡◌, ◌<◌, ℕ, true, List, []}
use Rattle.stack_end.specs.Ends.Call.{Deliver, Tick}
use Rattle.stack_end.specs.Timely.{t_max_of}
use Rattle.stack_end.specs.Turns.{Inside, Turn, is_over, turn}
use Rattle.end_for_callers.specs.Calls.{is_expired}

-- a turn closes the end, and nothing is taken
abbrev pub ClosesTaking : Turn Inside → Type 0
ClosesTaking t = (is_over t.left ≡ true) × (t.taken ≡ [])

-- if T_max has passed, a tick and a datagram close the end, and nothing is taken: so they need no room for telegrams
abbrev pub WatchLaw : Type 0
WatchLaw =
    (channel now : ℕ) (octets : List ℕ) (v : Inside) → 0 < t_max_of v → v.upper.t_max ≡ t_max_of v
    → is_expired now v.upper ≡ true
    → ClosesTaking (turn (Tick now) v) × ClosesTaking (turn (Deliver channel octets now) v)
