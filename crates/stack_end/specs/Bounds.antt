-- How much an end keeps at most.
use Rattle.std.specs.Prelude.{◌≤◌, length}
use Rattle.octets.specs.declared.limits.TheConstants.{WAITING_MAX, WINDOW_MAX}
use Rattle.stack_end.specs.Turns.{Inside}

-- the bounds of what an end keeps: waiting messages and unconfirmed units
pub record IsBounded (v : Inside) : Type 0 where
  pub waiting : length v.upper.waiting ≤ WAITING_MAX  -- messages that wait to be sent
  -- units unconfirmed, no more than the peer's window allows
  pub unconfirmed : length v.upper.machine.ring ≤ v.upper.machine.window
  pub window : v.upper.machine.window ≤ WINDOW_MAX  -- the peer's window itself, at most 32
