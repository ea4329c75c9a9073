-- The clock of a run: whole milliseconds since it began, which never decrease.
use Rattle.std.specs.Prelude.{ℕ, ◌-◌, ◌/◌, ◌^◌, max}
use Rattle.octets.specs.declared.limits.TheConstants.{TIME_MAX}

-- the milliseconds between two readings of the system's clock in nanoseconds
abbrev pub millis_between : ℕ → ℕ → ℕ
millis_between began seen = (seen - began) / 1_000_000

-- the time at a reading; one below the last counts as the last
abbrev pub time_at : ℕ → ℕ → ℕ → ℕ
time_at began last seen = max (millis_between began seen) last
