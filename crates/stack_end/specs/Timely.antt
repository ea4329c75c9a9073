-- What is taken is timely, by what a caller can read: after a call that took something, the own time last confirmed is
-- less than T_max old.
use Rattle.std.specs.Prelude.{◌≡◌, ◌⊎◌, ◌<◌, ◌-◌, ℕ, List, [], Option, Some, None, if◌then◌else◌}
use Rattle.safe_machine.specs.Connections.{is_live}
use Rattle.stack_end.specs.Turns.{Fields, Inside, Turn, arrival_turn, time_turn, waiting_time}

-- the margin to T_max: how long it is until it ends the connection, or None without one
abbrev pub margin_of : (now : ℕ) → Fields → Option ℕ
margin_of now v = if is_live v.machine.connection then Some (v.t_max - waiting_time now v) else None

-- T_max of an end that keeps this
abbrev pub t_max_of : Inside → ℕ
t_max_of v = v.upper.machine.settings.t_max

-- the own time last confirmed is less than T_max old
abbrev pub IsTimely : ℕ → Inside → Type 0
IsTimely now v = now - v.upper.machine.confirmed_at < t_max_of v

-- a turn at this time
pub record TurnTimely (now : ℕ) (v : Inside) (t : Turn Inside) : Type 0 where
  -- if anything is taken, the time last confirmed is less than T_max old afterwards
  pub taken : (t.taken ≡ []) ⊎ IsTimely now t.left
  pub stays : IsTimely now v → IsTimely now t.left  -- if it was before, it still is
  pub limit : t_max_of t.left ≡ t_max_of v  -- T_max stays

-- every datagram and every tick, whatever an end with a positive T_max keeps
abbrev pub TimelyLaw : Type 0
TimelyLaw =
    (now : ℕ) (octets : List ℕ) (v : Inside) → 0 < t_max_of v → TurnTimely now v (arrival_turn now octets v)
    × TurnTimely now v (time_turn now v)
