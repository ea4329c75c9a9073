-- When an end that is kept is opened again.
use Rattle.std.specs.Prelude.{ℕ, ◌+◌, ◌-◌, ◌/◌, ◌^◌, min, max, nat_eq, nat_le, nat_lt, ◌&&◌, ◌||◌, Bool, true, false, Option, Some, None, if◌then◌else◌}
use Rattle.end_settings.specs.declared.Side.{Side}
use Rattle.end_settings.specs.declared.Side.TheVariants.{Interlocking, FieldElement}
use Rattle.rasta_run.specs.declared.keeper.Keeper.{Keeper}

-- since when an end is stale
abbrev pub stale_since : Option ℕ → (stale : Bool) → ℕ → Option ℕ
stale_since (Some at) true now = Some at
stale_since None true now = Some now
stale_since before false now = None

-- a session lasts: it is established three T_max after the opening
abbrev pub is_lasting : (up : Bool) → ℕ → Keeper → Bool
is_lasting up now k = up && nat_le k.config.t_max ((now - k.opened) / 3)

-- the openings in a row without a session that lasts, when an end is seen: such a session ends the row
abbrev pub row_of : (lasts : Bool) → ℕ → ℕ
row_of true fruitless = 0
row_of false fruitless = fruitless

-- the keeper of an end that is seen
abbrev pub see_end : (stale up : Bool) → ℕ → Keeper → Keeper
see_end stale up now k =
    record k {
      left = stale_since k.left stale now;
      had_session = k.had_session || up;
      has_lasted = k.has_lasted || is_lasting up now k;
      fruitless = row_of (is_lasting up now k) k.fruitless;
    }

-- the pause of an interlocking, in milliseconds: T_max/4, doubled after each opening in a row without a session that lasts,
-- up to T_max
abbrev pub pause_of : (fruitless t_max : ℕ) → ℕ
pause_of fruitless t_max = if nat_eq fruitless 0 then t_max / 4 else if nat_eq fruitless 1 then t_max / 2 else t_max

-- the least time between a departure of an interlocking and its next opening: the pause, after a session
abbrev pub least_after : (had_session : Bool) → (pause t_max : ℕ) → ℕ
least_after true pause t_max = pause
least_after false pause t_max = t_max / 4

-- how long it is until an end that is stale since `left` is opened again, in milliseconds. A field element is opened at
-- least T_max/8 after its last opening. An interlocking waits T_max/4 after it disconnected, or longer after a session: by
-- then its last PDUs have arrived at the field element, so that its request finds that one newly opened. Its openings are
-- also apart by the pause.
abbrev pub rest_of : Side → Keeper → (left now : ℕ) → ℕ
rest_of Interlocking k left now =
    let pause = pause_of k.fruitless k.config.t_max in
    max (least_after k.had_session pause k.config.t_max - (now - left)) (pause - (now - k.opened))
rest_of FieldElement k left now = k.config.t_max / 8 - (now - k.opened)

-- the same since a time, if there is one
abbrev pub rest_since : Option ℕ → Side → Keeper → ℕ → Option ℕ
rest_since None side k now = None
rest_since (Some left) side k now = Some (rest_of side k left now)

-- how long it is until the end is opened again; none if it may still connect
abbrev pub wait_until_reopening : Side → Keeper → ℕ → Option ℕ
wait_until_reopening side k now = rest_since k.left side k now

-- nothing of a wait is left
abbrev pub is_wait_over : Option ℕ → Bool
is_wait_over None = false
is_wait_over (Some rest) = nat_eq rest 0

-- an end is opened again: it is kept, it is stale, and its wait is over
abbrev pub is_reopening_due : (kept : Bool) → Side → (stale up : Bool) → Keeper → ℕ → Bool
is_reopening_due kept side stale up k now =
    kept && is_wait_over (wait_until_reopening side (see_end stale up now k) now)

-- the keeper after a look at an end, which is kept or not
abbrev pub look_at_end : (kept stale up : Bool) → ℕ → Keeper → Keeper
look_at_end true stale up now k = see_end stale up now k
look_at_end false stale up now k = k

-- when a wait is over
abbrev pub end_of_wait : Option ℕ → ℕ → Option ℕ
end_of_wait None now = None
end_of_wait (Some rest) now = Some (min (now + rest) (2 ^ 64 - 1))

-- when an end is to be opened again, after a look at it
abbrev pub reopening_time_after : (kept : Bool) → Side → Option ℕ → Keeper → ℕ → Option ℕ
reopening_time_after true side before k now = end_of_wait (wait_until_reopening side k now) now
reopening_time_after false side before k now = before

-- the openings in a row without a session that lasted, after one more
abbrev pub row_after : (has_lasted : Bool) → ℕ → ℕ
row_after true fruitless = 0
row_after false fruitless = min (fruitless + 1) (2 ^ 64 - 1)

-- the keeper of an end that is opened again
abbrev pub reopen_keeper : ℕ → Keeper → Keeper
reopen_keeper now k =
    record k {
      opened = now;
      left = None;
      had_session = false;
      has_lasted = false;
      fruitless = row_after k.has_lasted k.fruitless;
    }

-- from this number of openings in a row without a session that lasted, the log only counts them
abbrev pub row_most : ℕ
row_most = 2

-- the log only counts openings
abbrev pub is_counted : Keeper → Bool
is_counted k = nat_le row_most k.fruitless

-- the time between two counts in the log, in milliseconds
abbrev pub count_wait : ℕ
count_wait = 60_000

-- the count of openings is logged now: it has begun, or the last one was a minute ago
abbrev pub is_count_due : Keeper → ℕ → Bool
is_count_due k now =
    nat_eq k.fruitless row_most || (nat_lt row_most k.fruitless && nat_le count_wait (now - k.counted_at))

-- the keeper after the log may have had a count
abbrev pub keeper_after_count : (due : Bool) → ℕ → Keeper → Keeper
keeper_after_count true now k = record k { counted_at = now }
keeper_after_count false now k = k

-- the count that is logged, if one is
abbrev pub count_by : (due : Bool) → ℕ → Option ℕ
count_by true fruitless = Some fruitless
count_by false fruitless = None

-- the keeper of an end that was seen and then opened again
abbrev pub keeper_after_reopening : (stale up : Bool) → ℕ → Keeper → Keeper
keeper_after_reopening stale up now k =
    let r = reopen_keeper now (see_end stale up now k) in
    keeper_after_count (is_count_due r now) now r
