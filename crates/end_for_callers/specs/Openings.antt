-- When an end is opened again, and what is kept over its openings.
use Rattle.std.specs.Prelude.{ℕ, ◌+◌, ◌-◌, ◌/◌, ◌%◌, ◌^◌, ◌==◌, Bool, true, false, min, max, nat_le, Option, Some, None, if◌then◌else◌}
use Rattle.end_settings.specs.declared.Side.{Side}
use Rattle.end_settings.specs.declared.Side.TheVariants.{Interlocking, FieldElement}
use Rattle.stack_end.specs.declared.departure.Departure.{Departure}
use Rattle.stack_end.specs.declared.statistics.Statistics.{Statistics}
use Rattle.end_for_callers.specs.Totals.{none, plus}
use Rattle.end_for_callers.specs.declared.openings.Openings.{Openings}

-- the least time between two openings of an interlocking, in milliseconds: T_max/4, doubled after each opening in a row
-- that did not last, up to T_max
abbrev pub pause_of : (short t_max : ℕ) → ℕ
pause_of short t_max = if short == 0 then t_max / 4 else if short == 1 then t_max / 2 else t_max

-- how long it is until an end that was closed at a time is opened again, in milliseconds. An interlocking waits T_max/4
-- after it was closed: by then its last PDUs have arrived at the field element, so that its request finds that one newly
-- opened. Its openings are also apart by the pause. A field element is opened T_max/8 after its last opening, and never
-- later, so that it is ready for the next request
abbrev pub wait_on : Side → Openings → (closed now : ℕ) → ℕ
wait_on Interlocking o closed now = max (o.t_max / 4 - (now - closed)) (pause_of o.short o.t_max - (now - o.opened))
wait_on FieldElement o closed now = o.t_max / 8 - (now - o.opened)

-- the same on the side of the end
abbrev pub wait_of : Openings → (closed now : ℕ) → ℕ
wait_of o closed now = wait_on o.side o closed now

-- the time at which an end was closed, or another time if it was not
abbrev pub closed_at : Option Departure → ℕ → ℕ
closed_at (Some left) other = left.time
closed_at None other = other

-- an opening lasted until a time: at least 2 * T_max
abbrev pub has_lasted : Openings → (until : ℕ) → Bool
has_lasted o until = nat_le o.t_max ((until - o.opened) / 2)

-- the number of openings in a row that did not last, after one more
abbrev pub row_after : (lasted : Bool) → ℕ → ℕ
row_after true short = 0
row_after false short = min (short + 1) (2 ^ 64 - 1)

-- the first of two departures
abbrev pub last_departure : Option Departure → Option Departure → Option Departure
last_departure None before = before
last_departure (Some left) before = Some left

-- what is kept at the first opening
abbrev pub first_opening : Side → (t_max now : ℕ) → Openings
first_opening side t_max now =
    record { side = side; t_max = t_max; opened = now; short = 0; count = 1; earlier = none; departed = None }

-- what is kept when an end with these counts and this departure is opened again: its opening lasted until it was closed,
-- or until now
abbrev pub next_opening : Openings → Statistics → Option Departure → (now : ℕ) → Openings
next_opening o counts departed now =
    record {
      side = o.side;
      t_max = o.t_max;
      opened = now;
      short = row_after (has_lasted o (closed_at departed now)) o.short;
      count = (o.count + 1) % 2 ^ 64;
      earlier = plus o.earlier counts;
      departed = last_departure departed o.departed;
    }
