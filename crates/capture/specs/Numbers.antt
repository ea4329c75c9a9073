-- How a number follows the ones seen before it, and what is kept of it.
use Rattle.std.specs.Prelude.{ℕ, ◌+◌, ◌-◌, ◌%◌, ◌^◌, ◌==◌, ◌&&◌, ◌||◌, not, nat_eq, nat_lt, nat_le, min, List, slice_index, slice_set, replicate, if◌then◌else◌, Bool, Option, Some, None}
use Rattle.capture.specs.declared.window.TheConstants.{KEPT, LATE_MAX, PASSED_MAX}
use Rattle.capture.specs.declared.window.SeenNumber.{SeenNumber}
use Rattle.capture.specs.declared.window.Window.{Window}
use Rattle.capture.specs.declared.window.NumberOrder.{NumberOrder}
use Rattle.capture.specs.declared.window.NumberOrder.TheVariants.{First, Next, Ahead, Late, Repeat, Differs, Stale, Anew}

-- A sum of counts, limited to 2^64 - 1.
abbrev pub limited_sum : ℕ → ℕ → ℕ
limited_sum count more = min (count + more) (2 ^ 64 - 1)

-- The lines of slots without an entry.
abbrev pub no_lines : List ℕ
no_lines = replicate KEPT 0

-- The window before any number was seen.
abbrev pub open_window : Window
open_window =
    record {
      newest = None;
      behind = 0;
      numbers = replicate KEPT 0;
      lines = no_lines;
      fingerprints = replicate KEPT 0;
      heard = 0;
      missing = 0;
      late = 0;
      repeats = 0;
      differing = 0;
      stale = 0;
    }

-- The slot of a number: its remainder.
abbrev pub slot : ℕ → ℕ
slot number = number % KEPT

-- The slot of this number is empty, or has another number.
abbrev pub has_no_entry : Window → ℕ → Bool
has_no_entry w number =
    nat_eq (slice_index w.lines (slot number)) 0 || not (nat_eq (slice_index w.numbers (slot number)) number)

-- The entry of a number, if it is kept.
abbrev pub seen_of : Window → ℕ → Option SeenNumber
seen_of w number =
    if has_no_entry w number then None
    else
    Some (record {
      number = number;
      line = slice_index w.lines (slot number);
      fingerprint = slice_index w.fingerprints (slot number);
    })

-- The line of an entry.
abbrev pub line_in : Option SeenNumber → Option ℕ
line_in None = None
line_in (Some seen) = Some seen.line

-- The line on which a number was seen, if it is kept.
abbrev pub line_seen : Window → ℕ → Option ℕ
line_seen w number = line_in (seen_of w number)

-- The distance from one number to another on the ring of 2^32 numbers.
abbrev pub ahead : ℕ → ℕ → ℕ
ahead from to = (to + (2 ^ 32 - from)) % 2 ^ 32

-- How a number that is not kept follows, by its distance from the newest. At most `PASSED_MAX` numbers may be skipped.
-- A skipped number close before the newest is late, one further back is stale, and any other starts again.
abbrev pub order_ahead : Window → ℕ → NumberOrder
order_ahead w steps =
    if nat_le steps 1 then Next
    else if nat_le steps (PASSED_MAX + 1) then Ahead (steps - 1)
    else if nat_lt (2 ^ 32 - 1 - steps) w.behind && nat_lt 0 w.missing then Late
    else if nat_le (2 ^ 31) steps then Stale
    else Anew

-- How a number that is not kept follows; the first one if there is no newest.
abbrev pub order_from : Window → Option ℕ → ℕ → NumberOrder
order_from w None number = First
order_from w (Some newest) number = order_ahead w (ahead newest number)

-- A number that is kept: a repeat if the fingerprint is the same, otherwise it differs.
abbrev pub order_again : SeenNumber → ℕ → NumberOrder
order_again seen fingerprint = if seen.fingerprint == fingerprint then Repeat seen.line else Differs seen.line

-- How a number follows, by the entry that is kept of it, if any.
abbrev pub order_by : Option SeenNumber → Window → ℕ → ℕ → NumberOrder
order_by (Some seen) w number fingerprint = order_again seen fingerprint
order_by None w number fingerprint = order_from w w.newest number

-- How a number follows, by the fingerprint of its bytes.
abbrev pub number_order : Window → ℕ → ℕ → NumberOrder
number_order w number fingerprint = order_by (seen_of w number) w number fingerprint

-- The window that starts again with the next number; its counts stay.
abbrev pub restart_window : Window → Window
restart_window w = record w { newest = None; behind = 0; lines = no_lines }

-- The window with this entry in its slot.
abbrev pub keep_entry : Window → SeenNumber → Window
keep_entry w seen =
    record w {
      numbers = slice_set w.numbers (slot seen.number) seen.number;
      lines = slice_set w.lines (slot seen.number) seen.line;
      fingerprints = slice_set w.fingerprints (slot seen.number) seen.fingerprint;
    }

-- The window with this number as the newest, `steps` ahead of the one before.
abbrev pub move_window : Window → ℕ → SeenNumber → Window
move_window w steps seen =
    keep_entry (record w {
      newest = Some seen.number;
      behind = min (w.behind + steps) LATE_MAX;
      heard = limited_sum w.heard 1;
    }) seen

-- The window after a number that followed in this way.
abbrev pub note_as : NumberOrder → Window → SeenNumber → Window
note_as First w seen = move_window (restart_window w) 0 seen
note_as Next w seen = move_window w 1 seen
note_as (Ahead passed) w seen = move_window (record w { missing = limited_sum w.missing passed }) (passed + 1) seen
note_as Late w seen = keep_entry (record w { missing = w.missing - 1; late = limited_sum w.late 1 }) seen
note_as (Repeat _) w seen = record w { repeats = limited_sum w.repeats 1 }
note_as (Differs _) w seen = record w { differing = limited_sum w.differing 1 }
note_as Stale w seen = record w { stale = limited_sum w.stale 1 }
note_as Anew w seen = move_window (restart_window w) 0 seen

-- The window after a number on this line.
abbrev pub note_number : Window → ℕ → ℕ → ℕ → Window
note_number w number line fingerprint =
    note_as (number_order w number fingerprint) w (record { number = number; line = line; fingerprint = fingerprint })
