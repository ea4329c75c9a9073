-- The counts of windows and connections add up.
use Rattle.std.proofs.Common.{◌≡◌, ℕ, ◌+◌, ◌-◌, ◌^◌, ◌<◌, List, [], ◌∷◌, length, refl, arith, Option, Some, None}
use Rattle.capture.specs.declared.window.SeenNumber.{SeenNumber}
use Rattle.capture.specs.declared.window.Window.{Window}
use Rattle.capture.specs.declared.window.NumberOrder.{NumberOrder}
use Rattle.capture.specs.declared.window.NumberOrder.TheVariants.{First, Next, Ahead, Late, Repeat, Differs, Stale, Anew}
use Rattle.capture.specs.Numbers.{ahead, number_order, order_ahead, order_by, order_from, note_number, note_as, open_window, seen_of}
use Rattle.capture.specs.Laws.{EachCounted, EachOnce, note_all, datagrams_in, reach_of_all, reach_of}

-- A number is counted once, however it followed.
pub one_noted : (j : NumberOrder) (w : Window) (s : SeenNumber) → datagrams_in w < 2 ^ 64 - 1
    → datagrams_in (note_as j w s) ≡ datagrams_in w + 1
one_noted First w s h = omega arith
one_noted Next w s h = omega arith
one_noted (Ahead passed) w s h = omega arith
one_noted Late w s h = omega arith
one_noted (Repeat line) w s h = omega arith
one_noted (Differs line) w s h = omega arith
one_noted Stale w s h = omega arith
one_noted Anew w s h = omega arith

-- So are all numbers of a list, from any window on.
pub all_counted : (ss : List SeenNumber) (w : Window) → datagrams_in w + length ss < 2 ^ 64
    → datagrams_in (note_all w ss) ≡ datagrams_in w + length ss
all_counted [] w h = omega arith
all_counted (s ∷ ss) w h =
    let one = one_noted (number_order w s.number s.fingerprint) w s (omega arith) in
    let rest = all_counted ss (note_number w s.number s.line s.fingerprint) (omega (arith, one)) in
    omega (arith, one, rest)

pub counted_law : EachCounted
counted_law ss h = let all = all_counted ss open_window (omega arith) in omega (arith, all)

-- A late number was missing.
late_ahead : (w : Window) (steps : ℕ) → order_ahead w steps ≡ Late → 0 < w.missing
late_ahead w steps h = grind arith

late_from : (w : Window) (newest : Option ℕ) (n : ℕ) → order_from w newest n ≡ Late → 0 < w.missing
late_from w None n h = grind arith
late_from w (Some newest) n h = late_ahead w (ahead newest n) h

late_by : (seen : Option SeenNumber) (w : Window) (n f : ℕ) → order_by seen w n f ≡ Late → 0 < w.missing
late_by None w n f h = late_from w w.newest n h
late_by (Some seen) w n f h = grind arith

pub late_was_missing : (w : Window) (n f : ℕ) → number_order w n f ≡ Late → 0 < w.missing
late_was_missing w n f h = late_by (seen_of w n) w n f h

-- How many numbers a window has reached.
abbrev reached_in : Window → ℕ
reached_in w = w.heard + w.late + w.missing

pub one_reached : (j : NumberOrder) (w : Window) (s : SeenNumber) → (j ≡ Late → 0 < w.missing)
    → reached_in w + reach_of j < 2 ^ 64
    → reached_in (note_as j w s) ≡ reached_in w + reach_of j
one_reached First w s late h = omega arith
one_reached Next w s late h = omega arith
one_reached (Ahead passed) w s late h = omega arith
one_reached Late w s late h = let some = late refl in omega (arith, some)
one_reached (Repeat line) w s late h = omega arith
one_reached (Differs line) w s late h = omega arith
one_reached Stale w s late h = omega arith
one_reached Anew w s late h = omega arith

pub all_reached : (ss : List SeenNumber) (w : Window) → reached_in w + reach_of_all w ss < 2 ^ 64
    → reached_in (note_all w ss) ≡ reached_in w + reach_of_all w ss
all_reached [] w h = omega arith
all_reached (s ∷ ss) w h =
    let one =
    one_reached (number_order w s.number s.fingerprint) w s (late_was_missing w s.number s.fingerprint) (omega arith)
    in
    let rest = all_reached ss (note_number w s.number s.line s.fingerprint) (omega (arith, one)) in
    omega (arith, one, rest)

pub once_law : EachOnce
once_law ss h = let all = all_reached ss open_window (omega arith) in omega (arith, all)
