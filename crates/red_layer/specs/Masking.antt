-- FirstMissing, QNear, and when a deferral deadline falls. These share only the definition of an arrival with the
-- receiver's step.
use Rattle.std.specs.Prelude.{◌≡◌, ℕ, zero, suc, ◌+◌, ◌<◌, ◌≤◌, ◌==◌, nat_lt, Bool, true, false, ◌||◌, List, [], ◌∷◌, ◌++◌, Option, Some, None, unwrap_or, ⊤, if◌then◌else◌, max}
use Rattle.red_layer.specs.FiniteMap.{has_number, part_under}
use Rattle.red_layer.specs.Parts.{Part}
use Rattle.red_layer.specs.Redundancy.{Input, Datagram, Tick}
use Rattle.red_layer.specs.Service.{arrivals_of}

-- FirstMissing: m is the least number that has not arrived
pub record IsFirstMissing (arrived : List Part) (m : ℕ) : Type 0 where
  -- every number below m has arrived
  pub all_below : (k : ℕ) → k < m → has_number k arrived ≡ true
  -- m has not arrived
  pub not_there : has_number m arrived ≡ false

-- the greatest number that has arrived
abbrev pub greatest : List Part → ℕ
greatest [] = 0
greatest (p ∷ ps) = max p.0 (greatest ps)

-- the first number from k on that has not arrived, searched in at most the given number of steps
abbrev pub missing_from : ℕ → ℕ → List Part → ℕ
missing_from zero k arrived = k
missing_from (suc more) k arrived = if has_number k arrived then missing_from more (k + 1) arrived else k

-- the least number that has not arrived; it is at most one more than the greatest that has
abbrev pub first_missing : List Part → ℕ
first_missing arrived = missing_from (suc (greatest arrived)) 0 arrived

-- each number is at most the bound
abbrev pub AreAtMost : ℕ → List Part → Type 0
AreAtMost bound [] = ⊤
AreAtMost bound (p ∷ ps) = (p.0 ≤ bound) × AreAtMost bound ps

-- QNear: each number that arrives is at most q more than the first one missing among the arrivals before it
abbrev pub QNear : ℕ → List Part → List Input → Type 0
QNear q before [] = ⊤
QNear q before (e ∷ es) = AreAtMost (first_missing before + q) (arrivals_of e) × QNear q (before ++ arrivals_of e) es

-- a number above m has arrived
abbrev pub has_above : ℕ → List Part → Bool
has_above m [] = false
has_above m (p ∷ ps) = nat_lt m p.0 || has_above m ps

-- a wait for a missing number
pub record Wait : Type 0 where
  -- the parts that have arrived, in order
  pub arrived : List Part
  -- the start of the wait, if there is one
  pub began : Option ℕ

-- nothing has arrived and there is no wait
abbrev pub no_wait : Wait
no_wait = record { arrived = []; began = None }

-- there is a wait if a number above the first missing one has arrived; it continues while the first missing number
-- stays the same, else it starts now
abbrev pub began_by : ℕ → Wait → List Part → Option ℕ
began_by now w arrived =
    if has_above (first_missing arrived) arrived
    then Some (if first_missing w.arrived == first_missing arrived then unwrap_or w.began now else now)
    else None

-- the time of an input
abbrev pub moment_of : Input → ℕ
moment_of (Datagram octets now) = now
moment_of (Tick now) = now

-- the arrivals and the wait after one more input
abbrev pub wait_after : Input → Wait → Wait
wait_after e w =
    record { arrived = w.arrived ++ arrivals_of e; began = began_by (moment_of e) w (w.arrived ++ arrivals_of e) }

-- the time is before the deadline of the wait, if there is one
abbrev pub IsInTime : ℕ → ℕ → Option ℕ → Type 0
IsInTime t_seq now None = ⊤
IsInTime t_seq now (Some began) = now < began + t_seq

-- no deferral deadline falls: no input comes t_seq or later after the start of the wait; even bytes that are not a PDU
-- count
abbrev pub NoDeadlineFalls : ℕ → Wait → List Input → Type 0
NoDeadlineFalls t_seq w [] = ⊤
NoDeadlineFalls t_seq w (e ∷ es) = IsInTime t_seq (moment_of e) w.began × NoDeadlineFalls t_seq (wait_after e w) es

-- the part that arrived first under each number below m, in order
abbrev pub first_parts : ℕ → List Part → List Part
first_parts zero arrived = []
first_parts (suc m) arrived = first_parts m arrived ++ (m, unwrap_or (part_under m arrived) []) ∷ []
