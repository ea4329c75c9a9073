-- RedundancyStep: what the receiving half of the redundancy layer does with a datagram and at a deadline (redundancy
-- layer of DIN VDE V 0831-200:2015; the rules are the profile's, docs/protocol.md). Its state is the expected number, a
-- finite map of the deferred parts, and the time since which they are deferred.
use Rattle.std.specs.Prelude.{ℕ, ◌+◌, ◌*◌, ◌==◌, nat_le, nat_lt, Bool, not, ◌&&◌, List, [], ◌∷◌, ◌++◌, length, Option, Some, None, Result, Ok, Err, if◌then◌else◌}
use Rattle.red_layer.specs.FiniteMap.{put_in, has_number}
use Rattle.octets.specs.declared.limits.TheConstants.{REACH}
use Rattle.red_layer.specs.pdu.RedText.{red_seen}
use Rattle.red_layer.specs.declared.pdu.RedFault.{RedFault}
use Rattle.red_layer.specs.Parts.{Part, is_nil}
use Rattle.red_layer.specs.declared.RedEvent.{RedEvent}
use Rattle.red_layer.specs.declared.RedEvent.TheVariants.{Passed, Wait, Old, Far, Full, Again, Fault}

-- a receiving half: its settings and its state
pub record Receiver : Type 0 where
  pub q : ℕ
  pub t_seq : ℕ
  -- the expected number, without wrap
  pub expected : ℕ
  -- the map of the deferred parts
  pub waiting : List Part
  -- the time since which they are deferred; without meaning if there are none
  pub since : ℕ

-- a receiving half just opened
abbrev pub new_receiver : ℕ → ℕ → Receiver
new_receiver q t_seq = record { q = q; t_seq = t_seq; expected = 0; waiting = []; since = 0 }

-- the outcome of a datagram
pub record ReceiverStep : Type 0 where
  -- what was done with the datagram
  pub event : RedEvent
  -- the parts passed up
  pub passed : List Part
  -- the state after it
  pub left : Receiver

-- the parts with consecutive numbers from n on
abbrev pub run_from : ℕ → List Part → List Part
run_from n [] = []
run_from n (e ∷ es) = if e.0 == n then e ∷ run_from (n + 1) es else []

-- the parts after those with consecutive numbers from n on
abbrev pub after_run : ℕ → List Part → List Part
after_run n [] = []
after_run n (e ∷ es) = if e.0 == n then after_run (n + 1) es else e ∷ es

-- the receiver after the run from n on is passed up; parts that are left are deferred since now
abbrev pub follow : ℕ → ℕ → Receiver → Receiver
follow now n r = record {
  q = r.q;
  t_seq = r.t_seq;
  expected = n + length (run_from n r.waiting);
  waiting = after_run n r.waiting;
  since = if is_nil (after_run n r.waiting) then r.since else now;
}

-- the least deferred number, if there is one
abbrev pub least_waiting : List Part → ℕ
least_waiting [] = 0
least_waiting (e ∷ es) = e.0

-- parts are deferred, and their time is over
abbrev pub is_due : ℕ → Receiver → Bool
is_due now r = not (is_nil r.waiting) && nat_le (r.since + r.t_seq) now

-- the parts that are passed up when the deadline is tried
abbrev pub parts_due : ℕ → Receiver → List Part
parts_due now r = if is_due now r then run_from (least_waiting r.waiting) r.waiting else []

-- the receiver after the deadline is tried
abbrev pub after_release : ℕ → Receiver → Receiver
after_release now r = if is_due now r then follow now (least_waiting r.waiting) r else r

-- a part that is ahead, and not too far: dropped if its number is already deferred, dropped if q parts are deferred,
-- else deferred
abbrev pub defer : ℕ → Part → Receiver → ReceiverStep
defer now p r =
    if has_number p.0 r.waiting then record { event = Again; passed = []; left = r }
    else if length r.waiting == r.q then record { event = Full; passed = []; left = r }
    else record {
      event = Wait;
      passed = [];
      left = record r { waiting = put_in p.0 p.1 r.waiting; since = if is_nil r.waiting then now else r.since };
    }

-- what an arrival does, by its number
abbrev pub arrival : ℕ → Part → Receiver → ReceiverStep
arrival now p r =
    if nat_lt p.0 r.expected then record { event = Old; passed = []; left = r }
    else if p.0 == r.expected then
    record { event = Passed; passed = p ∷ run_from (p.0 + 1) r.waiting; left = follow now (p.0 + 1) r }
    else if nat_lt (r.expected + REACH * r.q) p.0 then record { event = Far; passed = []; left = r }
    else defer now p r

-- an input of the receiving half: any bytes, or a time at which the deadline is tried
pub data Input : Type 0 where
  Datagram : (octets : List ℕ) → (now : ℕ) → Input
  Tick : (now : ℕ) → Input

-- the number and the payload of a datagram, or its first fault
unfoldable pub decoded : List ℕ → Result Part RedFault
decoded octets = red_seen octets

-- what a decoded datagram does after the deadline was tried
abbrev pub step_decoded : ℕ → Result Part RedFault → Receiver → ReceiverStep
step_decoded now (Ok p) r = arrival now p r
step_decoded now (Err fault) r = record { event = Fault fault; passed = []; left = r }

-- what a datagram does: the deadline is tried first, and the datagram is judged by the state that this leaves
abbrev pub judge : ℕ → List ℕ → Receiver → ReceiverStep
judge now octets r = step_decoded now (decoded octets) (after_release now r)

-- the parts passed up at an input, in order
abbrev pub parts_passed : Input → Receiver → List Part
parts_passed (Datagram octets now) r = parts_due now r ++ (judge now octets r).passed
parts_passed (Tick now) r = parts_due now r

-- the receiver after an input
abbrev pub after : Input → Receiver → Receiver
after (Datagram octets now) r = (judge now octets r).left
after (Tick now) r = after_release now r

-- the end of the wait, if parts are deferred
abbrev pub deadline_of : Receiver → Option ℕ
deadline_of r = if is_nil r.waiting then None else Some (r.since + r.t_seq)
