-- The rank among the buckets from this place on.
use Rattle.std.proofs.Common.{◌≡◌, ◌+◌, ◌-◌, ◌≤◌, length, drop}
use Rattle.capture_beside.specs.Delays.{place_at_rank}
use Rattle.capture_beside.proofs.delays.place_of_rank.Given as goal

abbrev pub invariant-loop-place : goal.invariant-loop-place
invariant-loop-place l = (l.place ≤ length l.buckets)
    × (place_at_rank l.rank l.buckets ≡ l.place + place_at_rank l.left (drop l.place l.buckets))

abbrev pub decreases-loop-place : goal.decreases-loop-place
decreases-loop-place l = length l.buckets - l.place
