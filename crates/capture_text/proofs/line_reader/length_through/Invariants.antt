-- There was no line feed so far.
use Rattle.std.proofs.Common.{◌≢◌, ◌-◌, ◌≤◌, All, length, take}
use Rattle.capture_text.proofs.line_reader.length_through.Given as goal

abbrev pub invariant-loop-size : goal.invariant-loop-size
invariant-loop-size l = (l.size ≤ length l.octets) × All (λ x. x ≢ 10) (take l.size l.octets)

abbrev pub decreases-loop-size : goal.decreases-loop-size
decreases-loop-size l = length l.octets - l.size
