use Rattle.std.proofs.Common.{◌≤◌, length}
use Rattle.capture_text.proofs.capture_run.read_whole.Given as goal

-- At most as many bytes came as fit.
abbrev pub invariant-loop : goal.invariant-loop
invariant-loop g l = l.size ≤ length l.buffer
