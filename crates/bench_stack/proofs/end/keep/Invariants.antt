use Rattle.std.proofs.Common.{◌≤◌, length}
use Rattle.bench_stack.proofs.end.keep.Given as goal

abbrev pub invariant-loop-datagram : goal.invariant-loop-datagram
invariant-loop-datagram l = l.filled ≤ length l.row
