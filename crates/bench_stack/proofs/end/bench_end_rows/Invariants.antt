use Rattle.std.proofs.Common.{◌≤◌, length}
use Rattle.bench_stack.proofs.end.bench_end_rows.Given as goal

abbrev pub invariant-loop-datagram : goal.invariant-loop-datagram
invariant-loop-datagram l =
    record { sent : l.sent ≤ length l.data_row; confirmed : l.confirmed ≤ length l.heartbeat_row }

abbrev pub invariant-loop-datagram-2 : goal.invariant-loop-datagram-2
invariant-loop-datagram-2 l =
    record { sent : l.sent ≤ length l.data_row; confirmed : l.confirmed ≤ length l.heartbeat_row }

abbrev pub invariant-loop : goal.invariant-loop
invariant-loop l = record { sent : l.sent ≤ length l.data_row; confirmed : l.confirmed ≤ length l.heartbeat_row }
