use Rattle.std.proofs.Common.{◌+◌, ◌*◌, ◌≤◌, length}
use Rattle.bench_stack.proofs.machine.bench_machine_rows.Given as goal

abbrev pub invariant-loop : goal.invariant-loop
invariant-loop l =
    record {
      client : l.ends.client.expected ≤ 321 * l.counter + 321;
      server : l.ends.server.expected ≤ 321 * l.counter + 642;
      sent : l.sent ≤ length l.data_row;
      confirmed : l.confirmed ≤ length l.heartbeat_row;
    }
