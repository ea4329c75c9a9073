use Rattle.std.proofs.Common.{◌≡◌}
use Rattle.bench_stack.proofs.machine.send_times.Given as goal

abbrev pub invariant-loop : goal.invariant-loop
invariant-loop l = l.client.expected ≡ l.fn.client.expected
