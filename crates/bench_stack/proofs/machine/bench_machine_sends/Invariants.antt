use Rattle.std.proofs.Common.{◌+◌, ◌*◌, ◌≤◌}
use Rattle.bench_stack.proofs.machine.bench_machine_sends.Given as goal

abbrev pub invariant-loop : goal.invariant-loop
invariant-loop l = l.ends.client.expected ≤ 321 * l.counter + 321
