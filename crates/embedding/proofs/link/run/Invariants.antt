use Rattle.std.proofs.Common.{◌≤◌, ◌^◌}
use Rattle.embedding.proofs.link.run.Given as goal

abbrev pub invariant-loop : goal.invariant-loop
invariant-loop g l = record { in_range : l.now ≤ 2 ^ 62; later : l.end.time ≤ l.now }
