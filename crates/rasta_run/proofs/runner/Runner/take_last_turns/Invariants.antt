-- No end is later than the clock, which is within its bounds, and nothing was put into the first one.
use Rattle.std.proofs.Common.{◌≡◌, ◌≤◌, IfSome}
use Rattle.octets.specs.declared.limits.TheConstants.{TIME_MAX}
use Rattle.rasta_run.proofs.runner.Runner.take_last_turns.Given as goal

abbrev pub invariant-turns : goal.invariant-turns
invariant-turns g l =
    record {
      first : l.self.first.end.time ≤ l.clock.last;
      second : IfSome l.self.second (λ a. a.end.time ≤ l.clock.last);
      bounded : l.clock.last ≤ TIME_MAX;
      put : l.self.first.put ≡ l.initial.self.first.put;
    }
