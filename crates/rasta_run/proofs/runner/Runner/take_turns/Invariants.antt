-- No end is later than the clock, which is within its bounds and was read once in each turn.
use Rattle.std.proofs.Common.{◌≡◌, ◌≤◌, ◌+◌, ◌%◌, ◌^◌, IfSome}
use Rattle.octets.specs.declared.limits.TheConstants.{TIME_MAX}
use Rattle.rasta_run.proofs.runner.Runner.take_turns.Given as goal

abbrev pub invariant-turns : goal.invariant-turns
invariant-turns g l =
    record {
      first : l.self.first.end.time ≤ l.clock.last;
      second : IfSome l.self.second (λ a. a.end.time ≤ l.clock.last);
      bounded : l.clock.last ≤ TIME_MAX;
      read : l.clock.readings ≡ (l.initial.clock.readings + l.counter) % 2 ^ 64;
      taken : l.self.turns ≡ (l.initial.self.turns + l.counter) % 2 ^ 64;
    }
