-- An event changes only which causes are known, how often they came, and whether openings are only counted.
use Rattle.std.proofs.Common.{◌≡◌}
use Rattle.rasta_run.proofs.log.Log.catch_up.Given as goal

abbrev pub invariant-events : goal.invariant-events
invariant-events g l =
    l.self ≡ record l.initial.self {
      causes = l.self.causes;
      cause_count = l.self.cause_count;
      is_quiet = l.self.is_quiet;
      drops = l.self.drops;
    }
