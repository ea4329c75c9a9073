-- Bytes were added, and nothing else has changed.
use Rattle.std.proofs.Common.{◌≡◌, ◌++◌, List, ℕ}
use Rattle.rasta_run.proofs.input.Feed.complete_line.Given as goal

abbrev pub invariant-octets : goal.invariant-octets
invariant-octets g l =
    record {
      added : (octets : List ℕ) × (l.self.lines.octets.items ≡ l.initial.self.lines.octets.items ++ octets);
      kept :
          (l.self.lines.cut ≡ l.initial.self.lines.cut) × (l.self.next ≡ l.initial.self.next)
          × (l.self.unread ≡ l.initial.self.unread) × (l.self.ended ≡ l.initial.self.ended);
    }
