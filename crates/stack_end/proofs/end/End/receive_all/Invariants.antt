use Rattle.stack_end.proofs.Words.{FoldsTo, length, List, ℕ, ◌≡◌, ◌≤◌}
use Rattle.stack_end.specs.Poll.{ProcessesDatagram}
use Rattle.stack_end.proofs.end.End.receive_all.Given as goal

abbrev pub invariant-loop : goal.invariant-loop
invariant-loop g l =
    record {
      time : l.self.time ≤ l.now;
      along :
          (heard : List (ℕ × List ℕ))
          × (length heard ≡ l.counter) × FoldsTo (ProcessesDatagram g.C.Channels.told g.T.Taker.takes l.now)
          (l.initial.self, l.initial.taker) heard (l.self, l.taker);
    }
