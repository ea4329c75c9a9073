use Rattle.std.proofs.Common.{◌≡◌}
use Rattle.safe_machine.specs.retrans.Units.{IsRing}
use Rattle.safe_machine.proofs.RingLemmas.{turned}
use Rattle.safe_machine.proofs.retrans.unconfirmed.Unconfirmed.free.Given as goal

-- Each round moves one place to the end.
abbrev pub invariant-loop : goal.invariant-loop
invariant-loop g l =
    record {
      items : l.self-inside.places.items ≡ turned l.counter l.initial.self-inside.places.items;
      ring : IsRing l.self-inside.places l.self-inside.count;
      room : l.self-inside.places.capacity ≡ l.initial.self-inside.places.capacity;
      count : l.self-inside.count ≡ l.initial.self-inside.count;
    }
