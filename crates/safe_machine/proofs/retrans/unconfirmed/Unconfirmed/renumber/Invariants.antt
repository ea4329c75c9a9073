use Rattle.std.proofs.Common.{◌≡◌, ◌+◌, take}
use Rattle.safe_machine.specs.retrans.Units.{IsRing, octets_of, renumber_units, unit_values}
use Rattle.safe_machine.proofs.RingLemmas.{left_to}
use Rattle.safe_machine.proofs.retrans.unconfirmed.Unconfirmed.renumber.Given as goal

-- The numbers written, and those still to be written, make up all.
abbrev pub invariant-loop-far : goal.invariant-loop-far
invariant-loop-far g l =
    record {
      numbers :
          left_to l.far (l.first + l.far) (take l.self-inside.count l.self-inside.places.items)
          ≡ renumber_units l.first
          (octets_of (unit_values (take l.initial.self-inside.count l.initial.self-inside.places.items)));
      ring : IsRing l.self-inside.places l.self-inside.count;
      room : l.self-inside.places.capacity ≡ l.initial.self-inside.places.capacity;
      count : l.self-inside.count ≡ l.initial.self-inside.count;
    }
