use Rattle.stack_end.proofs.Words.{drop, UNIT_MESSAGES, ◌+◌, ◌≡◌, ◌≤◌}
use Rattle.std.specs.Prelude.{◌*◌}
use Rattle.safe_machine.specs.retrans.Units.{octets_of}
use Rattle.stack_end.specs.Certain.{items_in_units}
use Rattle.stack_end.proofs.upper.UpperLayers.items_unconfirmed.Given as goal

-- with those that are still to be looked at, all are counted
abbrev pub invariant-loop-place : goal.invariant-loop-place
invariant-loop-place g l =
    record {
      counted : l.items + items_in_units (drop l.place (octets_of l.self.machine.ring))
          ≡ items_in_units (octets_of l.self.machine.ring);
      few : l.items ≤ UNIT_MESSAGES * l.place;
    }
