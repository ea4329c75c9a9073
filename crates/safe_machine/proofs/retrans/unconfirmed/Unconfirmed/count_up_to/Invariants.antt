use Rattle.std.proofs.Common.{◌≡◌, drop, take}
use Rattle.safe_machine.specs.retrans.Units.{above, unit_values}
use Rattle.safe_machine.proofs.retrans.unconfirmed.Unconfirmed.count_up_to.Given as goal

-- The units asked so far are confirmed.
abbrev pub invariant-loop-place : goal.invariant-loop-place
invariant-loop-place g l =
    record {
      left : above l.number (drop l.place (unit_values (take l.self-inside.count l.self-inside.places.items)))
          ≡ above l.number (unit_values (take l.self-inside.count l.self-inside.places.items));
    }
