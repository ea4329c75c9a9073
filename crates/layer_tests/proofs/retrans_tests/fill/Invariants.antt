use Rattle.std.proofs.Common.{◌≡◌, ◌<◌}
use Rattle.std.specs.List.{All}
use Rattle.safe_machine.specs.retrans.Units.{Numbered}
use Rattle.layer_tests.proofs.retrans_tests.fill.Given as goal

abbrev pub invariant-loop-number : goal.invariant-loop-number
invariant-loop-number g l =
    record {
      below : All (λ (u : Numbered). u.number < l.number) l.kept.units;
      room : l.kept.room ≡ l.initial.kept.room;
    }
