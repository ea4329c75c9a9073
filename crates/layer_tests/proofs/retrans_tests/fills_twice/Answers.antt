use Rattle.std.proofs.Common.{◌<◌, nat_lt}
use Rattle.std.proofs.lemmas.List.Elements.{All-filter}
use Rattle.safe_machine.specs.retrans.Units.{Numbered}
use Rattle.layer_tests.proofs.retrans_tests.fills_twice.Goals as goal

pub fill-requires-2-clause-below : goal.fill-requires-2-clause-below
fill-requires-2-clause-below g c =
    rw c.confirm.ensures (All-filter (λ (u : Numbered). nat_lt 31 u.number) (λ (u : Numbered). u.number < 33) _
    c.fill.ensures.below)
