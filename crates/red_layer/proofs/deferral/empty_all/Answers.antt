use Rattle.std.proofs.Common.{sym, arith}
use Rattle.red_layer.proofs.Entries.{entries-none}
use Rattle.red_layer.proofs.deferral.empty_all.Goals as goal

pub returns : goal.returns
returns g c =
    entries-none c.loop-place.places (λ k lt.
    c.loop-place.invariant k (omega (arith, lt, c.loop-place.auto.place-index-end)))
