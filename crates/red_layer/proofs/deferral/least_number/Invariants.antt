use Rattle.std.proofs.Common.{◌≡◌, drop}
use Rattle.red_layer.specs.FiniteMap.{least_of, entries_of}
use Rattle.red_layer.proofs.deferral.least_number.Given as goal
use Rattle.red_layer.proofs.FiniteMap.{smaller}

abbrev pub invariant-loop-place : goal.invariant-loop-place
invariant-loop-place g l =
    smaller l.least (least_of (entries_of (drop l.place-index l.places))) ≡ least_of (entries_of l.places)
