use Rattle.std.proofs.Common.{◌≡◌, true, take}
use Rattle.std.specs.List.{list_all}
use Rattle.sim.specs.Ledger.{is_named_among}
use Rattle.sim.proofs.labels.first_from.Given as goal

-- All labels before the place are named.
abbrev pub invariant-loop-place : goal.invariant-loop-place
invariant-loop-place g l = list_all (is_named_among l.il l.fe) (take l.place l.order) ≡ true
