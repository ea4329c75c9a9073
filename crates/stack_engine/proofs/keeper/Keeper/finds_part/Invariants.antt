use Rattle.std.proofs.Common.{◌-◌, ◌≡◌, ◌≤◌, length, drop, false}
use Rattle.stack_engine.specs.Keeper.{has_part}
use Rattle.stack_engine.proofs.keeper.Keeper.finds_part.Given as goal

abbrev pub invariant-loop-place : goal.invariant-loop-place
invariant-loop-place g l =
    (l.place ≤ length l.self.datagrams) × (has_part l.part (drop l.place l.self.datagrams) ≡ false)

abbrev pub decreases-loop-place : goal.decreases-loop-place
decreases-loop-place g l = l.place - l.dead
