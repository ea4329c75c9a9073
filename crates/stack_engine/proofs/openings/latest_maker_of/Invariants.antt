use Rattle.std.proofs.Common.{length, ◌≤◌}
use Rattle.stack_engine.proofs.code.Histories.{IsLeft}
use Rattle.stack_engine.proofs.openings.latest_maker_of.Given as goal

abbrev pub invariant-loop-number : goal.invariant-loop-number
invariant-loop-number g l = (l.number ≤ length l.incarnations) × IsLeft l.octets l.incarnations l.number

abbrev pub decreases-loop-number : goal.decreases-loop-number
decreases-loop-number g l = l.number
