use Rattle.stack_end.proofs.Words.{◌≡◌}
use Rattle.stack_end.proofs.notes.report_step.Given as goal

abbrev pub invariant-loop-message : goal.invariant-loop-message
invariant-loop-message g l = g.C.Channels.told l.channels ≡ g.C.Channels.told l.initial.channels
