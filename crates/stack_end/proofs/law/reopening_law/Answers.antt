use Rattle.stack_end.proofs.Again.{again-holds}
use Rattle.stack_end.proofs.law.reopening_law.Goals as goal

pub returns : goal.returns
returns c = record { again = again-holds }
