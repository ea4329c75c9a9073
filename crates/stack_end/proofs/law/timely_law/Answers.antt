use Rattle.stack_end.proofs.Timely.{timely_law_holds}
use Rattle.stack_end.proofs.law.timely_law.Goals as goal

pub returns : goal.returns
returns c = record { timely = timely_law_holds }
