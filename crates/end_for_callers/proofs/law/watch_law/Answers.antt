use Rattle.end_for_callers.proofs.Watch.{watch_law_holds}
use Rattle.end_for_callers.proofs.law.watch_law.Goals as goal

pub returns : goal.returns
returns c = watch_law_holds
