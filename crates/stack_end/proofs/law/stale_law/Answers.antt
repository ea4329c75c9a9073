use Rattle.stack_end.proofs.Stale.{fresh_law_holds, takes_request_holds}
use Rattle.stack_end.proofs.law.stale_law.Goals as goal

pub returns : goal.returns
returns c = record { takes = takes_request_holds; fresh = fresh_law_holds }
