use Rattle.stack_end.proofs.TurnOfCall.{any_channel_law_holds, last_law_holds, tells_law_holds, turns_law_holds}
use Rattle.stack_end.proofs.law.end_law.Goals as goal

pub returns : goal.returns
returns c = record {
  turns = turns_law_holds;
  any_channel = any_channel_law_holds;
  tells = tells_law_holds;
  last = last_law_holds;
}
