use Rattle.stack_end.proofs.Words.{◌∙◌}
use Rattle.stack_end.proofs.Takes.{ends-taken, stays-takes}
use Rattle.stack_end.proofs.judge.judge_message.Goals as goal

pub returns-in-Ok-clause-taken : goal.returns-in-Ok-clause-taken
returns-in-Ok-clause-taken g c =
    stays-takes _ _ _ _ _ _ _ c.in-Some.ensures.exact c.arrive_known.ensures.left c.in-Ok.ensures.answer
    c.phase-before.ensures.phase c.phase.ensures.phase c.eq.ensures

pub returns-in-Err-clause-taken : goal.returns-in-Err-clause-taken
returns-in-Err-clause-taken g c =
    c.leaves.ensures.taken ∙ ends-taken _ _ _ _ c.in-Some.ensures.exact c.in-Err.ensures.answer
