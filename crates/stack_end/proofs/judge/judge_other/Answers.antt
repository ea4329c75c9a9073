use Rattle.stack_end.proofs.Words.{sym, ◌∙◌}
use Rattle.stack_end.proofs.Takes.{ends-taken, stays-takes}
use Rattle.stack_end.proofs.judge.judge_other.Goals as goal

pub returns-in-Ok-arrive-clause-taken : goal.returns-in-Ok-arrive-clause-taken
returns-in-Ok-arrive-clause-taken g c =
    stays-takes _ _ _ _ _ _ _ (sym c.in-Ok.ensures.exact) c.arrive.ensures.left c.in-Ok-arrive.ensures.answer
    c.phase-earlier.ensures.phase c.phase.ensures.phase c.eq.ensures

pub returns-in-Err-arrive-clause-taken : goal.returns-in-Err-arrive-clause-taken
returns-in-Err-arrive-clause-taken g c =
    c.leaves.ensures.taken ∙ ends-taken _ _ _ _ (sym c.in-Ok.ensures.exact) c.in-Err-arrive.ensures.answer
