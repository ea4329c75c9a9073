use Rattle.stack_engine.proofs.Words.{sym, ◌∙◌, arith}
use Rattle.stack_engine.proofs.code.Numbers.{none-there, there}
use Rattle.stack_engine.proofs.keeper.Keeper.has_part.Goals as goal
use Rattle.stack_engine.proofs.keeper.Keeper.has_part.Goals.{then-place-dead-via-then-place-dead, then-place-dead-via-else-place-dead+then-place-len}

pub returns-then-place-dead : goal.returns-then-place-dead
returns-then-place-dead g c =
    sym (none-there c.args.part.now c.args.self.now.datagrams c.args.dead c.in-Some.place c.in-Some.ensures
    (λ le lt. elim c.then-place-dead.branch [
      | then-place-dead-via-then-place-dead w ↦ omega arith
      | then-place-dead-via-else-place-dead+then-place-len w ↦ omega arith
    ]))

pub returns : goal.returns
returns g c =
    c.is_part.ensures ∙ there c.args.part.now c.args.self.now.datagrams c.args.dead c.in-Some.place c.in-Some.ensures
    c.if-place-dead.false (omega arith)
