use Rattle.stack_end.proofs.Words.{arith, inl, inr, refl}
use Rattle.stack_end.proofs.CallParts.{heard-more}
use Rattle.stack_end.proofs.end.End.receive_all.Goals as goal

pub returns-in-Ok-false-clause-done : goal.returns-in-Ok-false-clause-done
returns-in-Ok-false-clause-done g c =
    let along = c.loop.invariant.along in (
      along.0,
      (c.loop.self, c.loop.taker),
      along.2,
      inr (omega (arith, along.1), rw c.in-Ok-false.field-0-test at c.in-Ok-false.ensures.heard),
    )

pub returns-in-Err-clause-failed : goal.returns-in-Err-clause-failed
returns-in-Err-clause-failed g c =
    let along = c.loop.invariant.along in
    (along.0, (c.loop.self, c.loop.taker), along.2, omega (arith, along.1), c.in-Err.fault, c.in-Err.ensures.heard)

pub loop-preserved : goal.loop-preserved
loop-preserved g c =
    record {
      time = c.receive_next.ensures.time;
      along = heard-more _ _ _ _ _ c.loop.invariant.along (rw c.in-Ok-true.field-0-test at c.in-Ok-true.ensures.heard);
    }

pub returns-clause-done : goal.returns-clause-done
returns-clause-done g c =
    let along = c.loop.invariant.along in
    (along.0, (c.loop.self, c.loop.taker), along.2, inl (omega (arith, along.1), refl))
