use Rattle.std.proofs.Common.{refl}
use Rattle.stack_engine.specs.Pairs.{ends_of}
use Rattle.stack_engine.proofs.sides.Sides.open.Goals as goal

pub returns-in_ok-open-in-Interlocking-clause-does : goal.returns-in_ok-open-in-Interlocking-clause-does
returns-in_ok-open-in-Interlocking-clause-does g c = λ w h few.
    let does = rw c.in-Interlocking.is at c.in_ok-open-in-Interlocking.ensures.does in
    rw c.in-Interlocking.is (record {
      il = does w.ils h.il;
      fe = h.fe;
      joins = h.joins;
      dead_il = refl;
      dead_fe = c.made_count-self.ensures (ends_of w.fes) h.fe;
    })
