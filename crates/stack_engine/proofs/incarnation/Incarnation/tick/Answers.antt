use Rattle.std.proofs.Common.{refl, sym, append-nil}
use Rattle.stack_engine.proofs.incarnation.Incarnation.tick.Goals as goal

pub returns-clause-turns : goal.returns-clause-turns
returns-clause-turns g c =
    record {
      end = c.tick.ensures.turns;
      time = c.tick.ensures.time;
      put = sym (append-nil c.args.self.now.put.texts);
      config = refl;
    }
