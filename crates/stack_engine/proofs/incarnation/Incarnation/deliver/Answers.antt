use Rattle.std.proofs.Common.{refl, sym, append-nil}
use Rattle.stack_engine.proofs.incarnation.Incarnation.deliver.Goals as goal

pub returns-clause-turns : goal.returns-clause-turns
returns-clause-turns g c =
    record {
      end = c.arrive.ensures.turns;
      time = c.arrive.ensures.time;
      put = sym (append-nil c.args.self.now.put.texts);
      config = refl;
    }
