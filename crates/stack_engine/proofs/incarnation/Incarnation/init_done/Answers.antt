use Rattle.stack_engine.proofs.Words.{append-nil, InitDone, refl, sym}
use Rattle.stack_engine.proofs.code.Histories.{alone-turns}
use Rattle.stack_engine.proofs.incarnation.Incarnation.init_done.Goals as goal

pub returns-in-Ok-clause-turns : goal.returns-in-Ok-clause-turns
returns-in-Ok-clause-turns g c =
    record {
      end = alone-turns (InitDone c.args.now) c.args.self.now.end c.init_done.new.self c.args.self.now.taken
          c.in-Ok.ensures.turns;
      time = c.in-Ok.ensures.time;
      put = sym (append-nil c.args.self.now.put.texts);
      config = refl;
    }
