use Rattle.stack_engine.proofs.Words.{Put, refl}
use Rattle.stack_engine.proofs.code.Histories.{alone-turns}
use Rattle.stack_engine.proofs.incarnation.Incarnation.put.Goals as goal

pub returns-in-Ok-clause-turns : goal.returns-in-Ok-clause-turns
returns-in-Ok-clause-turns g c =
    record {
      end = alone-turns (Put c.args.kind c.args.payload.now c.args.now) c.args.self.now.end c.put.new.self
          c.args.self.now.taken c.in-Ok.ensures.turns;
      time = c.in-Ok.ensures.time;
      put = c.add.ensures.added;
      config = refl;
    }
