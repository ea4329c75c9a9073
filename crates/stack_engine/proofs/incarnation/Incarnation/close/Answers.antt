use Rattle.stack_engine.proofs.Words.{append-nil, Close, refl, sym}
use Rattle.stack_engine.proofs.code.Histories.{alone-turns}
use Rattle.stack_engine.proofs.incarnation.Incarnation.close.Goals as goal

pub returns-clause-turns : goal.returns-clause-turns
returns-clause-turns g c =
    record {
      end =
          alone-turns (Close c.args.now) c.args.self.now.end c.close.new.self c.args.self.now.taken
          c.close.ensures.turns;
      time = c.close.ensures.time;
      put = sym (append-nil c.args.self.now.put.texts);
      config = refl;
    }
