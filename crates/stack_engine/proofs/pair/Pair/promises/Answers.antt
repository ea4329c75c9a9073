use Rattle.std.proofs.Common.{subst}
use Rattle.stack_engine.specs.Premise.{AreTyped}
use Rattle.stack_engine.proofs.pair.Pair.promises.Goals as goal

pub returns : goal.returns
returns g c =
    let typed = subst AreTyped c.self.view_is c.self.invariant.typed in
    record {
      promises =
          record {
            headline = c.pair_law.ensures.headline c.args.self.now typed;
            fresh = c.pair_law.ensures.fresh c.args.self.now typed;
            confirmed = c.pair_law.ensures.confirmed c.args.self.now typed;
            settled = c.pair_law.ensures.settled c.args.self.now typed;
            certain = c.pair_law.ensures.certain c.args.self.now typed;
            nothing_lost = c.pair_law.ensures.nothing_lost c.args.self.now typed;
          };
    }
