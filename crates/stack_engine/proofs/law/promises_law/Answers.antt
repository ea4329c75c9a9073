use Rattle.stack_engine.proofs.alike.Faithfuls.{faithful-twice, nothing-lost-again}
use Rattle.stack_engine.proofs.alike.Freshes.{fresh-again, fresh-twice}
use Rattle.stack_engine.proofs.alike.Genuines.{genuine-twice}
use Rattle.stack_engine.proofs.alike.Headlines.{headline-again, headline-twice}
use Rattle.stack_engine.proofs.alike.Losses.{nothing-lost-twice}
use Rattle.stack_engine.proofs.alike.Promised.{promises-twice}
use Rattle.stack_engine.proofs.alike.Settleds.{certain-again, certain-twice, confirmed-again, confirmed-twice, settled-again, settled-twice}
use Rattle.stack_engine.proofs.law.promises_law.Goals as goal

pub returns : goal.returns
returns c =
    let promised = c.pair_law.ensures in
    let headline = headline-again promised.headline in
    record {
      headline = headline-twice;
      fresh = fresh-twice;
      confirmed = confirmed-twice;
      settled = settled-twice;
      certain = certain-twice;
      nothing_lost = nothing-lost-twice;
      genuine = genuine-twice;
      faithful = faithful-twice c.order_law.ensures.missing;
      promises = promises-twice c.order_law.ensures.missing;
      headline_by_place = headline;
      fresh_by_place = fresh-again promised.fresh;
      confirmed_by_place = confirmed-again headline promised.confirmed;
      settled_by_place = settled-again headline promised.settled;
      certain_by_place = certain-again headline promised.certain;
      nothing_lost_by_place = nothing-lost-again c.order_law.ensures.missing promised.nothing_lost;
    }
