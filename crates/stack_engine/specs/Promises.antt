-- The promises of a history, under their premises.
use Rattle.std.specs.Prelude.{List}
use Rattle.stack_engine.specs.Faithful.{Faithful, NothingLost}
use Rattle.stack_engine.specs.Freshness.{AllFresh}
use Rattle.stack_engine.specs.Headline.{Headline}
use Rattle.stack_engine.specs.Pairs.{Event, start, run}
use Rattle.stack_engine.specs.Premise.{Genuine}
use Rattle.stack_engine.specs.Settled.{Certain, ConfirmedTaken, Settled}

-- what the history of a pair promises at any time: the world that it leads to
pub record Promises (es : List Event) : Type 0 where
  pub headline : Genuine es start → Headline (run es start)  -- each takes a prefix of what its partner put
  pub fresh : Genuine es start → AllFresh es start  -- what is taken is fresh
  pub confirmed : Genuine es start → ConfirmedTaken (run es start)  -- what neither waits nor is unconfirmed was taken
  pub settled : Genuine es start → Settled (run es start)  -- at a settled end, everything put was taken
  -- the first telegrams put, as many as are counted as confirmed, were taken
  pub certain : Genuine es start → Certain (run es start)
  pub nothing_lost : Faithful es → NothingLost (run es start)  -- no retransmission is requested, and nothing is lost
