-- The promises of a history, second form: each under the second form of its premise. `promises_law` proves it equal to
-- the first form, Promises.
use Rattle.std.specs.Prelude.{List}
use Rattle.stack_engine.specs.Pairs.{Event, start, run}
use Rattle.stack_engine.specs.PremiseByPlace.{FaithfulByPlace, GenuineByPlace}
use Rattle.stack_engine.specs.HeadlineByPlace.{HeadlineByPlace}
use Rattle.stack_engine.specs.FreshByPlace.{FreshByPlace}
use Rattle.stack_engine.specs.SettledByPlace.{CertainByPlace, ConfirmedByPlace, SettledByPlace}
use Rattle.stack_engine.specs.NothingLostByPlace.{NothingLostByPlace}

-- what a list of events promises if it is genuine by place
pub record GenuinePromises (es : List Event) : Type 0 where
  pub headline : HeadlineByPlace (run es start)  -- each telegram taken is the one put at its place
  pub fresh : FreshByPlace es start  -- what is taken is fresh
  pub confirmed : ConfirmedByPlace (run es start)  -- everything put is accounted for
  pub settled : SettledByPlace (run es start)  -- at an end that is done, everything put was taken
  pub certain : CertainByPlace (run es start)  -- the first telegrams put were taken, as many as are confirmed

-- what it promises, and what it promises besides if it is faithful by place
pub record PromisesByPlace (es : List Event) : Type 0 where
  pub genuine : GenuineByPlace es start → GenuinePromises es  -- of a genuine list
  pub faithful : FaithfulByPlace es → NothingLostByPlace (run es start)  -- of a faithful list: nothing is lost
