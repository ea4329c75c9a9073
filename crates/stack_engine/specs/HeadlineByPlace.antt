-- The headline, second form, by places. `promises_law` proves it equal to the first form, Headline.
use Rattle.std.specs.Prelude.{ℕ, ◌<◌, ◌≡◌, ◌≢◌, Some, None, List, [], length}
use Rattle.stack_end.specs.Ends.{EndState}
use Rattle.stack_engine.specs.Pairs.{World, JoinedEnd, Event, start, run}
use Rattle.stack_engine.specs.Premise.{AreTyped}
use Rattle.stack_engine.specs.PremiseByPlace.{GenuineByPlace}
use Rattle.stack_engine.specs.ByPlace.{IsOpened, AgreeUpTo}

-- each telegram that x took is the one put at y at the same place
abbrev pub TakesInPlace : EndState → EndState → Type 0
TakesInPlace x y = AgreeUpTo (length x.session.history.taken) x.session.history.taken y.session.history.put

-- the interlocking that a field element is joined to, and what both took of one another
pub record HasPartner (ils : List EndState) (number : ℕ) (fe : EndState) : Type 0 where
  pub il : EndState  -- the interlocking
  pub opened : IsOpened ils number il  -- it is the incarnation with this number
  pub commands : TakesInPlace fe il  -- what the field element took
  pub status : TakesInPlace il fe  -- what the interlocking took

-- the headline of a world, second form
pub record HeadlineByPlace (w : World) : Type 0 where
  -- a joined field element has its partner, and each took what the other put
  pub partners : (i n : ℕ) (f : JoinedEnd) → IsOpened w.fes i f → f.joined ≡ Some n → HasPartner w.ils n f.end
  -- a later field element is joined to a later interlocking
  pub later_with_later : (i j m n : ℕ) (e f : JoinedEnd) → IsOpened w.fes i e → IsOpened w.fes j f → e.joined ≡ Some m
      → f.joined ≡ Some n → i < j → m < n
  -- a field element joined to none took nothing
  pub lone_fe : (i : ℕ) (f : JoinedEnd) → IsOpened w.fes i f → f.joined ≡ None → f.end.session.history.taken ≡ []
  -- an interlocking to which none is joined took nothing
  pub lone_il : (n : ℕ) (g : EndState) → IsOpened w.ils n g
      → ((i : ℕ) (f : JoinedEnd) → IsOpened w.fes i f → f.joined ≢ Some n) → g.session.history.taken ≡ []

-- the second form holds after every list of events that is genuine by place
abbrev pub HeadlineByPlaceLaw : Type 0
HeadlineByPlaceLaw = (es : List Event) → AreTyped es → GenuineByPlace es start → HeadlineByPlace (run es start)
