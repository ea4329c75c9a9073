-- The headline, first form, by prefixes: the telegrams that an application takes are a prefix of those put at the
-- joined end.
use Rattle.std.specs.Prelude.{ℕ, ◌+◌, ◌≡◌, ◌<◌, ◌⊎◌, ◌==◌, Option, Some, None, MatchOption, List, [], ◌∷◌, length, if◌then◌else◌}
use Rattle.octets.specs.Lists.{IsBeginning}
use Rattle.pdi_session.specs.SessionStep.{Item}
use Rattle.stack_end.specs.Ends.{EndState}
use Rattle.stack_engine.specs.Pairs.{World, JoinedEnd, Event, start, run}
use Rattle.stack_engine.specs.Premise.{Genuine, AreTyped}

-- the commands or status put at an end
abbrev pub put_at : EndState → List Item
put_at x = x.session.history.put

-- the commands or status that its application took
abbrev pub taken_at : EndState → List Item
taken_at x = x.session.history.taken

-- the incarnation with this number
abbrev pub incarnation : List EndState → ℕ → Option EndState
incarnation [] number = None
incarnation (x ∷ before) number = if number == length before + 1 then Some x else incarnation before number

-- a field element joined to none has taken nothing; of two that are joined, each has taken a prefix of what the other
-- put
abbrev pub TakesBeginnings : List EndState → EndState → Option ℕ → Type 0
TakesBeginnings ils f None = taken_at f ≡ []
TakesBeginnings ils f (Some number) =
    MatchOption (incarnation ils number) ⊥ (λ g. IsBeginning (taken_at f) (put_at g)
    × IsBeginning (taken_at g) (put_at f))

-- this of every incarnation of the field element
abbrev pub AllTakeBeginnings : List EndState → List JoinedEnd → Type 0
AllTakeBeginnings ils [] = Unit {0}
AllTakeBeginnings ils (f ∷ fs) = TakesBeginnings ils f.end f.joined × AllTakeBeginnings ils fs

-- joined to a number below the bound, or to none
abbrev pub JoinedBelow : ℕ → Option ℕ → Type 0
JoinedBelow bound None = Unit {0}
JoinedBelow bound (Some number) = number < bound

-- the bound for earlier incarnations
abbrev pub next_bound : ℕ → Option ℕ → ℕ
next_bound bound None = bound
next_bound bound (Some number) = number

-- later incarnations of the field element are joined to later ones of the interlocking, so none is joined to two
abbrev pub JoinsFall : ℕ → List JoinedEnd → Type 0
JoinsFall bound [] = Unit {0}
JoinsFall bound (f ∷ fs) = JoinedBelow bound f.joined × JoinsFall (next_bound bound f.joined) fs

-- some field element is joined to the interlocking with this number
abbrev pub IsJoined : ℕ → List JoinedEnd → Type 0
IsJoined number [] = ⊥
IsJoined number (f ∷ fs) = (f.joined ≡ Some number) ⊎ IsJoined number fs

-- an interlocking incarnation to which no field element is joined has taken nothing
abbrev pub OnlyJoinedTake : List JoinedEnd → List EndState → Type 0
OnlyJoinedTake fes [] = Unit {0}
OnlyJoinedTake fes (g ∷ before) = ((taken_at g ≡ []) ⊎ IsJoined (length before + 1) fes) × OnlyJoinedTake fes before

-- the three parts of the headline
pub record HeadlineOf (ils : List EndState) (fes : List JoinedEnd) : Type 0 where
  pub beginnings : AllTakeBeginnings ils fes  -- each takes a prefix of what its partner put
  pub joins_fall : JoinsFall (length ils + 1) fes  -- later ones are joined to later ones
  pub only_joined : OnlyJoinedTake fes ils  -- an interlocking without a partner takes nothing

-- the headline of a world
abbrev pub Headline : World → Type 0
Headline w = HeadlineOf w.ils w.fes

-- the headline holds after every genuine list of events
abbrev pub HeadlineLaw : Type 0
HeadlineLaw = (es : List Event) → AreTyped es → Genuine es start → Headline (run es start)
