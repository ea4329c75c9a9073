-- The promises of a pair, for two programs.
use Rattle.std.specs.Prelude.{ℕ, ◌+◌, ◌≡◌, ◌⊎◌, ◌==◌, true, false, Option, Some, None, MatchOption, List, [], ◌∷◌, length, if◌then◌else◌}
use Rattle.octets.specs.Lists.{IsBeginning}
use Rattle.stack_end.specs.EndValue.{inside}
use Rattle.stack_end.specs.Turns.{is_settled}
use Rattle.stack_engine.specs.Freshness.{AllFresh}
use Rattle.stack_engine.specs.Headline.{JoinedBelow, next_bound}
use Rattle.stack_engine.specs.Joins.{joins_in}
use Rattle.stack_engine.specs.Pairs.{accepted_events, run, start}
use Rattle.stack_engine.specs.Premise.{AreTyped, Genuine}
use Rattle.stack_engine.specs.Settled.{is_number}
use Rattle.station_pair.specs.Network.{AllCarried, StationOpening, SameCode, both_open, session}
use Rattle.station_pair.specs.Stands.{ProgramsStand, seen_by}
use Rattle.station_pair.specs.Steps.{AllLater, AreSteps, Held, Programs, Step, events_of, no_programs, programs_after}

-- the stations represent the ends of a pair to which the calls happened as events
pub record Follows (steps : List Step) : Type 0 where
  pub accepted : accepted_events (events_of steps) start ≡ events_of steps  -- no event is refused
  -- the stations represent that pair's ends
  pub stands : ProgramsStand (programs_after steps no_programs) (run (events_of steps) start)

-- this holds for every list of calls of two programs that open a side again no earlier than its last call
abbrev pub FollowsLaw : Type 0
FollowsLaw = (steps : List Step) → AreSteps steps no_programs → AllLater steps no_programs → Follows steps

-- the station with this number, from 1
abbrev pub station : List Held → ℕ → Option Held
station [] number = None
station (h ∷ before) number = if number == length before + 1 then Some h else station before number

-- a station of the field element joined to none gave nothing; of two that are joined, each gave a prefix of what was
-- put at the other
abbrev pub GivesBeginnings : List Held → Held → Option ℕ → Type 0
GivesBeginnings ils f None = seen_by f ≡ []
GivesBeginnings ils f (Some number) =
    MatchOption (station ils number) ⊥ (λ g. IsBeginning (seen_by f) g.put × IsBeginning (seen_by g) f.put)

-- this of every station of the field element, with its join
abbrev pub AllGiveBeginnings : List Held → List Held → List (Option ℕ) → Type 0
AllGiveBeginnings ils [] [] = Unit {0}
AllGiveBeginnings ils (f ∷ fs) (j ∷ js) = GivesBeginnings ils f j × AllGiveBeginnings ils fs js
AllGiveBeginnings ils _ _ = ⊥

-- later stations of the field element are joined to later ones of the interlocking
abbrev pub Fall : ℕ → List (Option ℕ) → Type 0
Fall bound [] = Unit {0}
Fall bound (j ∷ js) = JoinedBelow bound j × Fall (next_bound bound j) js

-- some field element is joined to the interlocking with this number
abbrev pub NamesInterlocking : ℕ → List (Option ℕ) → Type 0
NamesInterlocking number [] = ⊥
NamesInterlocking number (j ∷ js) = (j ≡ Some number) ⊎ NamesInterlocking number js

-- a station of the interlocking to which no field element is joined gave nothing
abbrev pub OnlyJoinedGive : List (Option ℕ) → List Held → Type 0
OnlyJoinedGive joins [] = Unit {0}
OnlyJoinedGive joins (g ∷ before) =
    ((seen_by g ≡ []) ⊎ NamesInterlocking (length before + 1) joins) × OnlyJoinedGive joins before

-- the headline of two programs; the joins are those of the pair
pub record Headline (p : Programs) (joins : List (Option ℕ)) : Type 0 where
  pub beginnings : AllGiveBeginnings p.ils p.fes joins  -- each station gives a prefix of what was put at its partner
  pub joins_fall : Fall (length p.ils + 1) joins  -- later ones are joined to later ones
  pub only_joined : OnlyJoinedGive joins p.ils  -- an interlocking without a partner gives nothing

-- if a present station is settled, everything put there was given at its partner or waits there, unless a telegram was
-- lost there
abbrev pub IsThere : Held → Option Held → Type 0
IsThere h None = is_settled (inside h.station.end) ≡ true → h.put ≡ []
IsThere h (Some peer) = is_settled (inside h.station.end) ≡ true → peer.station.inbox.lost ≡ false
    → IsBeginning h.put (seen_by peer)

-- the station of the field element that is joined to the interlocking with this number
abbrev pub joined_to : ℕ → List Held → List (Option ℕ) → Option Held
joined_to number (f ∷ fs) (j ∷ js) = if is_number number j then Some f else joined_to number fs js
joined_to number _ _ = None

-- the station of the interlocking that a field element is joined to
abbrev pub joined_by : List Held → Option ℕ → Option Held
joined_by ils None = None
joined_by ils (Some number) = station ils number

-- this of the present interlocking
abbrev pub IlThere : List Held → List Held → List (Option ℕ) → Type 0
IlThere [] fes joins = Unit {0}
IlThere (g ∷ before) fes joins = IsThere g (joined_to (length before + 1) fes joins)

-- this of the present field element
abbrev pub FeThere : List Held → List Held → List (Option ℕ) → Type 0
FeThere ils (f ∷ fs) (j ∷ js) = IsThere f (joined_by ils j)
FeThere ils _ _ = Unit {0}

-- what two programs are promised
pub record Promises (steps : List Step) : Type 0 where
  -- each is given a prefix of what the other put
  pub headline : Headline (programs_after steps no_programs) (joins_in (run (events_of steps) start).fes)
  -- at a settled interlocking, all of it
  pub il_there : IlThere (programs_after steps no_programs).ils (programs_after steps no_programs).fes
      (joins_in (run (events_of steps) start).fes)
  -- at a settled field element, all of it
  pub fe_there : FeThere (programs_after steps no_programs).ils (programs_after steps no_programs).fes
      (joins_in (run (events_of steps) start).fes)
  -- what is taken is fresh
  pub fresh : AllFresh (events_of steps) start

-- the promises hold for every list of calls whose datagrams are genuine
abbrev pub PromisesLaw : Type 0
PromisesLaw = (steps : List Step) → AreSteps steps no_programs → AllLater steps no_programs → AreTyped (events_of steps)
    → Genuine (events_of steps) start → Promises steps

-- one session: the telegrams that each side was given, then those that wait for it, are a prefix of those put at the
-- other; if that one is settled, they are all
pub record Agree (il fe : Held) : Type 0 where
  -- the field element was given a prefix of the commands put
  pub commands : IsBeginning (seen_by fe) il.put
  -- the interlocking was given a prefix of the status put
  pub status : IsBeginning (seen_by il) fe.put
  -- all of them, if the interlocking is settled and the field element lost no telegram
  pub commands_there : is_settled (inside il.station.end) ≡ true → fe.station.inbox.lost ≡ false
      → IsBeginning il.put (seen_by fe)
  -- all of it, if the field element is settled and the interlocking lost no telegram
  pub status_there : is_settled (inside fe.station.end) ≡ true → il.station.inbox.lost ≡ false
      → IsBeginning fe.put (seen_by il)

-- this of two programs that opened one station each
abbrev pub BothAgree : List Held → List Held → Type 0
BothAgree (il ∷ []) (fe ∷ []) = Agree il fe
BothAgree _ _ = ⊥

-- two programs that open each side once agree, over a network that may lose, repeat, delay and reorder datagrams; it is
-- only asked that values are of their types, and that both have the same code length
abbrev pub SessionLaw : Type 0
SessionLaw =
    (fe il : StationOpening) (steps : List Step) → AreSteps (session fe il steps) no_programs → SameCode fe il
    → AllCarried steps (both_open fe il)
    → AreTyped (events_of (session fe il steps))
    → BothAgree (programs_after (session fe il steps) no_programs).ils
    (programs_after (session fe il steps) no_programs).fes
