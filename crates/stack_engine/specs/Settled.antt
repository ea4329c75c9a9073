-- Confirmed is taken, first form, by prefixes: each telegram that neither waits nor is in an unconfirmed unit was
-- taken, also at a closed end.
--
-- Also what follows from it: settled (everything was taken) and certain (the first telegrams put were taken).
use Rattle.std.specs.Prelude.{ℕ, ◌≡◌, ◌==◌, Bool, true, false, Option, Some, None, List, [], ◌∷◌, ◌++◌, length, take, if◌then◌else◌}
use Rattle.octets.specs.Lists.{IsBeginning}
use Rattle.pdi_session.specs.SessionStep.{Item}
pub use Rattle.stack_end.specs.Certain.{
  found_messages,
  found_telegram,
  items_unconfirmed,
  items_waiting,
  messages_in,
  telegrams_in,
}
use Rattle.stack_end.specs.Certain.{confirmed_of}
use Rattle.stack_end.specs.Ends.{EndState, is_settled}
use Rattle.stack_engine.specs.Pairs.{World, JoinedEnd, Event, start, run, latest}
use Rattle.stack_engine.specs.Premise.{AtOpened, Genuine, AreTyped}
use Rattle.stack_engine.specs.Headline.{put_at, taken_at, incarnation}

-- the telegrams put are, in order: a prefix of those that the joined end took, the unconfirmed ones, and those that
-- wait
abbrev pub WasTaken : EndState → List Item → Type 0
WasTaken x taken =
    (confirmed : List Item) × IsBeginning confirmed taken
    × (put_at x ≡ confirmed ++ items_unconfirmed x ++ items_waiting x)

-- what an end took, if there is one
abbrev pub taken_by : Option EndState → List Item
taken_by None = []
taken_by (Some x) = taken_at x

-- the join is to this number
abbrev pub is_number : ℕ → Option ℕ → Bool
is_number number None = false
is_number number (Some other) = other == number

-- what the field element took that is joined to the interlocking with this number: nothing if none is
abbrev pub taken_from_il : ℕ → List JoinedEnd → List Item
taken_from_il number [] = []
taken_from_il number (f ∷ fs) = if is_number number f.joined then taken_at f.end else taken_from_il number fs

-- what the interlocking took to which a field element is joined: nothing if it is joined to none
abbrev pub taken_from_fe : List EndState → Option ℕ → List Item
taken_from_fe ils None = []
taken_from_fe ils (Some number) = taken_by (incarnation ils number)

-- confirmed is taken, of the present interlocking
abbrev pub IlTaken : World → Type 0
IlTaken w = AtOpened (λ g. WasTaken g (taken_from_il (length w.ils) w.fes)) (latest w.ils)

-- confirmed is taken, of the present field element
abbrev pub FeTaken : List EndState → List JoinedEnd → Type 0
FeTaken ils [] = Unit {0}
FeTaken ils (f ∷ fs) = WasTaken f.end (taken_from_fe ils f.joined)

-- confirmed is taken, of both present ends
abbrev pub ConfirmedTaken : World → Type 0
ConfirmedTaken w = IlTaken w × FeTaken w.ils w.fes

-- confirmed is taken after every genuine list of events
abbrev pub ConfirmedTakenLaw : Type 0
ConfirmedTakenLaw = (es : List Event) → AreTyped es → Genuine es start → ConfirmedTaken (run es start)

-- if the end is settled, everything put there is a prefix of what the other took
abbrev pub SettledAt : EndState → List Item → Type 0
SettledAt x taken = is_settled x ≡ true → IsBeginning (put_at x) taken

-- settled, of the present field element
abbrev pub SettledFe : List EndState → List JoinedEnd → Type 0
SettledFe ils [] = Unit {0}
SettledFe ils (f ∷ fs) = SettledAt f.end (taken_from_fe ils f.joined)

-- settled, of both present ends
abbrev pub Settled : World → Type 0
Settled w = AtOpened (λ g. SettledAt g (taken_from_il (length w.ils) w.fes)) (latest w.ils) × SettledFe w.ils w.fes

-- settled holds after every genuine list of events
abbrev pub SettledLaw : Type 0
SettledLaw = (es : List Event) → AreTyped es → Genuine es start → Settled (run es start)

-- the first telegrams put at the end, as many as it counts as confirmed, are a prefix of what the other took
abbrev pub CertainAt : EndState → List Item → Type 0
CertainAt x taken = IsBeginning (take (confirmed_of x) (put_at x)) taken

-- certain, of the present field element
abbrev pub CertainFe : List EndState → List JoinedEnd → Type 0
CertainFe ils [] = Unit {0}
CertainFe ils (f ∷ fs) = CertainAt f.end (taken_from_fe ils f.joined)

-- certain, of both present ends
abbrev pub Certain : World → Type 0
Certain w = AtOpened (λ g. CertainAt g (taken_from_il (length w.ils) w.fes)) (latest w.ils) × CertainFe w.ils w.fes

-- certain holds after every genuine list of events
abbrev pub CertainLaw : Type 0
CertainLaw = (es : List Event) → AreTyped es → Genuine es start → Certain (run es start)
