-- Confirmed is taken, settled and certain, second form, by counts and places. `promises_law` proves it equal to the
-- first form, Settled.
use Rattle.std.specs.Prelude.{ℕ, ◌+◌, ◌<◌, ◌≡◌, ◌≢◌, ◌⊎◌, Some, List, [], length}
use Rattle.std.specs.List.{slice_get}
use Rattle.safe_machine.specs.declared.ConnectionState.TheVariants.{Closed}
use Rattle.safe_machine.specs.World.{Side}
use Rattle.safe_machine.specs.World.Side.{Il, Fe}
use Rattle.pdi_session.specs.SessionStep.{Item}
use Rattle.stack_end.specs.Certain.{cap_count}
use Rattle.stack_end.specs.Ends.{EndState}
use Rattle.stack_engine.specs.Pairs.{World, JoinedEnd, Event, start, run, present}
use Rattle.stack_engine.specs.Premise.{AreTyped}
use Rattle.stack_engine.specs.PremiseByPlace.{GenuineByPlace}
use Rattle.stack_engine.specs.ByPlace.{IsOpened, AgreeUpTo}
use Rattle.stack_engine.specs.OpenUnits.{held_items, open_units}

-- the i-th incarnation of the field element is joined to the n-th of the interlocking
pub record AreJoined (w : World) (i n : ℕ) (fe il : EndState) : Type 0 where
  pub joined : JoinedEnd  -- the field element with its join
  pub opened : IsOpened w.fes i joined  -- it is the i-th
  pub is : joined.end ≡ fe  -- its state
  pub to : joined.joined ≡ Some n  -- it is joined to n
  pub il_opened : IsOpened w.ils n il  -- the interlocking is the n-th

-- y is joined to the present incarnation of a side
abbrev pub IsPartner : World → Side → EndState → Type 0
IsPartner w Il y = (i : ℕ) × (il : EndState) × AreJoined w i (length w.ils) y il
IsPartner w Fe y = (n : ℕ) × (fe : EndState) × AreJoined w (length w.fes) n fe y

-- what the partner took: nothing if there is none
abbrev pub PartnerTook : World → Side → List Item → Type 0
PartnerTook w side taken =
    ((y : EndState) × IsPartner w side y × (taken ≡ y.session.history.taken)) ⊎
    (((y : EndState) → IsPartner w side y → ⊥) × (taken ≡ []))

-- everything put at an end is accounted for: the first telegrams were taken, each at its place, and the end holds the
-- others
pub record IsAccountedFor (x : EndState) (taken : List Item) : Type 0 where
  pub sure : ℕ  -- how many were taken
  -- with those held they are all that were put
  pub counted : sure + length (held_items x) ≡ length x.session.history.put
  pub was_taken : AgreeUpTo sure x.session.history.put taken  -- each of the first was taken, at its place
  -- the others are held, in order
  pub is_held : (n : ℕ) → n < length (held_items x)
      → slice_get (held_items x) n ≡ slice_get x.session.history.put (sure + n)

-- everything put at a present end is accounted for, whether the end is open or closed
abbrev pub ConfirmedByPlace : World → Type 0
ConfirmedByPlace w =
    (side : Side) (x : EndState) (taken : List Item) → present side w ≡ Some x → PartnerTook w side taken
    → IsAccountedFor x taken

-- the end is not closed, no message waits, and no unit is open
pub record IsDone (x : EndState) : Type 0 where
  pub lives : x.machine.connection ≢ Closed  -- it is not closed
  pub no_message : x.session.waiting ≡ []  -- no message waits
  pub no_unit : open_units x ≡ []  -- no unit is open

-- if a present end is done, each command or status put there was taken, at its place
abbrev pub SettledByPlace : World → Type 0
SettledByPlace w =
    (side : Side) (x : EndState) (taken : List Item) → present side w ≡ Some x → PartnerTook w side taken →
    IsDone x → AgreeUpTo (length x.session.history.put) x.session.history.put taken

-- the telegram put at this place was taken, at its place
pub record WasTakenAt (n : ℕ) (put taken : List Item) : Type 0 where
  pub enough : n < length taken  -- something was taken at this place
  pub same : slice_get put n ≡ slice_get taken n  -- and it is what was put there

-- each telegram put at a present end was taken, at its place, if as many were put after it as the end holds
abbrev pub CertainByPlace : World → Type 0
CertainByPlace w =
    (side : Side) (x : EndState) (taken : List Item) → present side w ≡ Some x → PartnerTook w side taken →
    (n : ℕ) → n + length (held_items x) < cap_count (length x.session.history.put)
    → WasTakenAt n x.session.history.put taken

-- confirmed is taken, second form, holds after every list of events that is genuine by place
abbrev pub ConfirmedByPlaceLaw : Type 0
ConfirmedByPlaceLaw = (es : List Event) → AreTyped es → GenuineByPlace es start → ConfirmedByPlace (run es start)

-- settled, second form, holds after every list of events that is genuine by place
abbrev pub SettledByPlaceLaw : Type 0
SettledByPlaceLaw = (es : List Event) → AreTyped es → GenuineByPlace es start → SettledByPlace (run es start)

-- certain, second form, holds after every list of events that is genuine by place
abbrev pub CertainByPlaceLaw : Type 0
CertainByPlaceLaw = (es : List Event) → AreTyped es → GenuineByPlace es start → CertainByPlace (run es start)
