-- Both ends with all their incarnations, as the code keeps them.
use Rattle.std.specs.Prelude.{◌≡◌, List}
use Rattle.safe_machine.specs.World.{Side}
use Rattle.safe_machine.specs.World.Side.{Il, Fe}
use Rattle.stack_end.specs.Ends.{EndState}
use Rattle.stack_end.specs.Steps.{call}
use Rattle.stack_engine.specs.declared.sides.Sides.{Sides}
use Rattle.stack_engine.specs.Bounds.{FewMore}
use Rattle.stack_engine.specs.Joins.{joins_of, joins_in}
use Rattle.stack_engine.specs.Openings.{SideRepresents}
use Rattle.stack_engine.specs.Pairs.{World, Event, change_world, ends_of, present}
use Rattle.stack_engine.specs.Pairs.Event.{Open, Calls}
use Rattle.stack_engine.specs.Premise.{AtOpened}

-- what the code keeps represents the world
pub record SidesRepresent {A : Type 0} (s : Sides A) (w : World) : Type 0 where
  pub il : SideRepresents s.il w.ils  -- the incarnations of the interlocking
  pub fe : SideRepresents s.fe (ends_of w.fes)  -- the incarnations of the field element
  pub joins : joins_of s.fe ≡ joins_in w.fes  -- the joins
  pub dead_il : s.dead_il ≡ w.dead_il  -- how many PDUs of the interlocking are dead
  pub dead_fe : s.dead_fe ≡ w.dead_fe  -- how many of the field element are

-- the incarnations of a side, the latest first
abbrev pub ends_at : Side → World → List EndState
ends_at Il w = w.ils
ends_at Fe w = ends_of w.fes

-- a call makes no more than the bounds allow
abbrev pub FewAt : Event → World → Type 0
FewAt (Open side s first now) w = Unit {0}
FewAt (Calls side c) w = AtOpened (λ x. FewMore x (call c x)) (present side w)

-- of each world that it represented it now represents the one after the event
abbrev pub SidesTakeEvent : {A : Type 0} → Event → Sides A → Sides A → Type 0
SidesTakeEvent e s t = (w : World) → SidesRepresent s w → FewAt e w → SidesRepresent t (change_world e w)
