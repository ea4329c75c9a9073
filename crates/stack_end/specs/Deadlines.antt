-- When the first timer of an end runs out if nothing arrives, and what a tick does before that.
use Rattle.std.specs.Prelude.{◌≡◌, ◌≢◌, ◌⊎◌, ℕ, min, true, Option, Some, None, []}
use Rattle.red_layer.specs.Redundancy.{Tick as RedTick, after, is_due, parts_passed}
use Rattle.safe_machine.specs.Turns.{still, tick_turn}
use Rattle.stack_end.specs.Turns.{Inside}

-- the earlier of two deadlines
abbrev pub earliest : Option ℕ → Option ℕ → Option ℕ
earliest None b = b
earliest (Some a) None = Some a
earliest (Some a) (Some b) = Some (min a b)

-- a tick at this time changes no layer of the end, and no part goes up
pub record IsQuiet (now : ℕ) (v : Inside) : Type 0 where
  pub machine : tick_turn now v.upper.machine ≡ still v.upper.machine  -- the machine sends nothing and stays as it is
  pub red : after (RedTick now) v.red ≡ v.red  -- the redundancy layer stays as it is
  pub none : parts_passed (RedTick now) v.red ≡ []  -- no part goes up

-- at this time a tick changes the machine, or T_seq of the redundancy layer has passed
abbrev pub HasFallen : ℕ → Inside → Type 0
HasFallen now v = ((tick_turn now v.upper.machine).left ≢ v.upper.machine) ⊎ (is_due now v.red ≡ true)
