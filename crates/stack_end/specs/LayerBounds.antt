-- What the layers of an end keep of one another, so that each is called only as it allows.
use Rattle.std.specs.Prelude.{◌*◌, ◌≤◌}
use Rattle.octets.specs.declared.limits.TheConstants.{UNIT_MESSAGES}
use Rattle.pdi_session.specs.SessionStep.{FewWait}
use Rattle.safe_machine.specs.Properties.{index_step}
use Rattle.stack_end.specs.declared.layers.Layers.{Layers}

-- the bounds between the layers, an invariant of an end
pub record KeepsLayerBounds {C A : Type 0} (l : Layers C A) : Type 0 where
  -- the index of the peer's next PDU moves by at most 321 with each part
  pub reach : l.upper.machine.expected ≤ index_step * l.red.expected
  -- there is room among the waiting messages for the session's next one
  pub few : FewWait l.upper.session l.upper.waiting
  pub some : 1 ≤ l.upper.max  -- a unit takes at least one message
  pub most : l.upper.max ≤ UNIT_MESSAGES  -- and at most 3
