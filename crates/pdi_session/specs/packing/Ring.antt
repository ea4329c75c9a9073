-- The messages in a ring of 64 places, the oldest one in the first place.
use Rattle.std.specs.Prelude.{◌≡◌, ℕ, ◌≤◌, List, ◌∷◌, ◌++◌, length, map}
use Rattle.arrayvec.specs.ArrayVec.{ArrayVec}
use Rattle.circular_buffer.specs.Buffer.{Buffer}
use Rattle.octets.specs.declared.limits.TheConstants.{WAITING_MAX}
use Rattle.pdi_session.specs.packing.UnitText.{IsMessage, piece}

-- what places hold
abbrev pub messages_of_places : List (ArrayVec ℕ) → List (List ℕ)
messages_of_places places = map (λ (p : ArrayVec ℕ). p.items) places

-- there are 64 places, and at most as many messages
pub record IsRing (places : Buffer (ArrayVec ℕ)) (count : ℕ) : Type 0 where
  pub full : length places.items ≡ WAITING_MAX
  pub room : places.capacity ≡ WAITING_MAX
  pub few : count ≤ WAITING_MAX

-- the oldest message has moved from the waiting ones to the end of a unit
pub record IsMoved (waiting : List (List ℕ)) (unit : List ℕ) (left : List (List ℕ)) (more : List ℕ) : Type 0 where
  -- the message
  pub message : List ℕ
  -- it was the oldest; the others still wait
  pub first : waiting ≡ message ∷ left
  -- it has 43 to 400 bytes
  pub sized : IsMessage message
  -- the unit has grown by its length and the message
  pub put : more ≡ unit ++ piece message
