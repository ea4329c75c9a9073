-- The units that were sent and are not confirmed, as a list with rising numbers (safety and retransmission layer).
use Rattle.std.specs.Prelude.{◌≡◌, ℕ, ◌+◌, ◌^◌, ◌<◌, ◌≤◌, nat_lt, nat_le, List, [], ◌∷◌, length, map, filter, Option, Some, None}
use Rattle.std.specs.List.{AllPairs}
use Rattle.std.specs.Borrow.{Bor}
use Rattle.arrayvec.specs.ArrayVec.{ArrayVec}
use Rattle.circular_buffer.specs.Buffer.{Buffer}

-- The bytes of a unit, with the number of the PDU that carried it last.
pub record Numbered : Type 0 where
  pub number : ℕ
  pub octets : List ℕ

-- What a ring keeps.
pub record Kept : Type 0 where
  -- How many units there is room for.
  pub room : ℕ
  -- The units, the one sent first at the front.
  pub units : List Numbered

-- Each number is below all later ones.
pub record Rises (units : List Numbered) : Type 0 where
  pub pairs : AllPairs (λ (u v : Numbered). u.number < v.number) units

-- The units with greater numbers, which remain if everything up to a number is confirmed.
abbrev pub above : ℕ → List Numbered → List Numbered
above number units = filter (λ (u : Numbered). nat_lt number u.number) units

-- The other units, which are then confirmed.
abbrev pub up_to : ℕ → List Numbered → List Numbered
up_to number units = filter (λ (u : Numbered). nat_le u.number number) units

-- The bytes of units, without their numbers.
abbrev pub octets_of : List Numbered → List (List ℕ)
octets_of units = map (λ (u : Numbered). u.octets) units

-- Units under consecutive numbers.
abbrev pub renumber_units : ℕ → List (List ℕ) → List Numbered
renumber_units first [] = []
renumber_units first (octets ∷ units) = record { number = first; octets = octets } ∷ renumber_units (first + 1) units

-- A unit as it is stored, after its number.
abbrev pub Stored : Type 0
Stored = ℕ × ArrayVec ℕ

-- A stored unit as a value.
abbrev pub unit_value : Stored → Numbered
unit_value u = record { number = u.0; octets = u.1.items }

-- A list of stored units as values.
abbrev pub unit_values : List Stored → List Numbered
unit_values units = map unit_value units

-- Every place of the ring holds something, and `count` of them are in use.
pub record IsRing (places : Buffer Stored) (count : ℕ) : Type 0 where
  pub full : length places.items ≡ places.capacity
  pub few : count ≤ places.capacity
  pub fits : places.capacity < 2 ^ 64

-- A result, without its place in memory.
abbrev pub seen_of : Option (Bor Stored) → Option Numbered
seen_of None = None
seen_of (Some u) = Some (unit_value u.now)
