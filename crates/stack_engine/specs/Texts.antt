-- Texts with heads, and the room for more.
use Rattle.std.specs.Prelude.{ℕ, List}

-- the value of a list of texts
pub record Shelf (T : Type 0) : Type 0 where
  pub texts : List (T × List ℕ)  -- the texts, each with its head
  pub places : ℕ  -- for how many more texts there is room
  pub octets : ℕ  -- for how many of their bytes there is room
