-- The first sequence number of an opening.
use Rattle.std.specs.Prelude.{◌≡◌, ℕ, Option, Some, None}

-- an opening takes this number from a source of numbers: that of its settings, if they have one, and then the source
-- stays as it is; else the next one that the source draws
abbrev pub TakesFirstNumber : {D : Type 0} → (draws : D → ℕ → D → Type 0) → Option ℕ → D → ℕ → D → Type 0
TakesFirstNumber draws (Some stated) before number after = (number ≡ stated) × (after ≡ before)
TakesFirstNumber draws None before number after = draws before number after
