-- Parts with their numbers, deferred or passed up.
use Rattle.std.specs.Prelude.{ℕ, ◌<◌, List, [], ◌∷◌, Bool, true, false, ⊤}

-- a sequence number and the payload that came under it
abbrev pub Part : Type 0
Part = ℕ × List ℕ

-- deferred parts as their bytes
abbrev pub map_parts : {T : Type 0} → (T → List ℕ) → List (ℕ × T) → List Part
map_parts octets [] = []
map_parts octets (e ∷ es) = (e.0, octets e.1) ∷ map_parts octets es

-- each number is below `high`
abbrev pub IsBelow : {T : Type 0} → ℕ → List (ℕ × T) → Type 0
IsBelow high [] = ⊤
IsBelow high (e ∷ es) = (e.0 < high) × IsBelow high es

-- the list is empty
abbrev pub is_nil : {X : Type 0} → List X → Bool
is_nil [] = true
is_nil (x ∷ xs) = false
