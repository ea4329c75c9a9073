-- A finite map from sequence numbers to parts: the deferral queue of the redundancy layer. It is the list of its
-- entries with rising numbers, so that two lists are equal if and only if the maps are, and the least number is the
-- first.
use Rattle.std.specs.Prelude.{◌≡◌, ℕ, ◌+◌, ◌≤◌, ◌==◌, nat_le, Bool, false, ◌||◌, List, [], ◌∷◌, Option, Some, None, ⊤, if◌then◌else◌}

-- the numbers rise strictly, from `low` on
abbrev pub Rises : {T : Type 0} → ℕ → List (ℕ × T) → Type 0
Rises low [] = ⊤
Rises low (e ∷ es) = (low ≤ e.0) × Rises (e.0 + 1) es

-- the map with x added under n, which it did not have
abbrev pub put_in : {T : Type 0} → ℕ → T → List (ℕ × T) → List (ℕ × T)
put_in n x [] = (n, x) ∷ []
put_in n x (e ∷ es) = if nat_le n e.0 then (n, x) ∷ e ∷ es else e ∷ put_in n x es

-- the map without the entry under n
abbrev pub take_out : {T : Type 0} → ℕ → List (ℕ × T) → List (ℕ × T)
take_out n [] = []
take_out n (e ∷ es) = if e.0 == n then es else e ∷ take_out n es

-- the part under n, if there is one
abbrev pub part_under : {T : Type 0} → ℕ → List (ℕ × T) → Option T
part_under n [] = None
part_under n (e ∷ es) = if e.0 == n then Some e.1 else part_under n es

-- the map has an entry under n
abbrev pub has_number : {T : Type 0} → ℕ → List (ℕ × T) → Bool
has_number n [] = false
has_number n (e ∷ es) = (e.0 == n) || has_number n es

-- the least number, if there is one
abbrev pub least_of : {T : Type 0} → List (ℕ × T) → Option ℕ
least_of [] = None
least_of (e ∷ es) = Some e.0

-- a deferral table as its callers see it
pub record Table (T : Type 0) : Type 0 where
  -- the number of places
  pub room : ℕ
  -- the map of the parts in them
  pub waiting : List (ℕ × T)

-- the entries in the places of a table, in the order of their numbers and not of the places
abbrev pub entries_of : {T : Type 0} → List (Option (ℕ × T)) → List (ℕ × T)
entries_of [] = []
entries_of (None ∷ places) = entries_of places
entries_of (Some e ∷ places) = put_in e.0 e.1 (entries_of places)

-- the place holds a part under n
abbrev pub IsUnder : {T : Type 0} → ℕ → Option (ℕ × T) → Type 0
IsUnder n None = ⊥
IsUnder n (Some e) = e.0 ≡ n
