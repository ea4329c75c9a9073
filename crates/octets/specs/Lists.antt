-- Parts of a list.
use Rattle.std.specs.Prelude.{◌≡◌, List, ◌++◌}

-- the first list is a prefix of the second; the empty list and the whole list are prefixes too
abbrev pub IsBeginning : {X : Type 0} → List X → List X → Type 0
IsBeginning {X} front whole = (rest : List X) × (front ++ rest ≡ whole)
