-- The output of a chain of steps along a list. Each item moves a state and makes a list.
use Rattle.std.specs.Prelude.{List, [], ◌∷◌, ◌++◌}

-- the lists that all items make, concatenated in order; each is made in the state that the items before it leave
abbrev pub outputs : {V X Y : Type 0} → (V → X → V) → (V → X → List Y) → V → List X → List Y
outputs next out v [] = []
outputs next out v (x ∷ xs) = out v x ++ outputs next out (next v x) xs
