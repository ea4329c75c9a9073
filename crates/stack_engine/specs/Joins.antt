-- Which incarnations are joined, as the code keeps it.
use Rattle.std.specs.Prelude.{ℕ, Option, Some, None, List, [], ◌∷◌, map, reverse}
use Rattle.stack_end.specs.Ends.{EndState}
use Rattle.stack_engine.specs.declared.incarnation.Incarnation.{Incarnation}
use Rattle.stack_engine.specs.declared.openings.Openings.{Openings}
use Rattle.stack_engine.specs.declared.past.Past.{Past}
use Rattle.stack_engine.specs.Pairs.{JoinedEnd}

-- the join of an earlier incarnation
abbrev pub joined_of : {A : Type 0} → Past A → Option ℕ
joined_of p = p.joined

-- the joins of the present incarnation and of the earlier ones; without a present one there are none
abbrev pub joins_with : {A : Type 0} → Option (Incarnation A) → List (Option ℕ) → List (Option ℕ)
joins_with None before = []
joins_with (Some i) before = i.joined ∷ before

-- the joins of all incarnations of an end that was opened, the latest first
abbrev pub joins_of : {A : Type 0} → Openings A → List (Option ℕ)
joins_of o = joins_with o.present (map joined_of (reverse o.before.items))

-- the join of a field element's state
abbrev pub join_of : JoinedEnd → Option ℕ
join_of f = f.joined

-- the joins of all field element states, the latest first
abbrev pub joins_in : List JoinedEnd → List (Option ℕ)
joins_in fes = map join_of fes

-- the ConnReq that the present incarnation accepted
abbrev pub request_in : Option EndState → Option (List ℕ)
request_in None = None
request_in (Some x) = x.request

-- the latest incarnation is joined to this number; the others are joined as before
abbrev pub join_latest : Option ℕ → List (Option ℕ) → List (Option ℕ)
join_latest joined [] = []
join_latest joined (old ∷ before) = joined ∷ before
