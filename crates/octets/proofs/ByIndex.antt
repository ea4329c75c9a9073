-- Lists of bytes in the form that the checker uses for slices, as the lemmas on fields need it.
use Rattle.std.proofs.Common.{◌<◌, ℕ, zero, suc, List, [], ◌∷◌, arith}
use Rattle.octets.specs.Octets.{AreOctets}
use Rattle.octets.proofs.Fields.{FitOctets}

pub fit-octets : (xs : List ℕ) → AreOctets xs → FitOctets xs
fit-octets [] h i = omega arith
fit-octets (x ∷ xs) h zero = let lt : x < 256 = h.0 in omega (arith, lt)
fit-octets (x ∷ xs) h (suc i) = fit-octets xs h.1 i
