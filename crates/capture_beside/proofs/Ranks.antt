-- The bucket of a rank, bucket by bucket.
use Rattle.std.proofs.Common.{◌≡◌, ◌≢◌, ℕ, ◌+◌, ◌-◌, ◌<◌, ◌≤◌, suc, Bool, true, false, nat_le, List, [], ◌∷◌, length, drop, slice_index_or, refl, arith}
use Rattle.std.proofs.Math.Seq.{drop-cons}
use Rattle.std.proofs.lemmas.List.{drop_all}
use Rattle.capture_beside.specs.Delays.{place_at_rank}

-- Behind a bucket that has fewer, the bucket of the rank is one further.
pub further : (rank : ℕ) (counts : List ℕ) (place : ℕ) → place < length counts → slice_index_or counts place 0 < rank
    → place + place_at_rank rank (drop place counts) ≡ suc place + place_at_rank (rank - slice_index_or counts place 0)
    (drop (suc place) counts)
further rank counts place within more =
    let cut = drop-cons counts place 0 within in
    grind (arith, cut)

-- In a bucket that has as many, it is this one.
pub here : (rank : ℕ) (counts : List ℕ) (place : ℕ) → place < length counts → rank ≤ slice_index_or counts place 0
    → place + place_at_rank rank (drop place counts) ≡ place
here rank counts place within enough =
    let cut = drop-cons counts place 0 within in
    grind (arith, cut)

-- Behind the last bucket there is none.
pub last : (rank : ℕ) (counts : List ℕ) (place : ℕ) → length counts ≤ place → place_at_rank rank (drop place counts) ≡ 0
last rank counts place behind =
    let none = drop_all place counts behind in
    grind (arith, none)
