-- Words of the second forms of the promises: places of incarnations, telegrams and PDUs.
use Rattle.std.specs.Prelude.{ℕ, ◌+◌, ◌<◌, ◌≤◌, ◌≡◌, Some, List, length}
use Rattle.std.specs.List.{slice_get}

-- x is the incarnation with this number: the list has the latest first, and the first opening has number 1
pub record IsOpened {A : Type 0} (all : List A) (number : ℕ) (x : A) : Type 0 where
  pub place : ℕ  -- its place in the list
  pub there : slice_get all place ≡ Some x  -- it is at this place
  pub counted : number + place ≡ length all  -- place and number go together

-- the first elements of one list, as many as counted, are at the same places in the other
pub record AgreeUpTo {A : Type 0} (count : ℕ) (these there : List A) : Type 0 where
  pub enough : count ≤ length there  -- the other has as many
  pub same : (n : ℕ) → n < count → slice_get these n ≡ slice_get there n  -- each is at its place
