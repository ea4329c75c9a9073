-- Four words of a block as the code keeps them, with the constant of their round already added.
use Rattle.std.specs.Prelude.{◌≡◌, ℕ, ◌+◌, ◌%◌, ◌^◌, List, slice_index}
use Rattle.md4.specs.Digest.{Round}

-- each of the four words of `row` is that of `words` plus the round's constant, modulo 2 ^ 32
pub record HasAdded (round : Round) (words row : List ℕ) : Type 0 where
  pub first : slice_index row 0 ≡ (slice_index words 0 + round.added) % 2 ^ 32
  pub second : slice_index row 1 ≡ (slice_index words 1 + round.added) % 2 ^ 32
  pub third : slice_index row 2 ≡ (slice_index words 2 + round.added) % 2 ^ 32
  pub fourth : slice_index row 3 ≡ (slice_index words 3 + round.added) % 2 ^ 32
