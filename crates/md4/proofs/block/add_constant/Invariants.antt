use Rattle.std.proofs.Common.{◌≡◌, ℕ, ◌+◌, ◌%◌, ◌^◌, ◌<◌, length, slice_index}
use Rattle.md4.proofs.block.add_constant.Given as goal

-- the words before this one are sums
abbrev pub invariant-words : goal.invariant-words
invariant-words l =
    (length l.sums ≡ 16) × ((k : ℕ) → k < l.i → slice_index l.sums k ≡ (slice_index l.w k + l.added) % 2 ^ 32)
