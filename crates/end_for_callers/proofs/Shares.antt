-- Places set aside: what a datagram takes of them.
use Rattle.std.proofs.Common.{◌≡◌, ℕ, ◌+◌, ◌≤◌, arith}
use Rattle.std.proofs.lemmas.Bool.Decides.{nat_tests}
use Rattle.std.specs.Prelude.{◌==◌, if◌then◌else◌}
use Rattle.end_for_callers.specs.Boxes.{share_of, sum_of_shares, spent_on}
use Rattle.end_for_callers.specs.declared.outbox.Shares.{Shares}

-- no more than there were
pub spent-least : (channel : ℕ) (s : Shares) → sum_of_shares (spent_on channel s) ≤ sum_of_shares s
spent-least channel s = omega arith

-- one less, if the channel has one
pub spent-own : (channel : ℕ) (s : Shares) → 1 ≤ share_of s channel
    → sum_of_shares (spent_on channel s) + 1 ≡ sum_of_shares s
spent-own channel s h = grind (arith, nat_tests)

-- the other channels keep theirs
pub spent-others : (channel k : ℕ) (s : Shares)
    → share_of s k ≤ share_of (spent_on channel s) k + (if k == channel then 1 else 0)
spent-others channel k s = grind (arith, nat_tests)
