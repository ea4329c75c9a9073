-- The law of a way: each recorded datagram is counted once or waits.
use Rattle.std.specs.Prelude.{◌≡◌, ℕ, ◌+◌, ◌-◌, ◌*◌, ◌^◌, ◌<◌, length, Option}
use Rattle.capture_beside.specs.declared.delays.TheConstants.{BUCKETS, MIDDLE, WIDTH}
use Rattle.capture_beside.specs.declared.queue.TheConstants.{WAITING}
use Rattle.capture_beside.specs.declared.queue.Queue.{Queue}
use Rattle.capture_beside.specs.declared.queue.WaitingDatagram.{WaitingDatagram}
use Rattle.capture_beside.specs.declared.sites.TheConstants.{EVEN}
use Rattle.capture_beside.specs.declared.sites.Extent.{Extent}
use Rattle.capture_beside.specs.declared.sites.Site.{Site}
use Rattle.capture_beside.specs.declared.sites.Site.TheVariants.{Here, There}
use Rattle.capture_beside.specs.declared.sums.Sums.{Sums}
use Rattle.capture_beside.specs.declared.sums.Tally.{Tally}
use Rattle.capture_beside.specs.Sums.{count_recorded}
use Rattle.capture_beside.specs.Ways.{give_up_list, here_after, outcome_of, count_outcome, there_after}

-- each datagram that a site recorded is in a pair, missing in the other recording, outside of it, or waits
abbrev pub AddsUp : Tally → ℕ → ℕ → Type 0
AddsUp t both waiting = t.recorded ≡ both + t.alone + t.outside + waiting

-- that holds of both sites, of which so many wait
abbrev pub AllAddUp : Sums → ℕ → ℕ → Type 0
AllAddUp s here there = AddsUp s.here s.both here × AddsUp s.there s.both there

-- both sites recorded fewer than 2^64 - 1
abbrev pub HasRoom : Sums → Type 0
HasRoom s = (s.here.recorded < 2 ^ 64 - 1) × (s.there.recorded < 2 ^ 64 - 1)

-- a datagram that arrives keeps that
abbrev pub ArrivalsAddUp : Type 0
ArrivalsAddUp =
    (site : Site) (a : WaitingDatagram) (here there : Queue) (shift : ℕ) (e : Option Extent) (s : Sums) → HasRoom s
    → AllAddUp s (length here.waiting.items) (length there.waiting.items)
    → AllAddUp (count_outcome site a (outcome_of site a.fingerprint here there) shift e (count_recorded site s))
    (length (here_after site a here there))
    (length (there_after site a here there))

-- so do those that are given up at the end, and then none waits
abbrev pub ClosingAddsUp : Type 0
ClosingAddsUp =
    (here there : Queue) (shift : ℕ) (e f : Option Extent) (s : Sums) → HasRoom s
    → AllAddUp s (length here.waiting.items) (length there.waiting.items)
    → AllAddUp (give_up_list There there.waiting.items shift e (give_up_list Here here.waiting.items shift f s)) 0 0

-- the limits, as numbers: 4,096 datagrams are more than are on their way at once, and bound the clocks' difference;
-- buckets of 0.1 ms reach one second to either side, the difference of equal times is in the middle of 64 bits
abbrev pub LimitsAre : Type 0
LimitsAre = (WAITING ≡ 4096) × (BUCKETS ≡ 2 * MIDDLE + 1) × (MIDDLE * WIDTH ≡ 1000000) × (EVEN ≡ 2 ^ 63)
