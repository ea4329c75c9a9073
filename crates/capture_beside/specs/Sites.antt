-- Times of two recordings.
use Rattle.std.specs.Prelude.{ℕ, ◌+◌, ◌-◌, ◌^◌, ◌||◌, Bool, true, nat_le, nat_lt, min, max, if◌then◌else◌, Option, Some, None}
use Rattle.capture_beside.specs.declared.sites.TheConstants.{EVEN}
use Rattle.capture_beside.specs.declared.sites.Extent.{Extent}
use Rattle.capture_beside.specs.declared.sites.Site.{Site}
use Rattle.capture_beside.specs.declared.sites.Site.TheVariants.{Here, There}

-- the time there less the time here; equal times have the difference EVEN
abbrev pub difference_of : ℕ → ℕ → ℕ
difference_of here there = if nat_le here there then min (EVEN + (there - here)) (2 ^ 64 - 1) else EVEN - (here - there)

-- the extent of a recording with one more frame
abbrev pub extent_with : Option Extent → ℕ → Extent
extent_with None time = record { first = time; last = time }
extent_with (Some e) time = record { first = min e.first time; last = max e.last time }

-- a time of a site, in the clock of the other recording, is before its first frame or after its last one
abbrev pub is_outside_of : Site → ℕ → ℕ → Option Extent → Bool
is_outside_of site time shift None = true
is_outside_of Here time shift (Some e) =
    nat_lt shift (difference_of time e.first) || nat_lt (difference_of time e.last) shift
is_outside_of There time shift (Some e) =
    nat_lt (difference_of e.first time) shift || nat_lt shift (difference_of e.last time)
