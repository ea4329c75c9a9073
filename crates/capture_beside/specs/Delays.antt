-- How long datagrams took from one recording to the other.
use Rattle.std.specs.Prelude.{ℕ, ◌+◌, ◌-◌, ◌*◌, ◌/◌, ◌^◌, nat_le, nat_lt, min, suc, if◌then◌else◌, List, [], ◌∷◌, length, slice_index_or, slice_set, Option, Some, None}
use Rattle.capture_beside.specs.declared.delays.TheConstants.{MIDDLE, WIDTH}
use Rattle.capture_beside.specs.declared.delays.Spread.{Spread}
use Rattle.capture_beside.specs.declared.sites.Site.{Site}
use Rattle.capture_beside.specs.declared.sites.Site.TheVariants.{Here, There}
use Rattle.capture_beside.specs.Sums.{one_more}

-- the first difference, or this one
abbrev pub first_from : Option ℕ → ℕ → ℕ
first_from None difference = difference
first_from (Some first) difference = first

-- the bucket of a difference: as many from the middle as whole steps lie between it and the first one, those below
-- rounded down; the outermost buckets have all further ones
abbrev pub bucket_of : ℕ → ℕ → ℕ
bucket_of first difference =
    if nat_le first difference then MIDDLE + min ((difference - first) / WIDTH) MIDDLE
    else MIDDLE - min ((first - difference - 1) / WIDTH + 1) MIDDLE

-- the buckets with one more at a place
abbrev pub with_one : ℕ → List ℕ → List ℕ
with_one place counts =
    if nat_lt place (length counts) then slice_set counts place (one_more (slice_index_or counts place 0)) else counts

-- the least difference in a bucket
abbrev pub start_at : ℕ → ℕ → ℕ
start_at first place =
    if nat_le MIDDLE place then min (first + (place - MIDDLE) * WIDTH) (2 ^ 64 - 1)
    else first - (MIDDLE - place) * WIDTH

-- the first bucket up to which as many differences were counted as a rank says
abbrev pub place_at_rank : ℕ → List ℕ → ℕ
place_at_rank rank [] = 0
place_at_rank rank (count ∷ counts) = if nat_le rank count then 0 else suc (place_at_rank (rank - count) counts)

-- how far the difference of a rank is from the least one: from there to the start of its bucket
abbrev pub behind_least_of : ℕ → ℕ → ℕ → List ℕ → ℕ
behind_least_of first least rank counts = start_at first (place_at_rank rank counts) - least

-- how far it is from the greatest one: from the end of its bucket
abbrev pub before_greatest_of : ℕ → ℕ → ℕ → List ℕ → ℕ
before_greatest_of first greatest rank counts =
    greatest - min (start_at first (place_at_rank rank counts) + (WIDTH - 1)) (2 ^ 64 - 1)

-- a difference with the other sign
abbrev pub negation_of : ℕ → ℕ
negation_of difference = min (2 ^ 64 - difference) (2 ^ 64 - 1)

-- sent from here, a datagram is the faster the less the difference is: half of the pairs rounded up, and 99 of 100, are
-- counted from the least one
abbrev pub spread_from_here : ℕ → ℕ → ℕ → ℕ → List ℕ → Spread
spread_from_here pairs first least greatest counts =
    record {
      least = least;
      median = behind_least_of first least (pairs - pairs / 2) counts;
      most = behind_least_of first least (pairs - pairs / 100) counts;
      greatest = greatest - least;
    }

-- sent from there, it is the faster the greater the difference is
abbrev pub spread_from_there : ℕ → ℕ → ℕ → ℕ → List ℕ → Spread
spread_from_there pairs first least greatest counts =
    record {
      least = negation_of greatest;
      median = before_greatest_of first greatest (pairs / 2 + 1) counts;
      most = before_greatest_of first greatest (pairs / 100 + 1) counts;
      greatest = greatest - least;
    }

-- how long datagrams took that were sent from a site, or from here if it is unknown
abbrev pub spread_of : Option Site → ℕ → Option ℕ → ℕ → ℕ → List ℕ → Option Spread
spread_of site pairs None least greatest counts = None
spread_of None pairs (Some first) least greatest counts = Some (spread_from_here pairs first least greatest counts)
spread_of (Some Here) pairs (Some first) least greatest counts =
    Some (spread_from_here pairs first least greatest counts)
spread_of (Some There) pairs (Some first) least greatest counts =
    Some (spread_from_there pairs first least greatest counts)

-- the start of the bucket of half of the pairs
abbrev pub median_of : ℕ → Option ℕ → List ℕ → Option ℕ
median_of pairs None counts = None
median_of pairs (Some first) counts = Some (start_at first (place_at_rank (pairs - pairs / 2) counts))
