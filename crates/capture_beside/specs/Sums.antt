-- What is counted of a way.
use Rattle.std.specs.Prelude.{◌≡◌, ℕ, ◌+◌, ◌-◌, ◌<◌, ◌^◌, ◌||◌, Bool, true, false, nat_lt, min, max, if◌then◌else◌, List, length, Option, Some, None}
use Rattle.capture_beside.specs.declared.queue.WaitingDatagram.{WaitingDatagram}
use Rattle.capture_beside.specs.declared.sites.Extent.{Extent}
use Rattle.capture_beside.specs.declared.sites.Site.{Site}
use Rattle.capture_beside.specs.declared.sites.Site.TheVariants.{Here, There}
use Rattle.capture_beside.specs.declared.sums.Sums.{Sums}
use Rattle.capture_beside.specs.declared.sums.Tally.{Tally}
use Rattle.capture_beside.specs.Sites.{difference_of, is_outside_of}

-- a count with one more, limited to 64 bits
abbrev pub one_more : ℕ → ℕ
one_more count = min (count + 1) (2 ^ 64 - 1)

-- nothing was recorded
abbrev pub no_tally : Tally
no_tally = record { recorded = 0; alone = 0; outside = 0; furthest = 0 }

abbrev pub no_sums : Sums
no_sums = record { here = no_tally; there = no_tally; both = 0; reordered = 0; shift = None }

-- what a site has
abbrev pub tally_of : Site → Sums → Tally
tally_of Here s = s.here
tally_of There s = s.there

-- the sums with another tally of a site
abbrev pub with_tally : Site → Tally → Sums → Sums
with_tally Here t s = record s { here = t }
with_tally There t s = record s { there = t }

-- a datagram with a number
abbrev pub datagram_with : ℕ → ℕ → ℕ → WaitingDatagram
datagram_with fingerprint time number = record { fingerprint = fingerprint; time = time; number = number }

-- a datagram that arrives gets the next number of its site
abbrev pub arriving_datagram : Site → ℕ → ℕ → Sums → WaitingDatagram
arriving_datagram site fingerprint time s = datagram_with fingerprint time (tally_of site s).recorded

-- the tally with one more that was recorded
abbrev pub with_recorded : Tally → Tally
with_recorded t = record t { recorded = one_more t.recorded }

-- the sums with one more that a site recorded
abbrev pub count_recorded : Site → Sums → Sums
count_recorded site s = with_tally site (with_recorded (tally_of site s)) s

-- one of both comes behind a later one that has a partner
abbrev pub is_behind : WaitingDatagram → WaitingDatagram → Sums → Bool
is_behind here there s = nat_lt here.number s.here.furthest || nat_lt there.number s.there.furthest

-- the tally with one more that has a partner
abbrev pub count_partner : ℕ → Tally → Tally
count_partner number t = record t { furthest = max t.furthest (one_more number) }

-- the sums with one more pair
abbrev pub count_pair : WaitingDatagram → WaitingDatagram → Sums → Sums
count_pair here there s =
    record {
      here = count_partner here.number s.here;
      there = count_partner there.number s.there;
      both = one_more s.both;
      reordered = if is_behind here there s then one_more s.reordered else s.reordered;
      shift = Some (difference_of here.time there.time);
    }

-- the difference of the clocks: that of the last pair of the way, or else of all ways
abbrev pub shift_from : Option ℕ → ℕ → ℕ
shift_from None shift = shift
shift_from (Some own) shift = own

-- the tally with one more that has no partner: outside of the other recording, or missing in it
abbrev pub count_without_partner : Bool → Tally → Tally
count_without_partner true t = record t { outside = one_more t.outside }
count_without_partner false t = record t { alone = one_more t.alone }

-- the sums with one more that has no partner
abbrev pub give_up : Site → WaitingDatagram → ℕ → Option Extent → Sums → Sums
give_up site gone shift other s =
    with_tally site (count_without_partner (is_outside_of site gone.time (shift_from s.shift shift) other)
    (tally_of site s)) s
