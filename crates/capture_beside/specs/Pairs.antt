-- Two recordings that are read in step.
use Rattle.std.specs.Prelude.{ℕ, ◌&&◌, Bool, nat_le, nat_lt, List, slice_get, if◌then◌else◌, Option, Some, None}
use Rattle.std.specs.List.{position}
use Rattle.capture.specs.declared.line.Address.{Address}
use Rattle.capture.specs.Connections.{is_same_address}
use Rattle.capture_beside.specs.declared.pairing.Arrival.{Arrival}
use Rattle.capture_beside.specs.declared.sites.Site.{Site}
use Rattle.capture_beside.specs.declared.sites.Site.TheVariants.{Here, There}
use Rattle.capture_beside.specs.declared.way.Way.{Way}
use Rattle.capture_beside.specs.Delays.{median_of}
use Rattle.capture_beside.specs.Sites.{difference_of}

-- the recording that is read next: the one whose next datagram is earlier, less the difference of the clocks
abbrev pub turn_of : ℕ → Option Arrival → Option Arrival → Option Site
turn_of shift None None = None
turn_of shift (Some here) None = Some Here
turn_of shift None (Some there) = Some There
turn_of shift (Some here) (Some there) =
    if nat_le shift (difference_of here.time there.time) then Some Here else Some There

-- the way goes from one address to another
abbrev pub is_way_between : Address → Address → Way → Bool
is_way_between source destination way = is_same_address way.source source && is_same_address way.destination destination

-- the place of that way
abbrev pub way_place : Address → Address → List Way → Option ℕ
way_place source destination ways = position (λ (way : Way). is_way_between source destination way) ways

-- the median of the differences of a way
abbrev pub median_in : Way → Option ℕ
median_in way = median_of way.sums.both way.delays.first way.delays.buckets.items

-- the site of the sender, by the medians forth and back: on the way from here the time there is later
abbrev pub who_is_first : ℕ → ℕ → Option Site
who_is_first forth back = if nat_lt back forth then Some Here else (if nat_lt forth back then Some There else None)

abbrev pub origin_with : Option ℕ → Option ℕ → Option Site
origin_with (Some forth) (Some back) = who_is_first forth back
origin_with (Some forth) None = None
origin_with None back = None

-- the median of the way at a place
abbrev pub median_at : Option Way → Option ℕ
median_at None = None
median_at (Some way) = median_in way

abbrev pub way_at : List Way → Option ℕ → Option Way
way_at ways None = None
way_at ways (Some place) = slice_get ways place

-- the site of the sender of a way
abbrev pub origin_of : List Way → Way → Option Site
origin_of ways way = origin_with (median_in way) (median_at (way_at ways (way_place way.destination way.source ways)))
