-- The result as lines; docs/captures.md has an example.
use Rattle.std.specs.Prelude.{ℕ, ◌-◌, nat_lt, List, [], ◌∷◌, ◌++◌, codes, if◌then◌else◌, Option, Some, None}
use Rattle.std.specs.Fmt.{decimal}
use Rattle.std.specs.List.{flat_map}
use Rattle.capture_text.specs.Pieces.{address_text, duration_text}
use Rattle.pdu_text.specs.Lines.{join_pieces}
use Rattle.capture_beside.specs.declared.counts.Counts.{Counts}
use Rattle.capture_beside.specs.declared.delays.Spread.{Spread}
use Rattle.capture_beside.specs.declared.sites.TheConstants.{EVEN}
use Rattle.capture_beside.specs.declared.sites.Site.{Site}
use Rattle.capture_beside.specs.declared.sites.Site.TheVariants.{Here, There}
use Rattle.capture_beside.specs.declared.sums.Sums.{Sums}
use Rattle.capture_beside.specs.declared.way.Way.{Way}
use Rattle.capture_beside.specs.Delays.{spread_of}
use Rattle.capture_beside.specs.Pairs.{origin_of}

-- the site of the sender
abbrev pub origin_text : Option Site → List ℕ
origin_text None = codes " from unknown"
origin_text (Some Here) = codes " from here"
origin_text (Some There) = codes " from there"

-- the pairs, the datagrams of one recording alone, and the reordered pairs
unfoldable pub pairs_text : Sums → List ℕ
pairs_text s =
    join_pieces
    (codes " both " ∷ decimal s.both ∷ codes " only here " ∷ decimal s.here.alone ∷ codes " only there " ∷
    decimal s.there.alone ∷ codes " reordered "
    ∷ decimal s.reordered ∷ [])

-- the datagrams before the other recording begins and after it ends
unfoldable pub outside_text : Sums → List ℕ
outside_text s =
    join_pieces (codes " outside here " ∷ decimal s.here.outside ∷ codes " there " ∷ decimal s.there.outside ∷ [])

-- a difference of times with its sign
abbrev pub signed_text : ℕ → List ℕ
signed_text difference =
    if nat_lt difference EVEN then codes "-" ++ duration_text (EVEN - difference) else codes "+"
    ++ duration_text (difference - EVEN)

-- seconds behind a word
unfoldable pub later_text : List ℕ → ℕ → List ℕ
later_text word micros = word ++ duration_text micros

-- how much longer half, 99 of 100, and the slowest took
unfoldable pub longer_text : Spread → List ℕ
longer_text s = later_text (codes " median +") s.median ++ later_text (codes " 99% +") s.most
    ++ later_text (codes " greatest +") s.greatest

-- how long the fastest took, and the others
unfoldable pub durations_text : Spread → List ℕ
durations_text s = (codes " least " ++ signed_text s.least) ++ longer_text s

-- the same if there is a pair, and the end of the line
abbrev pub spread_text : Option Spread → List ℕ
spread_text None = codes "\n"
spread_text (Some s) = durations_text s ++ codes "\n"

-- how long the datagrams of a way took from a site
abbrev pub spread_in : Option Site → Way → Option Spread
spread_in origin way =
    spread_of origin way.sums.both way.delays.first way.delays.least way.delays.greatest way.delays.buckets.items

-- its addresses
unfoldable pub ends_text : Way → List ℕ
ends_text way = address_text way.source ++ codes "->" ++ address_text way.destination

-- the line of a way
unfoldable pub way_text : Option Site → Way → List ℕ
way_text origin way = ends_text way ++ origin_text origin ++ (pairs_text way.sums ++ outside_text way.sums)
    ++ spread_text (spread_in origin way)

-- the lines of some of all ways
abbrev pub some_text : List Way → List Way → List ℕ
some_text ways some = flat_map (λ (way : Way). way_text (origin_of ways way) way) some

-- the lines of all ways
abbrev pub ways_text : List Way → List ℕ
ways_text ways = some_text ways ways

-- the line of a recording
unfoldable pub counts_text : List ℕ → Counts → List ℕ
counts_text name c =
    join_pieces
    (codes "sum " ∷ name ∷ codes ": datagrams " ∷ decimal c.datagrams ∷ codes " not RaSTA " ∷ decimal c.strange ∷
    codes " unreadable "
    ∷ decimal c.unreadable ∷ codes " frames " ∷ decimal c.frames ∷ codes "\n" ∷ [])

-- all lines
unfoldable pub lines_text : List Way → Counts → Counts → List ℕ
lines_text ways here there = ways_text ways ++ counts_text (codes "here") here ++ counts_text (codes "there") there
