-- The result as one JSON object; docs/captures.md has the members.
use Rattle.std.specs.Prelude.{ℕ, ◌-◌, nat_lt, List, [], ◌∷◌, ◌++◌, codes, if◌then◌else◌, Option, Some, None}
use Rattle.std.specs.Fmt.{decimal}
use Rattle.std.specs.List.{flat_map}
use Rattle.capture.specs.declared.line.Address.{Address}
use Rattle.capture_text.specs.Pieces.{address_text}
use Rattle.pdu_text.specs.Lines.{join_pieces}
use Rattle.capture_beside.specs.declared.counts.Counts.{Counts}
use Rattle.capture_beside.specs.declared.delays.Spread.{Spread}
use Rattle.capture_beside.specs.declared.sites.TheConstants.{EVEN}
use Rattle.capture_beside.specs.declared.sites.Site.{Site}
use Rattle.capture_beside.specs.declared.sites.Site.TheVariants.{Here, There}
use Rattle.capture_beside.specs.declared.sums.Sums.{Sums}
use Rattle.capture_beside.specs.declared.way.Way.{Way}
use Rattle.capture_beside.specs.Pairs.{origin_of}
use Rattle.capture_beside.specs.Text.{spread_in}

-- what was read of a recording
unfoldable pub counts_json : Counts → List ℕ
counts_json c =
    join_pieces
    (codes "{\"datagrams\":" ∷ decimal c.datagrams ∷ codes ",\"not_rasta\":" ∷ decimal c.strange ∷
    codes ",\"unreadable\":" ∷ decimal c.unreadable
    ∷ codes ",\"frames\":" ∷ decimal c.frames ∷ codes "}" ∷ [])

-- what was read of both
unfoldable pub read_json : Counts → Counts → List ℕ
read_json here there = codes "{\"here\":" ++ counts_json here ++ codes ",\"there\":" ++ counts_json there

-- how many datagrams were left out
unfoldable pub left_out_json : ℕ → List ℕ
left_out_json left_out = join_pieces (codes ",\"left_out\":" ∷ decimal left_out ∷ codes ",\"ways\":[" ∷ [])

-- an address with a text before it
unfoldable pub end_json : List ℕ → Address → List ℕ
end_json front address = front ++ address_text address

-- the addresses of a way
unfoldable pub ends_json : Way → List ℕ
ends_json way = end_json (codes "{\"source\":\"") way.source ++ end_json (codes "\",\"destination\":\"") way.destination

-- the site of the sender, or null
abbrev pub origin_json : Option Site → List ℕ
origin_json None = codes "\",\"from\":null"
origin_json (Some Here) = codes "\",\"from\":\"here\""
origin_json (Some There) = codes "\",\"from\":\"there\""

-- the pairs, the datagrams of one recording alone, and the reordered pairs
unfoldable pub pairs_json : Sums → List ℕ
pairs_json s =
    join_pieces
    (codes ",\"both\":" ∷ decimal s.both ∷ codes ",\"only_here\":" ∷ decimal s.here.alone ∷ codes ",\"only_there\":" ∷
    decimal s.there.alone
    ∷ codes ",\"reordered\":" ∷ decimal s.reordered ∷ [])

-- the datagrams before the other recording begins and after it ends
unfoldable pub outside_json : Sums → List ℕ
outside_json s =
    join_pieces (codes ",\"outside_here\":" ∷ decimal s.here.outside ∷ codes ",\"outside_there\":" ∷
    decimal s.there.outside ∷ [])

-- a difference of times with its sign
abbrev pub signed_json : ℕ → List ℕ
signed_json difference =
    if nat_lt difference EVEN then codes "-" ++ decimal (EVEN - difference) else decimal (difference - EVEN)

-- how much longer half, 99 of 100, and the slowest took
unfoldable pub later_json : Spread → List ℕ
later_json s =
    join_pieces
    (codes ",\"median\":" ∷ decimal s.median ∷ codes ",\"most\":" ∷ decimal s.most ∷ codes ",\"greatest\":" ∷
    decimal s.greatest ∷ codes "}" ∷ [])

-- how long the datagrams took
unfoldable pub durations_json : Spread → List ℕ
durations_json s = codes ",\"least\":" ++ signed_json s.least ++ later_json s

abbrev pub spread_json : Option Spread → List ℕ
spread_json None = codes ",\"least\":null,\"median\":null,\"most\":null,\"greatest\":null}"
spread_json (Some s) = durations_json s

-- the object of a way
unfoldable pub way_json : Option Site → Way → List ℕ
way_json origin way = ends_json way ++ origin_json origin ++ (pairs_json way.sums ++ outside_json way.sums)
    ++ spread_json (spread_in origin way)

-- one of all ways, after a comma
unfoldable pub next_way_json : List Way → Way → List ℕ
next_way_json ways way = codes "," ++ way_json (origin_of ways way) way

-- further ways, each after a comma
abbrev pub more_json : List Way → List Way → List ℕ
more_json ways rest = flat_map (λ (way : Way). next_way_json ways way) rest

-- the objects of some of all ways
abbrev pub some_json : List Way → List Way → List ℕ
some_json ways [] = []
some_json ways (way ∷ rest) = way_json (origin_of ways way) way ++ more_json ways rest

-- the objects of all ways
abbrev pub ways_json : List Way → List ℕ
ways_json ways = some_json ways ways

-- the whole object
unfoldable pub object_json : ℕ → List Way → Counts → Counts → List ℕ
object_json left_out ways here there = read_json here there ++ left_out_json left_out ++ ways_json ways ++ codes "]}\n"
