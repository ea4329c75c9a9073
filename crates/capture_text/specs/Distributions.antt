-- The distributions of a connection, as lines and as JSON. Values are milliseconds.
use Rattle.std.specs.Prelude.{ℕ, ◌+◌, ◌-◌, List, [], ◌∷◌, ◌++◌, codes, drop, fold, slice_index, take}
use Rattle.std.specs.Fmt.{decimal}
use Rattle.std.specs.List.{flat_map}
use Rattle.capture.specs.declared.distribution.Distribution.{Distribution}
use Rattle.capture.specs.declared.distribution.TheConstants.{CLASSES}
use Rattle.capture.specs.declared.measures.Measurements.{Measurements}
use Rattle.capture.specs.Measures.{class_of}
use Rattle.capture.specs.Numbers.{limited_sum}
use Rattle.pdu_text.specs.Lines.{join_pieces}
use Rattle.capture_text.specs.Pieces.{ends_text}

-- A count after a mark.
unfoldable pub after_mark : List ℕ → ℕ → List ℕ
after_mark mark count = join_pieces (mark ∷ decimal count ∷ [])

-- Counts, each after a mark.
abbrev pub counts_text : List ℕ → List ℕ → List ℕ
counts_text mark counts = flat_map (λ count. after_mark mark count) counts

-- A sum with one more count.
abbrev pub sum_with : ℕ → ℕ → ℕ
sum_with sum count = limited_sum sum count

-- How many values a distribution has.
abbrev pub count_sum : Distribution → ℕ
count_sum d = fold sum_with 0 d.counts

-- How many values there are, the greatest one, and the names of the classes.
unfoldable pub number_text : Distribution → List ℕ
number_text d =
    join_pieces (decimal (count_sum d) ∷ codes " greatest " ∷ decimal d.greatest ∷ codes " ms, below 1, 2, 4, .. ms:" ∷
    [])

-- The line of a distribution, with the classes up to that of the greatest value.
unfoldable pub distribution_text : ℕ → ℕ → List ℕ → Distribution → List ℕ
distribution_text from to name d =
    codes "times " ++ ends_text from to ++ name ++ number_text d ++ counts_text (codes " ")
    (take (class_of d.greatest + 1) d.counts) ++ codes "\n"

-- The lines of an end.
unfoldable pub measurements_text : ℕ → ℕ → Measurements → List ℕ
measurements_text from to m =
    distribution_text from to (codes " round trip ") m.round_trips ++ distribution_text from to (codes " skew ") m.skews
    ++ distribution_text from to (codes " silence ") m.silences
    ++ distribution_text from to (codes " waits ") m.waits

-- The greatest value, and the begin of the list of counts.
unfoldable pub bracket_json : ℕ → ℕ → List ℕ
bracket_json greatest first =
    join_pieces (codes "{\"greatest\":" ∷ decimal greatest ∷ codes ",\"counts\":[" ∷ decimal first ∷ [])

-- A distribution as a member with this name: the greatest value, and the count of each class.
unfoldable pub distribution_json : List ℕ → Distribution → List ℕ
distribution_json name d =
    name ++ bracket_json d.greatest (slice_index d.counts 0) ++ counts_text (codes ",")
    (take (CLASSES - 1) (drop 1 d.counts)) ++ codes "]}"

-- The object of an end.
unfoldable pub measurements_json : Measurements → List ℕ
measurements_json m =
    distribution_json (codes "{\"round_trip\":") m.round_trips ++ distribution_json (codes ",\"skew\":") m.skews
    ++ distribution_json (codes ",\"silence\":") m.silences
    ++ distribution_json (codes ",\"waits\":") m.waits
    ++ codes "}"
