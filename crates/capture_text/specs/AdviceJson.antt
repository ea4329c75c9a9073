-- The distributions and the settings that fit a recording, as JSON; docs/captures.md has the members.
use Rattle.std.specs.Prelude.{ℕ, Bool, true, false, List, [], ◌∷◌, ◌++◌, codes, Option, Some, None}
use Rattle.std.specs.Fmt.{decimal}
use Rattle.std.specs.List.{flat_map}
use Rattle.capture.specs.declared.connections.Connection.{Connection}
use Rattle.capture.specs.declared.measures.Measures.{Measures}
use Rattle.pdu_text.specs.Lines.{join_pieces}
use Rattle.capture_text.specs.SettingsRule.{choose_settings, delays_of, network_of}
use Rattle.capture_text.specs.Distributions.{measurements_json}
use Rattle.capture_text.specs.declared.settings_rule.ChosenSettings.{ChosenSettings}
use Rattle.capture_text.specs.declared.settings_rule.Delays.{Delays}
use Rattle.capture_text.specs.declared.settings_rule.Network.{Network}

-- The identifiers of a connection, and the begin of its distributions.
unfoldable pub name_json : ℕ → ℕ → List ℕ
name_json low high =
    join_pieces (codes "{\"low\":" ∷ decimal low ∷ codes ",\"high\":" ∷ decimal high ∷ codes ",\"times\":[" ∷ [])

-- The distributions of both ends.
unfoldable pub sides_json : Measures → List ℕ
sides_json m = measurements_json m.low ++ codes "," ++ measurements_json m.high ++ codes "]"

-- The PDUs, the losses in millionths and the units.
unfoldable pub units_json : Network → List ℕ
units_json n =
    join_pieces
    (codes ",\"PDUs\":" ∷ decimal n.pdus ∷ codes ",\"lost\":" ∷ decimal n.lost ∷ codes ",\"units\":" ∷ decimal n.units ∷
    [])

-- Whether a time was seen.
abbrev pub truth_word : Option ℕ → List ℕ
truth_word None = codes "false"
truth_word (Some time) = codes "true"

-- Which times were seen.
unfoldable pub seen_times_json : List ℕ → List ℕ → List ℕ
seen_times_json round_trips skews =
    join_pieces (codes ",\"round_trips_seen\":" ∷ round_trips ∷ codes ",\"skews_seen\":" ∷ skews ∷ [])

-- What was seen of a network.
unfoldable pub network_json : Network → List ℕ
network_json n = units_json n ++ seen_times_json (truth_word n.shortest) (truth_word n.skew)

-- The times by which settings are chosen.
unfoldable pub delays_json : Delays → List ℕ
delays_json x =
    join_pieces (codes ",\"difference\":" ∷ decimal x.difference ∷ codes ",\"delay\":" ∷ decimal x.delay ∷ [])

-- The window, mwa and q.
unfoldable pub window_json : ChosenSettings → List ℕ
window_json s =
    join_pieces
    (codes ",\"settings\":{\"n_sendmax\":" ∷ decimal s.window ∷ codes ",\"mwa\":" ∷ decimal s.mwa ∷ codes ",\"q\":" ∷
    decimal s.q ∷ [])

-- The settings, and the end of their object and of that of the connection.
unfoldable pub settings_json : ChosenSettings → List ℕ
settings_json s =
    window_json s
    ++ join_pieces
    (codes ",\"t_seq\":" ∷ decimal s.t_seq ∷ codes ",\"t_h\":" ∷ decimal s.t_h ∷ codes ",\"t_max\":" ∷ decimal s.t_max ∷
    codes "}}" ∷ [])

-- The settings, or null, at the end of a connection's object.
abbrev pub chosen_settings_json : Option ChosenSettings → List ℕ
chosen_settings_json None = codes ",\"settings\":null}"
chosen_settings_json (Some settings) = settings_json settings

-- The object of a connection.
unfoldable pub advice_json : Connection → List ℕ
advice_json c =
    name_json c.low c.high ++ sides_json c.measures ++ network_json (network_of c)
    ++ delays_json (delays_of (network_of c))
    ++ chosen_settings_json (choose_settings (delays_of (network_of c)))

-- A connection after a comma.
unfoldable pub next_advice_json : Connection → List ℕ
next_advice_json c = codes "," ++ advice_json c

-- Further connections, each after a comma.
abbrev pub rest_json : List Connection → List ℕ
rest_json cs = flat_map (λ c. next_advice_json c) cs

-- All connections, separated by commas.
abbrev pub list_json : List Connection → List ℕ
list_json [] = []
list_json (c ∷ cs) = advice_json c ++ rest_json cs

-- The list of all connections, and the end of the object of all sums.
unfoldable pub advices_json : List Connection → List ℕ
advices_json cs = codes "],\"choosing\":[" ++ list_json cs ++ codes "]}\n"

-- The end of the object of all sums; before it the list, if it is asked for.
abbrev pub end_json : Bool → List Connection → List ℕ
end_json true cs = advices_json cs
end_json false cs = codes "]}\n"
