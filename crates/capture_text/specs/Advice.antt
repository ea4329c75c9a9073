-- The settings that fit a recording, with their reasons, as lines. Times are milliseconds.
use Rattle.std.specs.Prelude.{ℕ, ◌-◌, ◌*◌, ◌/◌, ◌^◌, min, nat_lt, Bool, true, false, List, [], ◌∷◌, ◌++◌, codes, if◌then◌else◌, Option, Some, None}
use Rattle.std.specs.Fmt.{decimal}
use Rattle.std.specs.List.{flat_map}
use Rattle.capture.specs.declared.connections.Connection.{Connection}
use Rattle.capture.specs.Numbers.{limited_sum}
use Rattle.pdu_text.specs.Lines.{join_pieces}
use Rattle.capture_text.specs.SettingsRule.{choose_settings, delays_of, network_of}
use Rattle.capture_text.specs.Distributions.{measurements_text}
use Rattle.capture_text.specs.declared.advice.TheConstants.{ENOUGH}
use Rattle.capture_text.specs.declared.settings_rule.ChosenSettings.{ChosenSettings}
use Rattle.capture_text.specs.declared.settings_rule.Delays.{Delays}
use Rattle.capture_text.specs.declared.settings_rule.Network.{Network}

-- The begin of a line about a connection.
unfoldable pub advice_front : ℕ → ℕ → List ℕ
advice_front low high = join_pieces (codes "choose " ∷ decimal low ∷ codes "-" ∷ decimal high ∷ [])

-- A remark on too few PDUs.
abbrev pub few_word : ℕ → List ℕ
few_word pdus = if nat_lt pdus ENOUGH then codes ", too few to rely on: record some hundred with telegrams" else []

-- How many PDUs there were, and the greatest loss.
unfoldable pub from_text : ℕ → ℕ → Network → List ℕ
from_text low high n =
    advice_front low high
    ++ join_pieces
    (codes " from " ∷ decimal n.pdus ∷ codes " PDUs" ∷ few_word n.pdus ∷ codes "; p " ∷ decimal n.lost
    ∷ codes " of 1000000: the most that a channel lost\n" ∷ [])

-- Where the difference comes from.
abbrev pub difference_reason : Option ℕ → List ℕ
difference_reason None = codes "assumed to be the shortest time one way, since no copy came on another channel"
difference_reason (Some skew) = codes "the greatest skew"

-- The difference.
unfoldable pub difference_text : ℕ → ℕ → Network → Delays → List ℕ
difference_text low high n x =
    advice_front low high ++ join_pieces (codes " D " ∷ decimal x.difference ∷ codes " ms: " ∷
    difference_reason n.skew ∷ codes "\n" ∷ [])

-- Where the shortest time one way comes from.
abbrev pub delay_reason : Option ℕ → List ℕ
delay_reason None = codes "5 ms, assumed since an end has no round trip"
delay_reason (Some shortest) = codes "half of the shortest round trips of both ends"

-- The longest time one way.
unfoldable pub delay_text : ℕ → ℕ → Network → Delays → List ℕ
delay_text low high n x =
    advice_front low high ++ join_pieces (codes " d " ∷ decimal x.delay ∷ codes " ms: D and " ∷
    delay_reason n.shortest ∷ codes "\n" ∷ [])

-- The units that come within two times one way, rounded up.
abbrev pub within_delay : ℕ → ℕ → ℕ
within_delay units delay = limited_sum (min (min (delay * 2) (2 ^ 64 - 1) * units) (2 ^ 64 - 1)) 999 / 1000

-- A remark on more units than a window of 7 holds.
abbrev pub units_word : ℕ → List ℕ
units_word within = if nat_lt 7 within then codes ": more than the window holds, so telegrams wait" else []

-- The units of a second, how many of them come within two times one way, and a remark.
unfoldable pub load_text : ℕ → ℕ → List ℕ → List ℕ
load_text units within remark =
    join_pieces
    (codes " busiest second " ∷ decimal units ∷ codes " units one way, " ∷ decimal within ∷ codes " within 2 d" ∷
    remark ∷ codes "\n" ∷ [])

-- The units of the busiest second.
unfoldable pub units_text : ℕ → ℕ → Network → Delays → List ℕ
units_text low high n x = advice_front low high ++ load_text n.units (within_delay n.units x.delay)
    (units_word (within_delay n.units x.delay))

-- That no settings fit.
unfoldable pub none_text : ℕ → ℕ → List ℕ
none_text low high =
    advice_front low high
    ++ codes " no settings: D may be 800 ms and d 8000 ms at most, for T_seq and T_max in their ranges\n"

-- The values of the window, mwa and q.
unfoldable pub three_text : ChosenSettings → List ℕ
three_text s = join_pieces (codes " n_sendmax " ∷ decimal s.window ∷ codes " mwa " ∷ decimal s.mwa ∷ codes " q " ∷
    decimal s.q ∷ [])

-- The rule that these three obey.
unfoldable pub rule_text : ChosenSettings → List ℕ
rule_text s =
    join_pieces
    (codes ": " ∷ decimal s.window ∷ codes " - 1 + " ∷ decimal s.window ∷ codes "/" ∷ decimal s.mwa ∷
    codes " is at most " ∷ decimal s.q ∷ codes "\n"
    ∷ [])

-- The line of the window, mwa and q.
unfoldable pub window_text : ℕ → ℕ → ChosenSettings → List ℕ
window_text low high s = advice_front low high ++ three_text s ++ rule_text s

-- T_seq.
unfoldable pub t_seq_text : ℕ → ℕ → Delays → ChosenSettings → List ℕ
t_seq_text low high x s =
    advice_front low high
    ++ join_pieces
    (codes " T_seq " ∷ decimal s.t_seq ∷ codes " ms: above D, " ∷ decimal x.difference ∷
    codes " ms, by a quarter and at least 5 ms\n" ∷ [])

-- T_h.
unfoldable pub t_h_text : ℕ → ℕ → ChosenSettings → List ℕ
t_h_text low high s =
    advice_front low high ++ join_pieces (codes " T_h " ∷ decimal s.t_h ∷
    codes " ms: twice T_seq, and at least 100 ms\n" ∷ [])

-- T_max.
unfoldable pub t_max_text : ℕ → ℕ → ChosenSettings → List ℕ
t_max_text low high s =
    advice_front low high ++ join_pieces (codes " T_max " ∷ decimal s.t_max ∷
    codes " ms: 4 T_h + 2 T_seq + 6 d, for two repairs in a row\n" ∷ [])

-- All settings.
unfoldable pub settings_text : ℕ → ℕ → Delays → ChosenSettings → List ℕ
settings_text low high x s =
    window_text low high s ++ t_seq_text low high x s ++ t_h_text low high s ++ t_max_text low high s

-- The settings that were chosen, or that none fit.
abbrev pub settings_lines : ℕ → ℕ → Delays → Option ChosenSettings → List ℕ
settings_lines low high x None = none_text low high
settings_lines low high x (Some settings) = settings_text low high x settings

-- What was seen of a network, and the settings that fit it.
unfoldable pub advice_text : ℕ → ℕ → Network → List ℕ
advice_text low high n =
    from_text low high n ++ difference_text low high n (delays_of n) ++ delay_text low high n (delays_of n)
    ++ units_text low high n (delays_of n)
    ++ settings_lines low high (delays_of n) (choose_settings (delays_of n))

-- The lines of a connection.
unfoldable pub connection_text : Connection → List ℕ
connection_text c =
    measurements_text c.low c.high c.measures.low ++ measurements_text c.high c.low c.measures.high
    ++ advice_text c.low c.high (network_of c)

-- The lines of all connections.
abbrev pub advices_text : List Connection → List ℕ
advices_text cs = flat_map (λ c. connection_text c) cs

-- That there is nothing to choose from, and how to proceed.
abbrev pub nothing_text : List ℕ
nothing_text = codes "choose nothing: no PDU of RaSTA was recorded; record both ends, and look at --ports and --code\n"

-- The lines of all connections; without any, one line that says so.
abbrev pub recording_advice_text : List Connection → List ℕ
recording_advice_text [] = nothing_text
recording_advice_text (c ∷ cs) = advices_text (c ∷ cs)

-- The same, if they are asked for.
abbrev pub advice_lines : Bool → List Connection → List ℕ
advice_lines true cs = recording_advice_text cs
advice_lines false cs = []
