-- The settings that fit the network of a recording, by the rule of docs/choosing.md. Times are milliseconds.
use Rattle.std.specs.Prelude.{ℕ, ◌+◌, ◌-◌, ◌*◌, ◌/◌, ◌^◌, ◌<◌, ◌≤◌, ◌||◌, max, min, nat_lt, List, fold, if◌then◌else◌, Option, Some, None}
use Rattle.std.specs.List.{position}
use Rattle.capture.specs.declared.connections.Connection.{Connection}
use Rattle.capture.specs.declared.direction.Direction.{Direction}
use Rattle.capture.specs.declared.distribution.Distribution.{Distribution}
use Rattle.capture.specs.declared.measures.Measures.{Measures}
use Rattle.capture.specs.declared.window.Window.{Window}
use Rattle.capture.specs.Numbers.{limited_sum}
use Rattle.capture_text.specs.declared.settings_rule.ChosenSettings.{ChosenSettings}
use Rattle.capture_text.specs.declared.settings_rule.Delays.{Delays}
use Rattle.capture_text.specs.declared.settings_rule.Network.{Network}
use Rattle.capture_text.specs.declared.settings_rule.TheConstants.{CONFIRM_AFTER, DELAY_MAX, DIFFERENCE_MAX, MARGIN, QUEUE, SHORTEST_ASSUMED, T_H_LEAST, T_SEQ_LEAST, WINDOW}

-- The settings obey the rule for these times.
abbrev pub ObeysRule : Delays → ChosenSettings → Type 0
ObeysRule x s =
    (s.window - 1 + s.window / s.mwa ≤ s.q) × (s.mwa < s.window) × (x.difference < s.t_seq) × (s.t_seq ≤ s.t_h)
    × (3 * s.t_h + s.t_seq + 4 * x.delay ≤ s.t_max)

-- An end accepts the settings: T_seq from 10 to 1,000 ms, T_h below T_max, T_max up to 60,000 ms, q up to 8, a window
-- up to 32, mwa up to 16.
abbrev pub HasRoom : ChosenSettings → Type 0
HasRoom s = (10 ≤ s.t_seq) × (s.t_seq ≤ 1000) × (s.t_h < s.t_max) × (s.t_max ≤ 60000) × (s.q ≤ 8) × (s.window ≤ 32)
    × (s.mwa ≤ 16)

-- T_seq: above the difference by a quarter of it, at least 5 ms.
abbrev pub with_margin : ℕ → ℕ
with_margin difference = max (difference + max (difference / 4) MARGIN) T_SEQ_LEAST

-- T_h: twice T_seq, at least 100 ms.
abbrev pub beat_for : ℕ → ℕ
beat_for t_seq = max (2 * t_seq) T_H_LEAST

-- The settings with this T_seq and T_h; T_max leaves time for two repairs in a row.
abbrev pub settings_with : ℕ → ℕ → ℕ → ChosenSettings
settings_with t_seq t_h delay =
    record {
      window = WINDOW;
      mwa = CONFIRM_AFTER;
      q = QUEUE;
      t_seq = t_seq;
      t_h = t_h;
      t_max = 4 * t_h + 2 * t_seq + 6 * delay;
    }

-- The settings for a network with these times; none if the times are too long for what an end accepts.
abbrev pub choose_settings : Delays → Option ChosenSettings
choose_settings x =
    if nat_lt DIFFERENCE_MAX x.difference || nat_lt DELAY_MAX x.delay then None
    else Some (settings_with (with_margin x.difference) (beat_for (with_margin x.difference)) x.delay)

-- The greatest value of a class: all its binary digits are 1.
abbrev pub class_end : ℕ → ℕ
class_end class = 2 ^ class - 1

-- The least class that has values.
abbrev pub least_class : List ℕ → Option ℕ
least_class counts = position (λ count. nat_lt 0 count) counts

-- The end of a class, if there is one.
abbrev pub end_of : Option ℕ → Option ℕ
end_of None = None
end_of (Some class) = Some (class_end class)

-- The end of the least class that has values.
abbrev pub least_in : Distribution → Option ℕ
least_in d = end_of (least_class d.counts)

-- A value, if there is a class.
abbrev pub value_if : Option ℕ → ℕ → Option ℕ
value_if None value = None
value_if (Some class) value = Some value

-- The greatest value, if there are values.
abbrev pub greatest_in : Distribution → Option ℕ
greatest_in d = value_if (least_class d.counts) d.greatest

-- The greater of two times; one that is missing does not count.
abbrev pub greater_of : Option ℕ → Option ℕ → Option ℕ
greater_of (Some one) (Some other) = Some (max one other)
greater_of (Some one) None = Some one
greater_of None other = other

-- Half of a sum, rounded up.
abbrev pub half_of : ℕ → ℕ → ℕ
half_of one other = limited_sum (limited_sum one other) 1 / 2

-- Half of two times, if both are known.
abbrev pub half_if : Option ℕ → Option ℕ → Option ℕ
half_if (Some one) (Some other) = Some (half_of one other)
half_if _ _ = None

-- The shortest time one way: half of the shortest round trips of both ends. A round trip has one end's way to the
-- recorder and back, and how long that end took to answer; so the shortest ones say least of the answering.
abbrev pub shortest_of : Distribution → Distribution → Option ℕ
shortest_of one other = half_if (least_in one) (least_in other)

-- The share of its datagrams that a channel lost, in millionths.
abbrev pub loss_of : Window → ℕ
loss_of w = min (w.missing * 1000000) (2 ^ 64 - 1) / max (limited_sum (limited_sum w.heard w.late) w.missing) 1

-- The greater of a loss and that of a channel.
abbrev pub more_lost : ℕ → Window → ℕ
more_lost most w = max most (loss_of w)

-- The greatest loss of a channel, one way.
abbrev pub losses_in : Direction → ℕ
losses_in d = fold more_lost 0 d.channels

-- The PDUs of both ends.
abbrev pub pdus_in : Connection → ℕ
pdus_in c = limited_sum c.from_low.together.heard c.from_high.together.heard

-- The most units of either end in a second.
abbrev pub units_in : Measures → ℕ
units_in m = max m.low.busiest m.high.busiest

-- The greatest skew of either end.
abbrev pub skew_of : Measures → Option ℕ
skew_of m = greater_of (greatest_in m.low.skews) (greatest_in m.high.skews)

-- What a recorded connection tells of its network.
abbrev pub network_of : Connection → Network
network_of c =
    record {
      pdus = pdus_in c;
      lost = max (losses_in c.from_low) (losses_in c.from_high);
      shortest = shortest_of c.measures.low.round_trips c.measures.high.round_trips;
      skew = skew_of c.measures;
      units = units_in c.measures;
    }

-- The shortest time one way, or the one that is assumed.
abbrev pub shortest_or : Option ℕ → ℕ
shortest_or None = SHORTEST_ASSUMED
shortest_or (Some shortest) = shortest

-- The difference: the greatest skew, or a time that is assumed.
abbrev pub difference_or : Option ℕ → ℕ → ℕ
difference_or None assumed = assumed
difference_or (Some skew) assumed = skew

-- The times by which settings are chosen. A datagram may take as much longer than the shortest time as one copy came
-- after another; without copies, as long again is assumed.
abbrev pub delays_of : Network → Delays
delays_of n =
    record {
      difference = difference_or n.skew (shortest_or n.shortest);
      delay = limited_sum (shortest_or n.shortest) (difference_or n.skew (shortest_or n.shortest));
    }
