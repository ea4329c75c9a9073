-- What is measured of a connection, in milliseconds of the recorder.
use Rattle.std.specs.Prelude.{ℕ, ◌+◌, ◌-◌, ◌/◌, ◌%◌, ◌^◌, ◌==◌, ◌&&◌, max, min, Bool, true, false, not, nat_lt, slice_index, slice_set, replicate, if◌then◌else◌, Option, Some, None, is_some}
use Rattle.std.specs.Int.{leading_zeros, w32}
use Rattle.safe_pdu.specs.declared.Kind.{Kind}
use Rattle.safe_pdu.specs.declared.Kind.TheVariants.{Data, RetrData, RetrReq, RetrResp}
use Rattle.capture.specs.declared.datagram.Header.{Header}
use Rattle.capture.specs.declared.direction.Remarks.{Remarks}
use Rattle.capture.specs.declared.distribution.Distribution.{Distribution}
use Rattle.capture.specs.declared.distribution.TheConstants.{CLASSES}
use Rattle.capture.specs.declared.measures.Measurements.{Measurements}
use Rattle.capture.specs.declared.measures.Measures.{Measures}
use Rattle.capture.specs.declared.measures.TheConstants.{MOMENTS}
use Rattle.capture.specs.declared.window.NumberOrder.{NumberOrder}
use Rattle.capture.specs.declared.window.NumberOrder.TheVariants.{Late, Repeat}
use Rattle.capture.specs.Directions.{is_new}

-- The class of a value: the number of its binary digits; the last class has all longer ones.
abbrev pub class_of : ℕ → ℕ
class_of value = min (32 - leading_zeros w32 value) (CLASSES - 1)

-- No value came.
abbrev pub no_values : Distribution
no_values = record { counts = replicate CLASSES 0; greatest = 0 }

-- A count with one more, limited to 2^32 - 1.
abbrev pub one_more : ℕ → ℕ
one_more count = min (count + 1) (2 ^ 32 - 1)

-- The distribution with one more value: one class grows.
abbrev pub with_value : Distribution → ℕ → Distribution
with_value d value =
    record {
      counts = slice_set d.counts (class_of value) (one_more (slice_index d.counts (class_of value)));
      greatest = max d.greatest value;
    }

-- The distribution with a value, if there is one.
abbrev pub with_some : Distribution → Option ℕ → Distribution
with_some d None = d
with_some d (Some value) = with_value d value

-- The whole milliseconds from one time to another, in microseconds; limited to 2^32 - 1.
abbrev pub millis_between : ℕ → ℕ → ℕ
millis_between from to = min ((to - from) / 1000) (2 ^ 32 - 1)

-- The distribution with the time since a moment, if that is known.
abbrev pub with_span : Distribution → Option ℕ → ℕ → Distribution
with_span d None to = d
with_span d (Some from) to = with_value d (millis_between from to)

-- An end of which nothing is measured.
abbrev pub no_measurements : Measurements
no_measurements =
    record {
      round_trips = no_values;
      skews = no_values;
      silences = no_values;
      waits = no_values;
      stamps = replicate MOMENTS 0;
      times = replicate MOMENTS 0;
      last = 0;
      confirmed = 0;
      units = 0;
      busiest = 0;
    }

-- Nothing is measured of either end.
abbrev pub no_measures : Measures
no_measures = record { low = no_measurements; high = no_measurements }

-- A time, if it is not 0 and the timestamps agree.
abbrev pub moment_if : ℕ → ℕ → ℕ → Option ℕ
moment_if time stamp ts = if nat_lt 0 time && (stamp == ts) then Some time else None

-- When the PDU with this sequence number and timestamp was recorded first, if it is kept.
abbrev pub moment_of : Measurements → ℕ → ℕ → Option ℕ
moment_of m sn ts = moment_if (slice_index m.times (sn % MOMENTS)) (slice_index m.stamps (sn % MOMENTS)) ts

-- The end at its opening: the PDUs before it are forgotten, the distributions stay.
abbrev pub forget_moments : Measurements → Measurements
forget_moments m = record m { times = replicate MOMENTS 0; last = 0; confirmed = 0 }

-- The PDU came on another channel before, and not on this one.
abbrev pub is_copy_elsewhere : NumberOrder → Option NumberOrder → Bool
is_copy_elsewhere (Repeat _) (Some (Repeat _)) = false
is_copy_elsewhere (Repeat _) (Some _) = true
is_copy_elsewhere _ _ = false

-- The confirmation of this type is measured: not of those for a retransmission, which come after a repair.
abbrev pub is_answer : Kind → Bool
is_answer RetrReq = false
is_answer RetrResp = false
is_answer RetrData = false
is_answer _ = true

-- The number came late.
abbrev pub is_late : NumberOrder → Bool
is_late Late = true
is_late _ = false

-- The PDU is the first that confirms its timestamp.
abbrev pub is_first_answer : ℕ → Header → Remarks → Bool
is_first_answer confirmed h r =
    is_answer h.kind && (is_some r.age && (not (is_late r.together) && not (h.cts == confirmed)))

-- The round trips after a PDU, by when the PDU that it confirms was sent.
abbrev pub measure_round_trip : Bool → Measurements → Option ℕ → ℕ → Header → Measurements
measure_round_trip true m sent time h = record m { round_trips = with_span m.round_trips sent time; confirmed = h.cts }
measure_round_trip false m sent time h = m

-- The silence before a PDU; before the first one of a session there is none.
abbrev pub measure_silence : Measurements → ℕ → Measurements
measure_silence m time =
    if nat_lt 0 m.last then record m { silences = with_value m.silences (millis_between m.last time) } else m

-- One more unit, limited to 2^16 - 1, if the PDU is one.
abbrev pub with_unit : ℕ → Kind → ℕ
with_unit units Data = min (units + 1) (2 ^ 16 - 1)
with_unit units _ = units

-- The units in the second of a PDU, with this one.
abbrev pub units_in_second : Measurements → ℕ → Kind → ℕ
units_in_second m time kind = with_unit (if time / 1000000 == m.last / 1000000 then m.units else 0) kind

-- The units after a PDU.
abbrev pub add_unit : Measurements → ℕ → Kind → Measurements
add_unit m time kind =
    record m { units = units_in_second m time kind; busiest = max m.busiest (units_in_second m time kind) }

-- The end with a new PDU kept in the slot of its sequence number.
abbrev pub store_moment : Measurements → Header → ℕ → Measurements
store_moment m h time =
    record m {
      stamps = slice_set m.stamps (h.sn % MOMENTS) h.ts;
      times = slice_set m.times (h.sn % MOMENTS) time;
      last = time;
    }

-- The end with the wait of a PDU.
abbrev pub measure_wait : Measurements → Option ℕ → Measurements
measure_wait m waits = record m { waits = with_some m.waits waits }

-- The end after a new PDU.
abbrev pub measure_new_pdu : Measurements → Option ℕ → ℕ → Header → Remarks → Measurements
measure_new_pdu m sent time h r =
    store_moment
    (add_unit
    (measure_wait (measure_silence (measure_round_trip (is_first_answer m.confirmed h r) m sent time h) time) r.waits)
    time h.kind)
    h time

-- The end after a copy on another channel: the skew is the time since the first copy, if that is kept.
abbrev pub measure_skew : Measurements → ℕ → Header → Measurements
measure_skew m time h = record m { skews = with_span m.skews (moment_of m h.sn h.ts) time }

-- The end with the PDUs before its opening forgotten, if this is one.
abbrev pub forget_moments_if : Bool → Measurements → Measurements
forget_moments_if true m = forget_moments m
forget_moments_if false m = m

-- The end after one more of its PDUs.
abbrev pub measure_pdu : Measurements → Option ℕ → ℕ → Header → Remarks → Measurements
measure_pdu m sent time h r =
    if is_new r.together then measure_new_pdu m sent time h r
    else if is_copy_elsewhere r.together r.channel then measure_skew m time h
    else m

-- The end after one more of its PDUs, which may open a session.
abbrev pub measurements_after : Measurements → Option ℕ → ℕ → Header → Remarks → Measurements
measurements_after m sent time h r = measure_pdu (forget_moments_if r.opens m) sent time h r

-- The measures after a PDU of the end with the lower identifier (`true`), or of the other end.
abbrev pub measures_after : Measures → Bool → ℕ → Header → Remarks → Measures
measures_after ms true time h r = record ms { low = measurements_after ms.low (moment_of ms.high h.cs h.cts) time h r }
measures_after ms false time h r =
    record ms { high = measurements_after ms.high (moment_of ms.low h.cs h.cts) time h r }
