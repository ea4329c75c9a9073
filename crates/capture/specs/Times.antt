-- The options of an interface: the unit and the offset of its times, and times in them.
use Rattle.std.specs.Prelude.{ℕ, ◌+◌, ◌-◌, ◌*◌, ◌/◌, ◌%◌, ◌^◌, ◌&&◌, ◌||◌, ◌==◌, Bool, nat_eq, nat_lt, nat_le, min, List, fold, if◌then◌else◌, Option, Some, None}
use Rattle.capture.specs.Places.{long_at, octet_at, short_at}
use Rattle.capture.specs.declared.interfaces.TimeOffset.{TimeOffset}
use Rattle.capture.specs.declared.interfaces.TimeOffset.TheVariants.{Later, Earlier}
use Rattle.capture.specs.declared.interfaces.Walk.{Walk}
use Rattle.capture.specs.declared.interfaces.Walk.TheVariants.{At, Found, Ended}

-- A place further on, limited to 2^64 - 1.
abbrev pub above : ℕ → ℕ → ℕ
above place more = min (place + more) (2 ^ 64 - 1)

-- An option, by its code and size. Code 0 ends the options, and the wanted one is found at its value. After any other,
-- the next option follows the value, which is padded to a multiple of four bytes.
abbrev pub option_with : ℕ → ℕ → ℕ → Option ℕ → Option ℕ → Walk
option_with code size place (Some c) (Some s) =
    if nat_eq c 0 then Ended
    else if (c == code) && (s == size) then Found (above place 4)
    else At (above place (4 + (s + 3) / 4 * 4))
option_with code size place _ _ = Ended

-- The option at a place, in the byte order of the file.
abbrev pub option_seen : Bool → ℕ → ℕ → List ℕ → ℕ → Walk
option_seen big code size inner place =
    option_with code size place (short_at big place inner) (short_at big (above place 2) inner)

-- The walk after one more option.
abbrev pub option_step : Bool → ℕ → ℕ → List ℕ → Walk → Walk
option_step big code size inner (At place) = option_seen big code size inner place
option_step big code size inner (Found place) = Found place
option_step big code size inner Ended = Ended

-- The place that a walk found.
abbrev pub walk_place : Walk → Option ℕ
walk_place (Found place) = Some place
walk_place (At place) = None
walk_place Ended = None

-- The place of the value of the first option with this code and size in a description, from the eighth byte on.
abbrev pub option_of : Bool → ℕ → ℕ → List ℕ → Option ℕ
option_of big code size inner = walk_place (fold (λ walk octet. option_step big code size inner walk) (At 8) inner)

-- A unit that was read; microseconds (6) if there is none.
abbrev pub unit_or_micros : Option ℕ → ℕ
unit_or_micros (Some resolution) = resolution
unit_or_micros None = 6

-- The unit at the place of its option.
abbrev pub resolution_at : List ℕ → Option ℕ → ℕ
resolution_at inner (Some place) = unit_or_micros (octet_at place inner)
resolution_at inner None = 6

-- The unit in the options of a description: the option 9 of one byte.
abbrev pub resolution_of : Bool → List ℕ → ℕ
resolution_of big inner = resolution_at inner (option_of big 9 1 inner)

-- The offset of a signed number of 64 bits in two halves.
abbrev pub offset_with : ℕ → ℕ → TimeOffset
offset_with high low =
    if nat_lt high (2 ^ 31) then Later (high * 2 ^ 32 + low) else Earlier (2 ^ 64 - (high * 2 ^ 32 + low))

-- The offset of eight bytes in this order; 0 if there are too few.
abbrev pub offset_between : Bool → Option ℕ → Option ℕ → TimeOffset
offset_between big (Some front) (Some back) = if big then offset_with front back else offset_with back front
offset_between big _ _ = Later 0

-- The offset in the eight bytes at a place.
abbrev pub offset_from : Bool → List ℕ → ℕ → TimeOffset
offset_from big inner place = offset_between big (long_at big place inner) (long_at big (above place 4) inner)

-- The offset at the place of its option.
abbrev pub offset_at : Bool → List ℕ → Option ℕ → TimeOffset
offset_at big inner (Some place) = offset_from big inner place
offset_at big inner None = Later 0

-- The offset in the options of a description: the option 14 of eight bytes.
abbrev pub offset_of : Bool → List ℕ → TimeOffset
offset_of big inner = offset_at big inner (option_of big 14 8 inner)

-- A time with an offset, in microseconds.
abbrev pub add_offset : TimeOffset → ℕ → ℕ
add_offset (Later seconds) micros = above micros (min (seconds * 1000000) (2 ^ 64 - 1))
add_offset (Earlier seconds) micros = micros - min (seconds * 1000000) (2 ^ 64 - 1)

-- The units in which times can be read: 10^0 to 10^-19 seconds, and 2^0 to 2^-40.
abbrev pub is_unit : ℕ → Bool
is_unit resolution = nat_le resolution 19 || (nat_le 128 resolution && nat_le resolution 168)

-- A power of ten, at most the 13th.
abbrev pub ten_to : ℕ → ℕ
ten_to power =
    if nat_eq power 0 then 1
    else if nat_eq power 1 then 10
    else if nat_eq power 2 then 100
    else if nat_eq power 3 then 1000
    else if nat_eq power 4 then 10000
    else if nat_eq power 5 then 100000
    else if nat_eq power 6 then 1000000
    else if nat_eq power 7 then 10000000
    else if nat_eq power 8 then 100000000
    else if nat_eq power 9 then 1000000000
    else if nat_eq power 10 then 10000000000
    else if nat_eq power 11 then 100000000000
    else if nat_eq power 12 then 1000000000000
    else 10000000000000

-- Microseconds of a time in units of a negative power of ten of a second.
abbrev pub decimal_micros : ℕ → ℕ → ℕ
decimal_micros power ticks =
    if nat_le power 6 then min (ticks * ten_to (6 - power)) (2 ^ 64 - 1) else ticks / ten_to (power - 6)

-- Microseconds of a time in units of a negative power of two of a second, at most the 40th.
abbrev pub binary_micros : ℕ → ℕ → ℕ
binary_micros power ticks =
    min
    (min (ticks / 2 ^ min power 40 * 1000000) (2 ^ 64 - 1) + min (ticks % 2 ^ min power 40 * 1000000) (2 ^ 64 - 1) / 2 ^
    min power 40)
    (2 ^ 64 - 1)

-- Whole microseconds of a 64-bit time, limited to 2^64 - 1.
abbrev pub tick_micros : ℕ → ℕ → ℕ → ℕ
tick_micros resolution high low =
    if nat_lt resolution 128 then decimal_micros resolution (high * 2 ^ 32 + low)
    else binary_micros (resolution - 128) (high * 2 ^ 32 + low)
