-- The fields of a line: what their bytes spell.
use Rattle.std.specs.Prelude.{ℕ, ◌+◌, ◌*◌, ◌==◌, ◌&&◌, nat_le, nat_eq, count_by, Bool, false, List, [], ◌∷◌, length, take, drop, if◌then◌else◌, Option, Some, None}
use Rattle.std.specs.List.{list_all, position}
use Rattle.std.specs.Char.{is_ascii_digit}
use Rattle.std.specs.Str.Parse.{digits_value}
use Rattle.std.specs.Net.Addr.{octets_of}
use Rattle.std.specs.Net.Reader.{read_ipv6, whole_value}
use Rattle.capture.specs.declared.line.Host.{Host}
use Rattle.capture.specs.declared.words.TheConstants.{SECONDS_MAX}
use Rattle.capture.specs.declared.line.Host.TheVariants.{V4, V6}

-- The place of the first mark.
abbrev pub place_of : ℕ → List ℕ → Option ℕ
place_of mark octets = position (λ o. o == mark) octets

-- The text up to a place: all if there is no place.
abbrev pub up_to : Option ℕ → List ℕ → List ℕ
up_to (Some place) octets = take place octets
up_to None octets = octets

-- The text before the first mark: all if there is no mark.
abbrev pub before : ℕ → List ℕ → List ℕ
before mark octets = up_to (place_of mark octets) octets

-- The text after a place: nothing if there is no place.
abbrev pub from : Option ℕ → List ℕ → List ℕ
from (Some place) octets = drop 1 (drop place octets)
from None octets = []

-- The text after the first mark: nothing if there is no mark.
abbrev pub behind : ℕ → List ℕ → List ℕ
behind mark octets = from (place_of mark octets) octets

-- The number of marks in a text.
abbrev pub marks : ℕ → List ℕ → ℕ
marks mark octets = count_by (λ o. o == mark) octets

-- One or more decimal digits.
abbrev pub is_numeral : List ℕ → Bool
is_numeral [] = false
is_numeral (digit ∷ digits) = list_all is_ascii_digit (digit ∷ digits)

-- The number that the digits spell, if it is at most `most`.
abbrev pub number_of : ℕ → List ℕ → Option ℕ
number_of most word =
    if is_numeral word && nat_le (digits_value 10 word) most then Some (digits_value 10 word) else None

-- Four bytes, if all four were read.
abbrev pub four : Option ℕ → Option ℕ → Option ℕ → Option ℕ → Option (List ℕ)
four (Some a) (Some b) (Some c) (Some d) = Some (a ∷ b ∷ c ∷ d ∷ [])
four _ _ _ _ = None

-- The four bytes of an IPv4 address: four numbers of at most 255 separated by points.
abbrev pub four_of : List ℕ → Option (List ℕ)
four_of text =
    if nat_eq (marks 46 text) 3 then
    four (number_of 255 (before 46 text)) (number_of 255 (before 46 (behind 46 text)))
    (number_of 255 (before 46 (behind 46 (behind 46 text)))) (number_of 255 (behind 46 (behind 46 (behind 46 text))))
    else None

-- The sixteen bytes of eight groups.
abbrev pub octets_with : Option (List ℕ) → Option (List ℕ)
octets_with (Some groups) = Some (octets_of groups)
octets_with None = None

-- The sixteen bytes of an IPv6 address (RFC 4291, 2.2). std's reader accepts exactly its `IsColonHex`.
abbrev pub sixteen_of : List ℕ → Option (List ℕ)
sixteen_of text = octets_with (whole_value (read_ipv6 text))

-- A host with these four bytes.
abbrev pub as_v4 : Option (List ℕ) → Option Host
as_v4 (Some octets) = Some (V4 octets)
as_v4 None = None

-- A host with these sixteen bytes.
abbrev pub as_v6 : Option (List ℕ) → Option Host
as_v6 (Some octets) = Some (V6 octets)
as_v6 None = None

-- A host: an IPv6 address if there is a colon, otherwise an IPv4 address.
abbrev pub host_of : List ℕ → Option Host
host_of text = if nat_eq (marks 58 text) 0 then as_v4 (four_of text) else as_v6 (sixteen_of text)

-- The digits after the point: six to nine.
abbrev pub is_fraction : List ℕ → Bool
is_fraction digits = nat_le 6 (length digits) && (nat_le (length digits) 9 && is_numeral digits)

-- The whole microseconds of a fraction: its first six digits.
abbrev pub micros_of : List ℕ → Option ℕ
micros_of fraction = if is_fraction fraction then number_of 999999 (take 6 fraction) else None

-- Microseconds from seconds and the fraction, if both were read.
abbrev pub moment : Option ℕ → Option ℕ → Option ℕ
moment (Some seconds) (Some micros) = Some (seconds * 1000000 + micros)
moment _ _ = None

-- A time: seconds, a point, a fraction.
abbrev pub time_of : List ℕ → Option ℕ
time_of text =
    if nat_eq (marks 46 text) 1 then moment (number_of SECONDS_MAX (before 46 text)) (micros_of (behind 46 text))
    else None
