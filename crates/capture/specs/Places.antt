-- Numbers at places in bytes; nothing if there are not enough bytes.
use Rattle.byteorder.specs.Endian.{big_number, little_number}
use Rattle.std.specs.Prelude.{ℕ, ◌+◌, Bool, nat_lt, nat_le, List, [], ◌∷◌, length, drop, take, slice_index, if◌then◌else◌, Option, Some, None}

-- The byte at a place.
abbrev pub octet_at : ℕ → List ℕ → Option ℕ
octet_at place octets = if nat_lt place (length octets) then Some (slice_index octets place) else None

-- The 16-bit number at a place, most significant byte first.
abbrev pub big_at : ℕ → List ℕ → Option ℕ
big_at place octets = if nat_le (place + 2) (length octets) then Some (big_number 2 (drop place octets)) else None

-- The four bytes from a place on.
abbrev pub four_at : ℕ → List ℕ → Option (List ℕ)
four_at place octets =
    if nat_le (place + 4) (length octets)
    then
    Some (slice_index octets place ∷ slice_index octets (place + 1) ∷ slice_index octets (place + 2) ∷
    slice_index octets (place + 3) ∷ [])
    else None

-- The sixteen bytes from a place on.
abbrev pub sixteen_at : ℕ → List ℕ → Option (List ℕ)
sixteen_at place octets = if nat_le (place + 16) (length octets) then Some (take 16 (drop place octets)) else None

-- The 16-bit number at a place, big-endian or little-endian.
abbrev pub short_at : Bool → ℕ → List ℕ → Option ℕ
short_at big place octets =
    if nat_le (place + 2) (length octets)
    then Some (if big then big_number 2 (drop place octets) else little_number 2 (drop place octets))
    else None

-- The 32-bit number at a place, big-endian or little-endian.
abbrev pub long_at : Bool → ℕ → List ℕ → Option ℕ
long_at big place octets =
    if nat_le (place + 4) (length octets)
    then Some (if big then big_number 4 (drop place octets) else little_number 4 (drop place octets))
    else None
