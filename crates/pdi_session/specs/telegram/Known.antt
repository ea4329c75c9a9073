-- The names of two ends as a telegram has them, one after the other.
use Rattle.std.specs.Prelude.{◌≡◌, ℕ, ◌+◌, List, length, take, drop}
use Rattle.octets.specs.declared.limits.TheConstants.{NAME_LENGTH}
use Rattle.pdi_session.specs.telegram.Names.{IsName, fill_name}

-- the bytes are a valid name of this many characters, and its filling
abbrev pub IsField : ℕ → List ℕ → Type 0
IsField size field =
    IsName (take size field) × (field ≡ fill_name (take size field)) × (length (take size field) ≡ size)

-- the bytes are two names with filling; the numbers are those of their characters
abbrev pub IsPair : List ℕ → ℕ → ℕ → Type 0
IsPair octets sender receiver =
    IsField sender (take NAME_LENGTH octets) × IsField receiver (drop NAME_LENGTH octets)
    × (length octets ≡ NAME_LENGTH + NAME_LENGTH)

-- the characters of the first name, the sender's
abbrev pub first_name : List ℕ → ℕ → List ℕ
first_name octets size = take size (take NAME_LENGTH octets)

-- the characters of the second name, the receiver's
abbrev pub second_name : List ℕ → ℕ → List ℕ
second_name octets size = take size (drop NAME_LENGTH octets)
