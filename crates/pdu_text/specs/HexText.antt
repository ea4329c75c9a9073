-- Texts of hex digits.
use Rattle.std.specs.Prelude.{ℕ, List, [], ◌∷◌, Option, Some, None, drop}
use Rattle.std.specs.Option.{option_map}
use Rattle.std.specs.Result.{result_ok}
use Rattle.byteorder.specs.Endian.{little_number}
use Rattle.hex.specs.Hex.{decode_of, decode_sized}
use Rattle.md4.specs.declared.TheConstants.{INITIAL_VALUE}

-- the bytes that a text of hex digits encodes; an empty text is not a hex text
abbrev pub octets_of : List ℕ → Option (List ℕ)
octets_of [] = None
octets_of (c ∷ cs) = result_ok (decode_of (c ∷ cs))

-- the four words of an initial value, in the order of its bytes
abbrev pub words_of : List ℕ → List ℕ
words_of octets =
    little_number 4 octets ∷ little_number 4 (drop 4 octets) ∷ little_number 4 (drop 8 octets) ∷
    little_number 4 (drop 12 octets) ∷ []

-- the initial value in a text of 32 hex digits, and that of RFC 1320 if no text is given
abbrev pub initial_value_of : Option (List ℕ) → Option (List ℕ)
initial_value_of None = Some INITIAL_VALUE
initial_value_of (Some text) = option_map words_of (result_ok (decode_sized text 16))
