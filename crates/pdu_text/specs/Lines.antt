-- Texts made of pieces, bytes in hex digits, and the line of a layer's fault.
use Rattle.std.specs.Prelude.{ℕ, List, [], ◌∷◌, ◌++◌, codes}
use Rattle.std.specs.Fmt.{decimal}
use Rattle.hex.specs.Hex.{encode_lower}

-- the pieces, concatenated
abbrev pub join_pieces : List (List ℕ) → List ℕ
join_pieces [] = []
join_pieces (piece ∷ pieces) = piece ++ join_pieces pieces

-- a byte in two lowercase hex digits
abbrev pub octet_text : ℕ → List ℕ
octet_text octet = encode_lower (octet ∷ [])

-- bytes in hex digits, and a dash if there are none
abbrev pub octets_text : List ℕ → List ℕ
octets_text [] = codes "-"
octets_text (octet ∷ octets) = encode_lower (octet ∷ octets)

-- LAYER fault NUMBER NAME
abbrev pub fault_line : List ℕ → ℕ → List ℕ → List ℕ
fault_line layer number name =
    join_pieces (layer ∷ codes " fault " ∷ decimal number ∷ codes " " ∷ name ∷ codes "\n" ∷ [])
