-- Bytes in hex digits, in order.
use Rattle.std.proofs.Common.{◌≡◌, ◌+◌, ◌<◌, ◌≤◌, ◌++◌, drop, length, List, [], ℕ, Option, arith, refl, get_or, drop-cons, suc}
use Rattle.std.proofs.lemmas.List.{drop_all}
use Rattle.std.specs.Io.KnownBytes.{Appends}
use Rattle.std.proofs.KnownBytes.{Appends-nil, Appends-trans}
use Rattle.hex.specs.Hex.{encode_lower, encode_with}
use Rattle.pdu_text.specs.Lines.{octet_text}

-- the digits from the i-th byte on are its own and those of the later ones
pub hex_first : (i : ℕ) (xs : List ℕ) → i < length xs
    → encode_lower (drop i xs) ≡ octet_text (get_or xs i 0) ++ encode_lower (drop (i + 1) xs)
unfolding encode_with
hex_first i xs inner =
    let later : i + 1 ≡ suc i = omega arith in
    rw (later, drop-cons xs i 0 inner) refl

-- a byte was written, and then the bytes after it
pub hex_left : (i : ℕ) (xs : List ℕ) (a b end : Option (List ℕ)) → i < length xs
    → Appends a b (octet_text (get_or xs i 0))
    → Appends b end (encode_lower (drop (i + 1) xs)) → Appends a end (encode_lower (drop i xs))
hex_left i xs a b end inner first behind = rw (hex_first i xs inner) (Appends-trans a b end _ _ first behind)

-- after the last byte nothing is left to write
pub hex_end : (i : ℕ) (xs : List ℕ) (a : Option (List ℕ)) → length xs ≤ i → Appends a a (encode_lower (drop i xs))
unfolding encode_with
hex_end i xs a over = let none : drop i xs ≡ [] = drop_all i xs over in rw none (Appends-nil a)
