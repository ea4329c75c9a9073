-- The constants as numbers. RFC 1320, section 3.3, gives the words A, B, C and D as bytes 01 23 45 67, 89 ab cd ef, fe
-- dc ba 98, 76 54 32 10, the least significant one first. A digest has these four words (section 3.5).
use Rattle.std.specs.Prelude.{◌≡◌, ℕ, [], ◌∷◌}
use Rattle.md4.specs.declared.TheConstants.{INITIAL_VALUE, DIGEST_SIZE}

-- `INITIAL_VALUE` has the four words of the RFC, and a digest has 16 bytes
abbrev pub NumbersAre : Type 0
NumbersAre = (INITIAL_VALUE ≡ 1732584193 ∷ 4023233417 ∷ 2562383102 ∷ 271733878 ∷ []) × (DIGEST_SIZE ≡ 16)
