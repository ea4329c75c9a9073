-- The value of a number grows with its digits.
use Rattle.std.proofs.Common.{◌≡◌, ◌<◌, ℕ, ◌+◌, ◌-◌, ◌*◌, List, length, take, slice_index_or, get_or, arith, true, false, sym, ◌∙◌, refl, None, Bool, [], ◌∷◌}
use Rattle.std.specs.List.{list_all}
use Rattle.std.specs.Char.{is_ascii_digit}
use Rattle.std.specs.Str.Parse.{digits_value}
use Rattle.std.proofs.lemmas.Int.Digits.{digits_value_more}
use Rattle.std.proofs.lemmas.List.Folds.{list_all_at}
use Rattle.std.proofs.lemmas.Str.Parse.{digits_value-take-le}
use Rattle.std.proofs.lemmas.Str.{digit_value_digit}
use Rattle.std.specs.Int.{IsInRange}
use Rattle.capture.specs.Words.{number_of, is_numeral}

pub in_range : (c : ℕ) → is_ascii_digit c ≡ true → IsInRange 48 57 c
in_range c h = grind arith

by_test : (b : Bool) → (b ≡ false → false ≡ true) → b ≡ true
by_test true h = refl
by_test false h = h refl

pub digit_in_range : (ds : List ℕ) (i : ℕ) → list_all is_ascii_digit ds ≡ true → i < length ds
    → is_ascii_digit (get_or ds i 0) ≡ true
digit_in_range ds i digits within =
    by_test (is_ascii_digit (get_or ds i 0)) (λ bad. sym (list_all_at is_ascii_digit ds i 0 within bad) ∙ digits)

-- The value with the next digit.
pub one_more : (ds : List ℕ) (i n : ℕ) → list_all is_ascii_digit ds ≡ true → i < length ds
    → n ≡ digits_value 10 (take i ds)
    → n * 10 + (slice_index_or ds i 0 - 48) ≡ digits_value 10 (take (i + 1) ds)
one_more ds i n digits within so_far =
    let next = digits_value_more 10 ds i within in
    let digit = digit_value_digit (get_or ds i 0) (in_range _ (digit_in_range ds i digits within)) in
    omega (arith, next, digit, so_far)

pub all_digits : (word : List ℕ) → is_numeral word ≡ true → list_all is_ascii_digit word ≡ true
all_digits [] h = grind arith
all_digits (d ∷ ds) h = h

-- The value is already too large.
pub too_large : (most : ℕ) (word : List ℕ) (i : ℕ) → most < digits_value 10 (take i word) → None ≡ number_of most word
too_large most word i above =
    let whole = digits_value-take-le 10 word i (omega arith) in
    grind (arith, whole, above)
