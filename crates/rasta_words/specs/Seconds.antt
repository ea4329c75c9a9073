-- The seconds of `--every`.
use Rattle.std.specs.Prelude.{◌≡◌, ℕ, ◌≤◌, Option, None, Some}
use Rattle.std.specs.Str.Parse.{IsNumeral, digits_value, without_leading_plus}
use Rattle.clap.specs.Words.{Text}

-- the word is a number of seconds from 1 to 86,400 (a day), in decimal digits, after an optional plus
abbrev pub IsSeconds : Text → ℕ → Type 0
IsSeconds word seconds =
    IsNumeral 10 (without_leading_plus word) × (digits_value 10 (without_leading_plus word) ≡ seconds) × (1 ≤ seconds)
    × (seconds ≤ 86400)

-- the word names these seconds
abbrev pub IsWrittenIn : Text → Option ℕ → Type 0
IsWrittenIn word None = ⊥
IsWrittenIn word (Some seconds) = IsSeconds word seconds

-- the seconds that the word of `--every` names; without the option none, so counts or sums are printed only at the end
abbrev pub AreSecondsChosen : Option Text → Option ℕ → Type 0
AreSecondsChosen None every = every ≡ None
AreSecondsChosen (Some word) every = IsWrittenIn word every
