-- The pieces of a line of the log: the time of the end, its name, and the text of the event.
use Rattle.std.specs.Prelude.{ℕ, ◌+◌, ◌/◌, ◌%◌, List, [], ◌∷◌, codes}
use Rattle.std.specs.Fmt.{decimal}
use Rattle.end_settings.specs.declared.Side.{Side}
use Rattle.pdu_text.specs.Lines.{join_pieces}
use Rattle.pdu_text.specs.Names.{side_name}

-- the ASCII decimal digit with this weight: 1 for the last, 10 for the one before it
abbrev pub digit : ℕ → ℕ → ℕ
digit weight n = 48 + n / weight % 10

-- the last three decimal digits, with leading zeros
abbrev pub three_digits : ℕ → List ℕ
three_digits n = digit 100 n ∷ digit 10 n ∷ digit 1 n ∷ []

-- milliseconds as whole seconds, a point, three digits
unfoldable pub time_text : ℕ → List ℕ
time_text ms = join_pieces (decimal (ms / 1000) ∷ codes "." ∷ three_digits (ms % 1000) ∷ [])

-- TIME END, at the start of a line
unfoldable pub front_text : ℕ → Side → List ℕ
front_text at side = join_pieces (time_text at ∷ codes " " ∷ side_name side ∷ codes " " ∷ [])

-- TIME END TEXT
unfoldable pub log_line : ℕ → Side → List ℕ → List ℕ
log_line at side text = join_pieces (front_text at side ∷ text ∷ codes "\n" ∷ [])
