-- Where a fault of a file is.
use Rattle.std.specs.Prelude.{ℕ, List, [], ◌∷◌, codes, Option, Some, None}
use Rattle.std.specs.Fmt.{decimal}
use Rattle.pdu_text.specs.Lines.{join_pieces}

-- the file, and the line if it is known
unfoldable pub place_text : List ℕ → Option ℕ → List ℕ
place_text file None = join_pieces (file ∷ codes ": " ∷ [])
place_text file (Some line) = join_pieces (file ∷ codes ":" ∷ decimal line ∷ codes ": " ∷ [])
