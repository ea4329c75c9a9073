-- The lines of a capture, as bytes.
use Rattle.std.specs.Prelude.{ℕ, ◌==◌, Bool, nat_lt, List, [], ◌∷◌, ◌++◌, length, take, if◌then◌else◌}

-- A line has at most 8,192 bytes with its line feed: twice as many as the hexadecimal digits of the longest payload
-- that is kept, 2,048 bytes, so some 4,000 are left for the other fields. Of a longer line, one byte more is kept, so
-- that it is recognised.

-- The line is longer than the limit.
abbrev pub is_long : List ℕ → Bool
is_long line = nat_lt 8192 (length line)

-- The prefix of a line that is kept.
abbrev pub cut_line : List ℕ → List ℕ
cut_line line = take 8193 line

-- The lines of a text, each with its line feed, after a prefix of the first one; the last may have no line feed.
abbrev pub lines_from : List ℕ → List ℕ → List (List ℕ)
lines_from [] [] = []
lines_from (y ∷ ys) [] = (y ∷ ys) ∷ []
lines_from front (x ∷ xs) = if x == 10 then (front ++ x ∷ []) ∷ lines_from [] xs else lines_from (front ++ x ∷ []) xs

-- The lines of a text.
abbrev pub lines_of : List ℕ → List (List ℕ)
lines_of octets = lines_from [] octets
