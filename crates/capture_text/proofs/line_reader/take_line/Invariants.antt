-- The text taken so far has no line feed, and its prefix is kept.
use Rattle.std.proofs.Common.{◌≡◌, ◌≢◌, ◌≤◌, ℕ, List, All, vec_len, vec_items}
use Rattle.std.specs.Io.KnownBytes.{Consumes}
use Rattle.capture_text.specs.Lines.{cut_line}
use Rattle.capture_text.proofs.line_reader.take_line.Given as goal

abbrev pub invariant-loop : goal.invariant-loop
invariant-loop g l =
    (vec_len l.line ≤ 8193) × (done : List ℕ) × (vec_items l.line ≡ cut_line done) × All (λ x. x ≢ 10) done
    × Consumes (g.R.Read.remaining l.initial.reader) (g.R.Read.remaining l.reader) done
