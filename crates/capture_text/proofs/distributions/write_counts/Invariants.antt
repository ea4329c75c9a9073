use Rattle.std.proofs.Common.{drop, List, ℕ, Option}
use Rattle.std.specs.Io.KnownBytes.{Appends}
use Rattle.capture_text.specs.Distributions.{counts_text}
use Rattle.capture_text.proofs.distributions.write_counts.Given as goal

-- The counts so far and the remaining ones make up all counts.
abbrev pub invariant-loop-count : goal.invariant-loop-count
invariant-loop-count g l =
    (end : Option (List ℕ)) → Appends (g.W.Write.contents l.writer) end
    (counts_text l.mark (drop l.count-index l.counts))
    → Appends (g.W.Write.contents l.initial.writer) end (counts_text l.mark l.counts)
