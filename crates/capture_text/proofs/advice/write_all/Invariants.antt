use Rattle.std.proofs.Common.{drop, List, ℕ, Option}
use Rattle.std.specs.Io.KnownBytes.{Appends}
use Rattle.capture_text.specs.Advice.{advices_text}
use Rattle.capture_text.proofs.advice.write_all.Given as goal

-- The lines so far and those of the remaining connections make up all lines.
abbrev pub invariant-loop-entry : goal.invariant-loop-entry
invariant-loop-entry g l =
    (end : Option (List ℕ)) → Appends (g.W.Write.contents l.writer) end
    (advices_text (drop l.entry-index l.connections))
    → Appends (g.W.Write.contents l.initial.writer) end (advices_text l.connections)
