use Rattle.std.proofs.Common.{drop, List, ℕ, Option}
use Rattle.std.specs.Io.KnownBytes.{Appends}
use Rattle.capture_beside.specs.Text.{some_text}
use Rattle.capture_beside.proofs.text.write_ways.Given as goal

-- The lines so far and those of the remaining ways make up all of them.
abbrev pub invariant-loop-way : goal.invariant-loop-way
invariant-loop-way g l =
    (end : Option (List ℕ)) → Appends (g.W.Write.contents l.writer) end (some_text l.ways (drop l.way-index l.ways))
    → Appends (g.W.Write.contents l.initial.writer) end (some_text l.ways l.ways)
