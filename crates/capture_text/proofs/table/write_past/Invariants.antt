use Rattle.std.proofs.Common.{drop, List, ℕ, Option}
use Rattle.std.specs.Io.KnownBytes.{Appends}
use Rattle.capture_text.specs.TableText.{past_text}
use Rattle.capture_text.proofs.table.write_past.Given as goal

-- The lines so far and those of the remaining sessions make up all lines.
abbrev pub invariant-loop-session : goal.invariant-loop-session
invariant-loop-session g l =
    (end : Option (List ℕ)) → Appends (g.W.Write.contents l.writer) end
    (past_text l.clock l.ends.0 l.ends.1 l.at (drop l.session-index l.past))
    → Appends (g.W.Write.contents l.initial.writer) end (past_text l.clock l.ends.0 l.ends.1 l.at l.past)
