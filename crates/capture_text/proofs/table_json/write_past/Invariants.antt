use Rattle.std.proofs.Common.{drop, List, ℕ, Option}
use Rattle.std.specs.Io.KnownBytes.{Appends}
use Rattle.capture_text.specs.TableJson.{past_json}
use Rattle.capture_text.proofs.table_json.write_past.Given as goal

-- The objects so far and those of the remaining sessions make up all of them.
abbrev pub invariant-loop-session : goal.invariant-loop-session
invariant-loop-session g l =
    (end : Option (List ℕ)) → Appends (g.W.Write.contents l.writer) end
    (past_json l.ends.0 l.ends.1 (drop l.session-index l.past))
    → Appends (g.W.Write.contents l.initial.writer) end (past_json l.ends.0 l.ends.1 l.past)
