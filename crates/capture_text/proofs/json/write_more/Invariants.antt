use Rattle.std.proofs.Common.{drop, List, ℕ, Option}
use Rattle.std.specs.Io.KnownBytes.{Appends}
use Rattle.capture_text.specs.Json.{more_json}
use Rattle.capture_text.proofs.json.write_more.Given as goal

-- The text so far and that of the remaining connections make up the whole text.
abbrev pub invariant-loop-entry : goal.invariant-loop-entry
invariant-loop-entry g l =
    (end : Option (List ℕ)) → Appends (g.W.Write.contents l.writer) end (more_json (drop l.entry-index l.connections))
    → Appends (g.W.Write.contents l.initial.writer) end (more_json l.connections)
