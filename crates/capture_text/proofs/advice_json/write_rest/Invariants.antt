use Rattle.std.proofs.Common.{drop, List, ℕ, Option}
use Rattle.std.specs.Io.KnownBytes.{Appends}
use Rattle.capture_text.specs.AdviceJson.{rest_json}
use Rattle.capture_text.proofs.advice_json.write_rest.Given as goal

-- The text so far and that of the remaining connections make up the whole text.
abbrev pub invariant-loop-entry : goal.invariant-loop-entry
invariant-loop-entry g l =
    (end : Option (List ℕ)) → Appends (g.W.Write.contents l.writer) end (rest_json (drop l.entry-index l.connections))
    → Appends (g.W.Write.contents l.initial.writer) end (rest_json l.connections)
