use Rattle.std.proofs.Common.{drop, List, ℕ, Option}
use Rattle.std.specs.Io.KnownBytes.{Appends}
use Rattle.capture_beside.specs.Json.{more_json}
use Rattle.capture_beside.proofs.json.write_more.Given as goal

-- The objects so far and those of the remaining ways make up all of them.
abbrev pub invariant-loop-way : goal.invariant-loop-way
invariant-loop-way g l =
    (end : Option (List ℕ)) → Appends (g.W.Write.contents l.writer) end (more_json l.ways (drop l.way-index l.rest))
    → Appends (g.W.Write.contents l.initial.writer) end (more_json l.ways l.rest)
