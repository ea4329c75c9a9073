use Rattle.std.proofs.Common.{drop, List, ℕ, Option}
use Rattle.std.specs.Io.KnownBytes.{Appends}
use Rattle.std.specs.List.{flat_map}
use Rattle.rasta_run.specs.Counts.{field_text}
use Rattle.rasta_run.proofs.counts_text.write_fields.Given as goal

-- The fields so far and those that are left make up all fields.
abbrev pub invariant-loop-name : goal.invariant-loop-name
invariant-loop-name g l =
    (end : Option (List ℕ)) → Appends (g.W.Write.contents l.writer) end
    (flat_map (λ f. field_text l.form f.0.now f.1) (drop l.name-index l.fields))
    → Appends (g.W.Write.contents l.initial.writer) end (flat_map (λ f. field_text l.form f.0.now f.1) l.fields)
