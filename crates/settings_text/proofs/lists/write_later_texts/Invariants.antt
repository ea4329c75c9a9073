use Rattle.std.proofs.Common.{drop, map, string_bytes, ℕ, List, Option}
use Rattle.std.specs.Io.KnownBytes.{Appends}
use Rattle.settings_text.specs.InForce.{all_texts, later_address}
use Rattle.settings_text.proofs.lists.write_later_texts.Given as goal

-- Writing the items that are left completes all items.
abbrev pub invariant-loop-text : goal.invariant-loop-text
invariant-loop-text g l =
    (end : Option (List ℕ)) → Appends (g.W.Write.contents l.writer) end
    (all_texts later_address (map string_bytes (drop l.text-index l.texts)))
    → Appends (g.W.Write.contents l.initial.writer) end (all_texts later_address (map string_bytes l.texts))
