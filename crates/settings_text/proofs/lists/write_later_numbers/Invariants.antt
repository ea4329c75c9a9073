use Rattle.std.proofs.Common.{drop, map, string_bytes, ℕ, List, Option}
use Rattle.std.specs.Io.KnownBytes.{Appends}
use Rattle.settings_text.specs.InForce.{all_texts, later_number}
use Rattle.settings_text.proofs.lists.write_later_numbers.Given as goal

-- Writing the items that are left completes all items.
abbrev pub invariant-loop-number : goal.invariant-loop-number
invariant-loop-number g l =
    (end : Option (List ℕ)) → Appends (g.W.Write.contents l.writer) end
    (all_texts later_number (drop l.number-index l.numbers))
    → Appends (g.W.Write.contents l.initial.writer) end (all_texts later_number l.numbers)
