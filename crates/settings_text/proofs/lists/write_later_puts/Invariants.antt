use Rattle.std.proofs.Common.{drop, map, string_bytes, ℕ, List, Option}
use Rattle.std.specs.Io.KnownBytes.{Appends}
use Rattle.settings_file.specs.Groups.{put_seen}
use Rattle.settings_text.specs.InForce.{all_texts, later_put}
use Rattle.settings_text.proofs.lists.write_later_puts.Given as goal

-- Writing the items that are left completes all items.
abbrev pub invariant-loop-put : goal.invariant-loop-put
invariant-loop-put g l =
    (end : Option (List ℕ)) → Appends (g.W.Write.contents l.writer) end
    (all_texts later_put (map put_seen (drop l.put-index l.puts)))
    → Appends (g.W.Write.contents l.initial.writer) end (all_texts later_put (map put_seen l.puts))
