-- The faults found so far, followed by those of the other entries, are all faults; the next entry has the next number.
use Rattle.std.proofs.Common.{◌≡◌, ◌+◌, ◌++◌, drop, map}
use Rattle.toml.specs.View.{items_view}
use Rattle.settings_file.specs.Findings.{entry_faults, finding_seen}
use Rattle.settings_file.proofs.all_faults.find_entries.Given as goal

abbrev pub invariant-loop-item : goal.invariant-loop-item
invariant-loop-item l =
    (l.place ≡ l.item-index + 1)
    × (map finding_seen l.list.items ++ entry_faults l.named l.place (items_view (drop l.item-index l.items))
    ≡ map finding_seen l.initial.list.items ++ entry_faults l.named 1 (items_view l.items))
