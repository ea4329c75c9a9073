-- The telegrams read so far, followed by those of the other items, are the whole list.
use Rattle.std.proofs.Common.{◌≡◌, ◌++◌, drop, map, option_map}
use Rattle.toml.specs.View.{items_view}
use Rattle.settings_file.specs.Readers.{puts_of}
use Rattle.settings_file.specs.Groups.{put_seen}
use Rattle.settings_file.proofs.lists.put_list.Given as goal

abbrev pub invariant-loop-item : goal.invariant-loop-item
invariant-loop-item l = option_map (λ ps. map put_seen l.all.items ++ ps)
    (puts_of (items_view (drop l.item-index l.items))) ≡ puts_of (items_view l.items)
