-- The texts read so far, followed by those of the other items, are the whole list.
use Rattle.std.proofs.Common.{◌≡◌, ◌++◌, drop, map, option_map, string_bytes}
use Rattle.toml.specs.View.{items_view}
use Rattle.settings_file.specs.Readers.{texts_of}
use Rattle.settings_file.proofs.lists.texts.Given as goal

abbrev pub invariant-loop-item : goal.invariant-loop-item
invariant-loop-item l = option_map (λ ts. map string_bytes l.all.items ++ ts)
    (texts_of (items_view (drop l.item-index l.items))) ≡ texts_of (items_view l.items)
