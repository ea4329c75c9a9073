-- There is one number for each item so far; these and the numbers of the other items are the whole list.
use Rattle.std.proofs.Common.{◌≡◌, ◌++◌, drop, option_map}
use Rattle.arrayvec.specs.ArrayVec.{array_vec_len}
use Rattle.toml.specs.View.{items_view}
use Rattle.settings_file.specs.Readers.{octets_of}
use Rattle.settings_file.proofs.readers.octet_list.Given as goal

abbrev pub invariant-loop-item : goal.invariant-loop-item
invariant-loop-item l = (array_vec_len l.list ≡ l.item-index)
    × (option_map (λ ts. l.list.items ++ ts) (octets_of (items_view (drop l.item-index l.items)))
    ≡ octets_of (items_view l.items))
