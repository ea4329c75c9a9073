-- The number of items in a list of values.
use Rattle.std.proofs.Common.{List, [], ◌∷◌, length, ◌≡◌, suc, refl, ap}
use Rattle.std.proofs.Common.{map, String, Global, string_bytes}
use Rattle.toml.specs.declared.value.Value.{Value}
use Rattle.toml.specs.View.{items_view}
use Rattle.settings_file.specs.Readers.{items_length}

pub items_length_view : (vs : List Value) → items_length (items_view vs) ≡ length vs
items_length_view [] = refl
items_length_view (v ∷ vs) = ap suc (items_length_view vs)

pub length_texts : (ss : List (String Global)) → length (map string_bytes ss) ≡ length ss
length_texts [] = refl
length_texts (s ∷ ss) = ap suc (length_texts ss)
