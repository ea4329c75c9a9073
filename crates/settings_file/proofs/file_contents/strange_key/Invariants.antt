-- All keys so far are tables of ends.
use Rattle.std.proofs.Common.{◌≡◌}
use Rattle.toml.specs.View.{members_view, table_view}
use Rattle.settings_file.specs.FileContents.{first_strange}
use Rattle.settings_file.proofs.file_contents.strange_key.Given as goal

abbrev pub invariant-loop-key : goal.invariant-loop-key
invariant-loop-key l = first_strange (members_view l.key-iterator) ≡ first_strange (table_view l.table)
