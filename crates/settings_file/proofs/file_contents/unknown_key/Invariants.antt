-- All keys so far are known.
use Rattle.std.proofs.Common.{◌≡◌}
use Rattle.toml.specs.View.{members_view, table_view}
use Rattle.settings_file.specs.FileContents.{first_unknown}
use Rattle.settings_file.proofs.file_contents.unknown_key.Given as goal

abbrev pub invariant-loop-key : goal.invariant-loop-key
invariant-loop-key l = first_unknown (members_view l.key-iterator) ≡ first_unknown (table_view l.table)
