-- The faults found so far, followed by those of the other keys, are all faults.
use Rattle.std.proofs.Common.{◌≡◌, ◌++◌, map}
use Rattle.toml.specs.View.{members_view, table_view}
use Rattle.settings_file.specs.FileContents.{is_known}
use Rattle.settings_file.specs.Findings.{finding_seen, unknown_in}
use Rattle.settings_file.proofs.all_faults.find_unknown.Given as goal

abbrev pub invariant-loop-key : goal.invariant-loop-key
invariant-loop-key l =
    map finding_seen l.list.items ++ unknown_in is_known l.named (members_view l.key-iterator)
    ≡ map finding_seen l.initial.list.items ++ unknown_in is_known l.named (table_view l.table)
