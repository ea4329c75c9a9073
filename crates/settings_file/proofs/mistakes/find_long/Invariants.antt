-- The warnings found so far, followed by those of the other telegrams, are all warnings; the next telegram has the next
-- number.
use Rattle.std.proofs.Common.{◌≡◌, ◌+◌, ◌++◌, drop, map}
use Rattle.settings_file.specs.Groups.{put_seen}
use Rattle.settings_file.specs.Warnings.{long_payloads}
use Rattle.settings_file.proofs.mistakes.find_long.Given as goal

abbrev pub invariant-loop-put : goal.invariant-loop-put
invariant-loop-put l =
    (l.entry ≡ l.put-index + 1)
    × (l.list.items ++ long_payloads l.entry (map put_seen (drop l.put-index l.puts))
    ≡ l.initial.list.items ++ long_payloads 1 (map put_seen l.puts))
