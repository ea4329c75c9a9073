-- The rest of the list is shorter.
use Rattle.std.proofs.Common.{length}
use Rattle.settings_file.proofs.all_faults.+find_plain.Given as goal

abbrev pub decreases-find_plain : goal.decreases-find_plain
decreases-find_plain l = length l.keys.now
