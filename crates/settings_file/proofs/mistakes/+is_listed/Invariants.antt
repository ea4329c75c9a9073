-- The rest of the list is shorter.
use Rattle.std.proofs.Common.{length}
use Rattle.settings_file.proofs.mistakes.+is_listed.Given as goal

abbrev pub decreases-is_listed : goal.decreases-is_listed
decreases-is_listed l = length l.others.now
