-- The rest of the list is shorter.
use Rattle.std.proofs.Common.{length}
use Rattle.settings_file.proofs.mistakes.+find_repeats.Given as goal

abbrev pub decreases-find_repeats : goal.decreases-find_repeats
decreases-find_repeats l = length l.texts.now
