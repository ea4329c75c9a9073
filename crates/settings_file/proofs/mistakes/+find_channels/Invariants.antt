-- The rest of the list is shorter.
use Rattle.std.proofs.Common.{length}
use Rattle.settings_file.proofs.mistakes.+find_channels.Given as goal

abbrev pub decreases-find_channels : goal.decreases-find_channels
decreases-find_channels l = length l.local.now
