-- The rest of the list is shorter.
use Rattle.std.proofs.Common.{length}
use Rattle.settings_file.proofs.mistakes.+find_ports.Given as goal

abbrev pub decreases-find_ports : goal.decreases-find_ports
decreases-find_ports l = length l.texts.now
