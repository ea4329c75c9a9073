-- The rest of the list is shorter.
use Rattle.std.proofs.Common.{length}
use Rattle.settings_file.proofs.readers.+all_differ.Given as goal

abbrev pub decreases-all_differ : goal.decreases-all_differ
decreases-all_differ l = length l.numbers.now
