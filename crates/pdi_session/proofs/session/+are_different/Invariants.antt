use Rattle.std.proofs.Common.{length}
use Rattle.pdi_session.proofs.session.+are_different.Given as goal

-- fewer versions are left
abbrev pub decreases-are_different : goal.decreases-are_different
decreases-are_different l = length l.versions.now
