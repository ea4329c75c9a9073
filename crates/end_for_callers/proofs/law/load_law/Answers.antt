use Rattle.end_for_callers.proofs.Loads.{load_law_holds}
use Rattle.end_for_callers.proofs.Sizes.{size_law_holds}
use Rattle.end_for_callers.proofs.law.load_law.Goals as goal

pub returns : goal.returns
returns c = record { load = load_law_holds; size = size_law_holds }
