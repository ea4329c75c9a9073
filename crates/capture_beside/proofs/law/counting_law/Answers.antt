use Rattle.std.proofs.Common.{refl}
use Rattle.capture_beside.proofs.WaySums.{arrives, closes}
use Rattle.capture_beside.proofs.law.counting_law.Goals as goal

pub returns-clause-arrivals : goal.returns-clause-arrivals
returns-clause-arrivals c = arrives

pub returns-clause-closing : goal.returns-clause-closing
returns-clause-closing c = closes
