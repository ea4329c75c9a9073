use Rattle.std.proofs.Common.{refl}
use Rattle.capture_beside.proofs.delays.Delays.new.Goals as goal

pub returns : goal.returns
returns c = (refl, c.in_ok-vec.ensures.items_if_clones_equal (λ y same. same))
