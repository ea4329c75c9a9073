use Rattle.stack_end.proofs.Words.{arith}
use Rattle.stack_end.proofs.upper.UpperLayers.confirmed.Goals as goal

pub overflow_add-outstanding : goal.overflow_add-outstanding
overflow_add-outstanding g c = omega (arith, c.items.ensures.few, c.items_unconfirmed.ensures.few)
