use Rattle.std.proofs.Common.{◌+◌, subst}
use Rattle.red_layer.specs.FiniteMap.{Rises}
use Rattle.red_layer.proofs.RedLayer.judge.Goals as goal
use Rattle.red_layer.proofs.Runs.{Rises-map_parts}

pub follow-requires-clause-rises : goal.follow-requires-clause-rises
follow-requires-clause-rises g c =
    rw c.if-number-self-2.true
    (subst (λ r. Rises (c.self.inside.expected + 1) r.waiting) c.self.view_is
    (Rises-map_parts (λ part. part.items) _ _ c.self.invariant.rises))
