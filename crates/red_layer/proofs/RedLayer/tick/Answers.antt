use Rattle.std.proofs.Common.{sym, subst}
use Rattle.red_layer.specs.FiniteMap.{Rises}
use Rattle.red_layer.proofs.Views.{Rises-least}
use Rattle.red_layer.proofs.RedLayer.tick.Goals as goal

pub follow-requires-clause-rises : goal.follow-requires-clause-rises
follow-requires-clause-rises g c =
    subst (λ n. Rises n c.args.self.now.waiting) (sym c.from.ensures)
    (subst (λ r. Rises c.in-Some.least r.waiting) c.self.view_is
    (Rises-least (λ part. part.items) _ c.in-Some.least c.self.inside.waiting.waiting c.self.invariant.rises
    (sym c.in-Some.ensures)))
