use Rattle.std.proofs.Common.{length, ap, arith}
use Rattle.red_layer.proofs.Views.{length-map_parts}
use Rattle.red_layer.proofs.RedLayer.bounds.Goals as goal

pub returns : goal.returns
returns g c =
    omega (
      arith,
      c.self.invariant.bounded,
      length-map_parts (λ part. part.items) c.self.inside.waiting.waiting,
      ap (λ r. length r.waiting) c.self.view_is,
      ap (λ r. r.q) c.self.view_is,
    )
