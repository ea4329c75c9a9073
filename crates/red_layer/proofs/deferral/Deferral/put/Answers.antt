use Rattle.std.proofs.Common.{◌≡◌, ◌+◌, ◌∙◌, ap, arith, length}
use Rattle.red_layer.specs.FiniteMap.{entries_of}
use Rattle.red_layer.proofs.FiniteMap.{length-put_in}
use Rattle.red_layer.proofs.Entries.{entries_fit}
use Rattle.red_layer.proofs.deferral.Deferral.put.Goals as goal

pub overflow_add-self : goal.overflow_add-self
overflow_add-self g c =
    let few = entries_fit c.self.inside.places.items in
    omega (arith, few, c.self.invariant.1, c.if-self-len.false, c.len.ensures)

pub invariant_of-self : goal.invariant_of-self
invariant_of-self g c =
    let more : length (entries_of c.put_among.new.places.items) ≡ length (entries_of c.self.inside.places.items) + 1 =
    ap length c.in-Ok.ensures.ok ∙ length-put_in c.args.seq c.args.part (entries_of c.self.inside.places.items) in
    (c.put_among.ensures.rises, omega (arith, c.self.invariant.1, more))
