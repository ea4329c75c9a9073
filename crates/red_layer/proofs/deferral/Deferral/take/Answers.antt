use Rattle.std.proofs.Common.{◌≡◌, ◌∙◌, Some, ap, arith, length, sym}
use Rattle.red_layer.specs.FiniteMap.{entries_of, part_under}
use Rattle.red_layer.proofs.FiniteMap.{length-take_out, take_out-none}
use Rattle.red_layer.proofs.deferral.Deferral.take.Goals as goal

pub invariant_of-self : goal.invariant_of-self
invariant_of-self g c =
    let es = entries_of c.self.inside.places.items in
    let there : part_under c.args.seq (entries_of c.self.inside.places.items)
    ≡ Some c.in-Some.part = sym c.in-Some.ensures.part in (
      c.take_from.ensures.rises,
      omega (
        arith,
        c.self.invariant.1,
        length-take_out c.args.seq (entries_of c.self.inside.places.items)
            c.in-Some.part there,
        ap length c.take_from.ensures.rest,
      ),
    )

pub invariant_of-self-in-None : goal.invariant_of-self-in-None
invariant_of-self-in-None g c = (
  c.take_from.ensures.rises,
  c.self.invariant.1 ∙ sym (ap length (c.take_from.ensures.rest
      ∙ take_out-none c.args.seq (entries_of c.self.inside.places.items) (sym c.in-None.ensures.part))),
)
