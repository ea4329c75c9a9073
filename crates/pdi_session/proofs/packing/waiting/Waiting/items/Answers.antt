use Rattle.std.proofs.Common.{◌≡◌, ◌∙◌, ◌<◌, Some, ap, arith, slice_get, sym}
use Rattle.std.specs.Option.{option_copied}
use Rattle.pdi_session.proofs.RingLemmas.{items_next}
use Rattle.pdi_session.proofs.packing.waiting.Waiting.items.Goals as goal
use Rattle.pdi_session.proofs.packing.waiting.Waiting.items.Goals.{then-is_item, else-is_item}

pub loop-place-preserved : goal.loop-place-preserved
loop-place-preserved g c =
    let at : slice_get c.self.inside.places.items c.loop-place.place ≡ Some c.unwrap.result.now =
    sym c.get.ensures ∙ ap option_copied c.unwrap.ensures in
    let lt : c.loop-place.place < c.self.inside.count = omega (arith, c.loop-place-test.true) in
    let next = items_next c.self.inside.places.items c.loop-place.place c.self.inside.count c.unwrap.result.now
    c.deref.result.now c.is_item.result at lt c.deref.ensures.0 c.is_item.ensures in
    record {
      counted = grind (arith, next, c.loop-place.invariant.counted, c.if-is_item.branch);
      few = grind (arith, c.loop-place.invariant.few, c.if-is_item.branch);
    }
