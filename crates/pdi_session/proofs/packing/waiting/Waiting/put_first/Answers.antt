use Rattle.std.proofs.Common.{◌≡◌, ◌≤◌, ◌∙◌, ◌∷◌, ◌++◌, ◌-◌, [], Some, ap, arith, drop, length, slice_get, sym, take}
use Rattle.std.specs.Option.{option_copied}
use Rattle.circular_buffer.specs.Buffer.{buffer}
use Rattle.pdi_session.proofs.RingLemmas.{all_rest, length-rotated, moved, rotated}
use Rattle.pdi_session.proofs.packing.waiting.Waiting.put_first.Goals as goal

pub invariant_of-self : goal.invariant_of-self
invariant_of-self g c =
    let items = c.self.inside.places.items in
    let is : c.try_push_back.new.self
    ≡ buffer (drop 1 items ++ c.unwrap-free.result ∷ []) c.self.inside.places.capacity =
    rw (c.pop_front.ensures.items, c.unwrap.ensures) at c.try_push_back.ensures.ok in
    let few : c.self.inside.count ≤ length items = omega (arith, c.self.invariant.0.full, c.self.invariant.0.few) in
    rw is (
      record {
        full = length-rotated items c.unwrap-free.result (omega (arith, c.self.invariant.0.full))
            ∙ c.self.invariant.0.full;
        room = c.self.invariant.0.room;
        few = omega (arith, c.self.invariant.0.few);
      },
      all_rest items _ c.self.inside.count c.self.invariant.1
          (rotated items c.unwrap-free.result c.self.inside.count few),
    )

pub returns-then-self-gt0 : goal.returns-then-self-gt0
returns-then-self-gt0 g c =
    let items = c.self.inside.places.items in
    let is : c.try_push_back.new.self
    ≡ buffer (drop 1 items ++ c.unwrap-free.result ∷ []) c.self.inside.places.capacity =
    rw (c.pop_front.ensures.items, c.unwrap.ensures) at c.try_push_back.ensures.ok in
    let few : c.self.inside.count ≤ length items = omega (arith, c.self.invariant.0.full, c.self.invariant.0.few) in
    let at : slice_get items 0 ≡ Some c.unwrap-oldest.result.now =
    sym c.front.ensures ∙ ap option_copied c.unwrap-oldest.ensures in
    moved items (take (c.self.inside.count - 1) c.try_push_back.new.self.items) c.self.inside.count
    c.unwrap-oldest.result.now c.deref.result.now c.args.unit.now.items c.put_message.new.unit.items c.args.self.now at (omega arith) c.deref.ensures.0 c.self.invariant.1 c.self.view_is
    (ap (λ b. take (c.self.inside.count - 1) b.items) is ∙ rotated items c.unwrap-free.result c.self.inside.count few)
    c.put_message.ensures
