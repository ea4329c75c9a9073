use Rattle.std.proofs.Common.{◌≡◌, ◌<◌, ◌≤◌, ◌∙◌, ◌∷◌, ◌++◌, ◌-◌, [], ℕ, List, Some, ap, arith, drop, length, slice_get, sym, take}
use Rattle.circular_buffer.specs.Buffer.{buffer}
use Rattle.safe_machine.specs.retrans.Units.{Kept, Stored, unit_values}
use Rattle.safe_machine.proofs.RingLemmas.{Rises-drop, kept_of, length-turned_more, turned, turned_more, units-turned}
use Rattle.safe_machine.proofs.retrans.unconfirmed.Unconfirmed.free.Goals as goal
use Rattle.safe_machine.proofs.retrans.unconfirmed.Unconfirmed.free.Goals.{After-loop}

-- After the loop, the units in use are those that are not dropped.
units_left : (g : _) (c : After-loop g)
    → unit_values (take c.loop.self-inside.count c.loop.self-inside.places.items)
    ≡ drop c.args.dropped (unit_values (take c.self.inside.count c.self.inside.places.items))
units_left g c =
    let items = c.self.inside.places.items in
    let within : c.self.inside.count ≤ length items = omega (arith, c.self.invariant.0.full, c.self.invariant.0.few) in
    let all : c.loop.counter ≡ c.args.dropped = omega (arith, c.loop-test.false, c.loop.auto.counter-end) in
    ap (λ (n : ℕ). unit_values (take n c.loop.self-inside.places.items)) c.loop.invariant.count
    ∙ ap (λ (ps : List Stored). unit_values (take (c.self.inside.count - c.args.dropped) ps))
    (c.loop.invariant.items ∙ ap (λ (n : ℕ). turned n items) all)
    ∙ units-turned items c.args.dropped c.self.inside.count (omega (arith, c.if-self-gt0.true)) within

pub invariant_of-self : goal.invariant_of-self
invariant_of-self g c = (
  c.loop.invariant.ring,
  rw (units_left g c)
      (Rises-drop c.args.dropped (unit_values (take c.self.inside.count c.self.inside.places.items))
      c.self.invariant.1),
)

pub loop-preserved : goal.loop-preserved
loop-preserved g c =
    let items = c.self.inside.places.items in
    let few : c.args.dropped ≤ c.self.inside.count = omega (arith, c.if-self-gt0.true) in
    let lt : c.loop.counter < length items =
    omega (arith, c.loop-test.true, few, c.self.invariant.0.full, c.self.invariant.0.few) in
    let at : slice_get c.loop.self-inside.places.items 0 ≡ Some c.unwrap-place.result =
    sym c.pop_front.ensures.value ∙ c.unwrap-place.ensures in
    let is : c.try_push_back.new.self ≡ buffer (drop 1 c.loop.self-inside.places.items ++ c.unwrap-place.result ∷ [])
    c.loop.self-inside.places.capacity =
    rw (c.pop_front.ensures.items, c.unwrap.ensures) at c.try_push_back.ensures.ok in
    let some : 0 < length c.loop.self-inside.places.items =
    omega (arith, c.loop.invariant.ring.full, c.loop.invariant.room, c.self.invariant.0.full, lt) in
    rw is (record {
      items =
          ap (λ (ps : List Stored). drop 1 ps ++ c.unwrap-place.result ∷ []) c.loop.invariant.items
          ∙ turned_more items c.loop.counter c.unwrap-place.result lt
          (ap (λ (ps : List Stored). slice_get ps 0) (sym c.loop.invariant.items) ∙ at);
      ring =
          record {
            full = length-turned_more c.loop.self-inside.places.items c.unwrap-place.result some
                ∙ c.loop.invariant.ring.full;
            few = c.loop.invariant.ring.few;
            fits = c.loop.invariant.ring.fits;
          };
      room = c.loop.invariant.room;
      count = c.loop.invariant.count;
    })

pub returns-after-loop : goal.returns-after-loop
returns-after-loop g c =
    ap (kept_of c.loop.self-inside.places.capacity) (units_left g c)
    ∙ ap
    (λ (n : ℕ). kept_of n (drop c.args.dropped (unit_values (take c.self.inside.count c.self.inside.places.items))))
    c.loop.invariant.room
    ∙ ap (λ (k : Kept). kept_of k.room (drop c.args.dropped k.units)) c.self.view_is
