use Rattle.std.proofs.Common.{◌≡◌, ◌<◌, ◌∙◌, Some, ap, arith, drop, slice_get, sym, take}
use Rattle.std.specs.Option.{option_copied}
use Rattle.safe_machine.specs.retrans.Units.{Kept, above, unit_value, unit_values}
use Rattle.safe_machine.proofs.RingLemmas.{one_confirmed, rest_kept, unit_at}
use Rattle.safe_machine.proofs.retrans.unconfirmed.Unconfirmed.count_up_to.Goals as goal

pub returns-then-unwrap-number-clause-left : goal.returns-then-unwrap-number-clause-left
returns-then-unwrap-number-clause-left g c =
    let us = unit_values (take c.self.inside.count c.self.inside.places.items) in
    let read : slice_get c.self.inside.places.items c.loop-place.place ≡ Some c.unwrap.result.now =
    sym c.get.ensures ∙ ap option_copied c.unwrap.ensures in
    let lt : c.loop-place.place < c.self.inside.count = omega (arith, c.loop-place-test.true) in
    let at = unit_at c.self.inside.places.items c.loop-place.place c.self.inside.count c.unwrap.result.now read lt in
    let kept : drop c.loop-place.place us ≡ above c.args.number us =
    rest_kept c.args.number us c.loop-place.place (unit_value c.unwrap.result.now) at c.if-unwrap-number.true
    c.self.invariant.1
    ∙ c.loop-place.invariant.left
    in
    rw (ap (λ (k : Kept). k.units) c.self.view_is) at kept

pub loop-place-preserved : goal.loop-place-preserved
loop-place-preserved g c =
    let us = unit_values (take c.self.inside.count c.self.inside.places.items) in
    let read : slice_get c.self.inside.places.items c.loop-place.place ≡ Some c.unwrap.result.now =
    sym c.get.ensures ∙ ap option_copied c.unwrap.ensures in
    let lt : c.loop-place.place < c.self.inside.count = omega (arith, c.loop-place-test.true) in
    let at = unit_at c.self.inside.places.items c.loop-place.place c.self.inside.count c.unwrap.result.now read lt in
    record {
      left =
          one_confirmed c.args.number us c.loop-place.place (unit_value c.unwrap.result.now) at
          (omega (arith, c.if-unwrap-number.false))
          ∙ c.loop-place.invariant.left;
    }
