use Rattle.stack_end.proofs.Words.{ap, arith, sym, ◌∙◌}
use Rattle.std.specs.Prelude.{option_map}
use Rattle.safe_machine.specs.retrans.Units.{octets_of}
use Rattle.stack_end.proofs.Deliveries.{units-next, units-past}
use Rattle.stack_end.proofs.upper.UpperLayers.items_unconfirmed.Goals as goal
use Rattle.stack_end.proofs.upper.UpperLayers.items_unconfirmed.Goals.{in-Some, in_default}

pub loop-place-preserved : goal.loop-place-preserved
loop-place-preserved g c =
    let us = octets_of c.args.self.now.machine.ring in
    let i = c.loop-place.invariant in
    elim c.match-unit.branch [
      | in-Some w ↦
          let next = units-next us c.loop-place.place c.unit.result w.in-Some.unit c.unit.ensures w.in-Some.is in
          let few = w.items_in_unit-items.ensures.few in
          record {
            counted = omega (arith, i.counted, next, w.items_in_unit-items.ensures.count, w.items-is);
            few = omega (arith, i.few, few, w.items-is);
          }
      | in_default w ↦
          let past = units-past us c.loop-place.place (sym c.unit.ensures
          ∙ ap (option_map (λ octets. octets.now)) w.in_default.is) in
          record { counted = omega (arith, i.counted, past, w.items-is); few = omega (arith, i.few, w.items-is) }
    ]
