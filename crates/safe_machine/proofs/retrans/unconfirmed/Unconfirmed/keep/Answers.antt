use Rattle.std.proofs.Common.{◌<◌, ap, arith, length}
use Rattle.std.proofs.lemmas.List.{length-set}
use Rattle.safe_machine.specs.retrans.Units.{Kept, Numbered}
use Rattle.safe_machine.proofs.RingLemmas.{length-units, units-more}
use Rattle.safe_machine.proofs.UnitLemmas.{Rises-sent}
use Rattle.safe_machine.proofs.retrans.unconfirmed.Unconfirmed.keep.Goals as goal

pub invariant_of-self : goal.invariant_of-self
invariant_of-self g c =
    let items = c.self.inside.places.items in
    let few : c.self.inside.count < c.self.inside.places.capacity =
    omega (
      arith,
      c.requires.room,
      ap (λ (k : Kept). length k.units) c.self.view_is,
      ap (λ (k : Kept). k.room) c.self.view_is,
      length-units items c.self.inside.count (omega (arith, c.self.invariant.0.full, c.self.invariant.0.few)),
    ) in
    let u : Numbered = record { number = c.args.number; octets = c.args.octets.now } in (
      record {
        full = omega (arith, length-set items c.self.inside.count c.write_unit.new.place, c.self.invariant.0.full);
        few = omega (arith, few);
        fits = c.self.invariant.0.fits;
      },
      rw (
        units-more items c.self.inside.count c.write_unit.new.place (omega (arith, few, c.self.invariant.0.full)),
        c.write_unit.ensures.number,
        c.write_unit.ensures.octets,
      )
          (Rises-sent _ u c.self.invariant.1 (rw (← ap (λ (k : Kept). k.units) c.self.view_is) at c.requires.above)),
    )
