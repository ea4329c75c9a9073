use Rattle.std.proofs.Common.{◌≡◌, ◌<◌, ◌≤◌, ◌∙◌, Some, ap, arith, length, refl, slice_get, sym, take}
use Rattle.std.specs.Option.{option_copied_mut}
use Rattle.std.proofs.lemmas.List.{length-set}
use Rattle.safe_machine.specs.retrans.Units.{unit_values}
use Rattle.safe_machine.proofs.RingLemmas.{all_renumbered, is_there, length-units, step_renumbered}
use Rattle.safe_machine.proofs.UnitLemmas.{Rises-renumbered}
use Rattle.safe_machine.proofs.retrans.unconfirmed.Unconfirmed.renumber.Goals as goal

pub invariant_of-self : goal.invariant_of-self
invariant_of-self g c =
    let now = unit_values (take c.loop-far.self-inside.count c.loop-far.self-inside.places.items) in
    let far : length now ≤ c.loop-far.far =
    omega (
      arith,
      c.loop-far-test.false,
      c.loop-far.invariant.count,
      length-units c.loop-far.self-inside.places.items c.loop-far.self-inside.count
          (omega (arith, c.loop-far.invariant.ring.full, c.loop-far.invariant.ring.few)),
    ) in
    let done = all_renumbered now c.loop-far.far _ far ∙ c.loop-far.invariant.numbers in (
      c.loop-far.invariant.ring,
      rw done (Rises-renumbered c.args.first _),
    )

pub unwrap-requires : goal.unwrap-requires
unwrap-requires g c =
    let lt : c.loop-far.far < length c.loop-far.self-inside.places.items =
    omega (
      arith,
      c.loop-far-test.true,
      c.loop-far.invariant.count,
      c.loop-far.invariant.ring.full,
      c.loop-far.invariant.ring.few,
    ) in
    is_there c.get_mut.result c.loop-far.self-inside.places.items c.loop-far.far c.get_mut.ensures.value lt

pub loop-far-preserved : goal.loop-far-preserved
loop-far-preserved g c =
    let at : slice_get c.loop-far.self-inside.places.items c.loop-far.far ≡ Some c.unwrap.result.now =
    sym c.get_mut.ensures.value ∙ ap option_copied_mut c.unwrap.ensures in
    let lt : c.loop-far.far < c.loop-far.self-inside.count =
    omega (arith, c.loop-far-test.true, c.loop-far.invariant.count) in
    record {
      numbers =
          step_renumbered c.loop-far.self-inside.places.items c.loop-far.far c.loop-far.self-inside.count c.args.first
          c.unwrap.result.now _ _ lt at refl c.loop-far.invariant.numbers;
      ring =
          record {
            full = length-set c.loop-far.self-inside.places.items c.loop-far.far _ ∙ c.loop-far.invariant.ring.full;
            few = c.loop-far.invariant.ring.few;
            fits = c.loop-far.invariant.ring.fits;
          };
      room = c.loop-far.invariant.room;
      count = c.loop-far.invariant.count;
    }
