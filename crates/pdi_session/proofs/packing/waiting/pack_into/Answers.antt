use Rattle.std.proofs.Common.{◌≡◌, ◌<◌, ◌+◌, ◌-◌, ◌∙◌, ap, arith, length, rules, take}
use Rattle.pdi_session.proofs.PackLemmas.{all_left, all_written, length-written, one_left, one_written}
use Rattle.pdi_session.proofs.UnitSizes.{unit-sized}
use Rattle.pdi_session.proofs.packing.waiting.pack_into.Goals as goal

pub put_first-requires-clause-some : goal.put_first-requires-clause-some
put_first-requires-clause-some g c = omega (arith, c.loop-taken.invariant.some)

pub put_first-requires-clause-room : goal.put_first-requires-clause-room
put_first-requires-clause-room g c = omega (arith, c.loop-taken.invariant.room, c.min-count.ensures, c.requires.most)

pub loop-taken-preserved : goal.loop-taken-preserved
loop-taken-preserved g c =
    let left : 0 < c.min-count.result - c.loop-taken._taken = omega arith in
    let less : c.min-count.result - (c.loop-taken._taken + 1)
    ≡ c.min-count.result - c.loop-taken._taken - 1 = omega arith in
    let moved = c.put_first.ensures in
    record {
      room =
          omega (
            arith,
            c.loop-taken.invariant.room,
            moved.sized.1,
            length-written c.loop-taken.unit.items moved.message c.put_first.new.unit.items moved.put,
          );
      some = omega (arith, c.loop-taken.invariant.some, ap length moved.first);
      written =
          rw less
          (one_written (c.min-count.result - c.loop-taken._taken) c.loop-taken.unit.items moved.message
          c.put_first.new.unit.items c.loop-taken.waiting
          c.put_first.new.self left moved.first moved.put
          ∙ c.loop-taken.invariant.written);
      rest =
          rw less
          (one_left (c.min-count.result - c.loop-taken._taken) moved.message c.loop-taken.waiting c.put_first.new.self
          left moved.first
          ∙ c.loop-taken.invariant.rest);
    }

pub returns-clause-packed : goal.returns-clause-packed
returns-clause-packed g c =
    λ _.
    all_written (c.min-count.result - c.loop-taken._taken) c.min-count.result c.args.max c.loop-taken.unit.items
    c.loop-taken.waiting c.args.waiting.now
    (omega arith) (search rules) c.if-count-eq0.false c.requires.most c.len.ensures.sized c.loop-taken.invariant.written

pub returns-clause-sized : goal.returns-clause-sized
returns-clause-sized g c =
    λ _.
    unit-sized (take c.args.max c.args.waiting.now) c.loop-taken.unit.items
    (all_written (c.min-count.result - c.loop-taken._taken) c.min-count.result c.args.max c.loop-taken.unit.items
    c.loop-taken.waiting c.args.waiting.now
    (omega arith) (search rules) c.if-count-eq0.false c.requires.most c.len.ensures.sized
    c.loop-taken.invariant.written)

pub returns-clause-left : goal.returns-clause-left
returns-clause-left g c =
    all_left (c.min-count.result - c.loop-taken._taken) c.min-count.result c.args.max c.loop-taken.waiting
    c.args.waiting.now (omega arith) (search rules)
    c.loop-taken.invariant.rest
