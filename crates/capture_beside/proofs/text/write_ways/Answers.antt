use Rattle.capture_beside.specs.declared.way.Way.{Way}
use Rattle.capture_beside.specs.Pairs.{origin_of}
use Rattle.capture_beside.specs.Text.{way_text}
use Rattle.capture_text.proofs.Connections.{sums_end, sums_left_as}
use Rattle.capture_beside.proofs.text.write_ways.Goals as goal

pub loop-way-preserved : goal.loop-way-preserved
loop-way-preserved g c = λ end behind.
    c.loop-way.invariant end
    (sums_left_as (λ (way : Way). way_text (origin_of c.args.ways.now way) way) _ _ _ _ _ _ end c.loop-way-test.true
    c.way-item.is c.in_ok-write_way.ensures behind)

pub returns : goal.returns
returns g c =
    c.loop-way.invariant _
    (sums_end (λ (way : Way). way_text (origin_of c.args.ways.now way) way) c.loop-way.way-index c.args.ways.now _
    c.loop-way-test.false)
