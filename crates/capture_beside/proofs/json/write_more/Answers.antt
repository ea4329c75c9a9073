use Rattle.capture_beside.specs.declared.way.Way.{Way}
use Rattle.capture_beside.specs.Json.{next_way_json}
use Rattle.capture_text.proofs.Connections.{sums_end, sums_left_as}
use Rattle.capture_beside.proofs.json.write_more.Goals as goal

pub loop-way-preserved : goal.loop-way-preserved
loop-way-preserved g c = λ end behind.
    c.loop-way.invariant end
    (sums_left_as (λ (way : Way). next_way_json c.args.ways.now way) _ _ _ _ _ _ end c.loop-way-test.true c.way-item.is
    c.in_ok-write_listed.ensures behind)

pub returns : goal.returns
returns g c =
    c.loop-way.invariant _ (sums_end (λ (way : Way). next_way_json c.args.ways.now way) c.loop-way.way-index
    c.args.rest.now _ c.loop-way-test.false)
