use Rattle.capture_text.specs.TableJson.{item_json}
use Rattle.capture_text.proofs.Connections.{sums_end, sums_left}
use Rattle.capture_text.proofs.table_json.write_past.Goals as goal

pub loop-session-preserved : goal.loop-session-preserved
loop-session-preserved g c = λ end behind.
    c.loop-session.invariant end
    (sums_left (λ x. item_json c.args.ends.0 c.args.ends.1 x) _ _ _ _ _ end c.loop-session-test.true
    c.in_ok-write_item.ensures behind)

pub returns : goal.returns
returns g c =
    c.loop-session.invariant _ (sums_end (λ x. item_json c.args.ends.0 c.args.ends.1 x) c.loop-session.session-index
    c.args.past.now _ c.loop-session-test.false)
