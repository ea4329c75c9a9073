use Rattle.std.proofs.Common.{◌∙◌}
use Rattle.capture_text.specs.Json.{next_connection_json}
use Rattle.capture_text.proofs.Connections.{sums_end, sums_left_as}
use Rattle.capture_text.proofs.json.write_more.Goals as goal

pub loop-entry-preserved : goal.loop-entry-preserved
loop-entry-preserved g c = λ end behind.
    c.loop-entry.invariant end
    (sums_left_as (λ x. next_connection_json x) _ _ _ _ _ _ end c.loop-entry-test.true (c.deref.ensures
    ∙ (c.entry.view_is ∙ c.entry-item.is)) c.in_ok-write_listed.ensures behind)

pub returns : goal.returns
returns g c =
    c.loop-entry.invariant _ (sums_end (λ x. next_connection_json x) c.loop-entry.entry-index c.args.connections.now _
    c.loop-entry-test.false)
