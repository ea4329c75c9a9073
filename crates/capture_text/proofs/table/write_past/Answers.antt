use Rattle.capture_text.specs.TableText.{session_text}
use Rattle.capture_text.proofs.Connections.{sums_end, sums_left}
use Rattle.capture_text.proofs.table.write_past.Goals as goal

pub loop-session-preserved : goal.loop-session-preserved
loop-session-preserved g c = λ end behind.
    c.loop-session.invariant end
    (sums_left (λ x. session_text c.args.clock c.args.ends.0 c.args.ends.1 c.args.at x) _ _ _ _ _ end c.loop-session-test.true
    c.in_ok-write_session.ensures behind)

pub returns : goal.returns
returns g c =
    c.loop-session.invariant _ (sums_end (λ x. session_text c.args.clock c.args.ends.0 c.args.ends.1 c.args.at x)
    c.loop-session.session-index c.args.past.now _ c.loop-session-test.false)
