use Rattle.capture_text.specs.Distributions.{after_mark}
use Rattle.capture_text.proofs.Connections.{sums_end, sums_left}
use Rattle.capture_text.proofs.distributions.write_counts.Goals as goal

pub loop-count-preserved : goal.loop-count-preserved
loop-count-preserved g c = λ end behind.
    c.loop-count.invariant end
    (sums_left (λ x. after_mark c.args.mark.now x) _ _ _ _ _ end c.loop-count-test.true c.in_ok-write_count.ensures
    behind)

pub returns : goal.returns
returns g c =
    c.loop-count.invariant _ (sums_end (λ x. after_mark c.args.mark.now x) c.loop-count.count-index c.args.counts.now _
    c.loop-count-test.false)
