use Rattle.std.proofs.Common.{subst}
use Rattle.std.specs.Io.KnownBytes.{Appends}
use Rattle.std.proofs.KnownBytes.{Appends-trans}
use Rattle.capture_text.specs.Capture.{frame_and_sums_printed, sums_printed}
use Rattle.capture_text.specs.FrameSteps.{payload_at}
use Rattle.capture_text.proofs.capture_run.take_shown.Goals as goal

pub returns-clause-printed : goal.returns-clause-printed
returns-clause-printed g c =
    subst (λ s. Appends (g.W.Write.contents c.args.writer.now) (g.W.Write.contents c.write_due.new.writer)
    (frame_and_sums_printed c.args.asked.now s c.args.framed.now.link c.args.framed.now.time
    (payload_at c.args.framed.now.start c.args.framed.now.end c.args.block.now)))
    c.in_ok-spare.ensures.state
    (Appends-trans _ _ _ _ _ c.in_ok-take_framed.ensures.printed
    (subst (λ s. Appends (g.W.Write.contents c.take_framed.new.writer) (g.W.Write.contents c.write_due.new.writer)
    (sums_printed c.args.asked.now s))
    c.in_ok-take_framed.ensures.read c.in_ok-write_due.ensures.printed))
