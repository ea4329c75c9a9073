use Rattle.std.proofs.Common.{subst}
use Rattle.std.specs.Io.KnownBytes.{Appends}
use Rattle.std.proofs.KnownBytes.{Appends-trans}
use Rattle.capture_text.specs.Capture.{line_printed, sums_printed}
use Rattle.capture_text.proofs.capture_run.follow_line.Goals as goal

pub returns-clause-printed : goal.returns-clause-printed
returns-clause-printed g c =
    subst (λ s. Appends (g.W.Write.contents c.args.writer.now) (g.W.Write.contents c.write_due.new.writer)
    (line_printed c.args.asked.now s c.args.line.now))
    c.in_ok-spare.ensures.state
    (Appends-trans _ _ _ _ _ c.in_ok-take_any.ensures.printed
    (subst (λ s. Appends (g.W.Write.contents c.take_any.new.writer) (g.W.Write.contents c.write_due.new.writer)
    (sums_printed c.args.asked.now s))
    c.in_ok-take_any.ensures.read c.in_ok-write_due.ensures.printed))
