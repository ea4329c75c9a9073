use Rattle.std.specs.Io.Buffered.{reader_remaining}
use Rattle.capture_text.specs.Capture.{state_of}
use Rattle.capture_text.proofs.CaptureLines.{Leads}
use Rattle.capture_text.proofs.capture_run.follow_lines.Given as goal

-- The remaining lines lead to the state, text and faults of all lines.
abbrev pub invariant-loop : goal.invariant-loop
invariant-loop g l =
    Leads l.asked (reader_remaining g.R.Read.remaining l.initial.reader) (reader_remaining g.R.Read.remaining l.reader)
    (state_of l.initial.course)
    (state_of l.course) (g.W.Write.contents l.initial.writer) (g.W.Write.contents l.writer)
    (g.E.Write.contents l.initial.err)
    (g.E.Write.contents l.err)
