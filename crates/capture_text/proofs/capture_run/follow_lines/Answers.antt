use Rattle.std.proofs.Common.{◌≡◌, ◌∙◌, arith, ap, length}
use Rattle.std.specs.Io.Buffered.{reader_remaining}
use Rattle.std.specs.Io.BufRead.{take_through}
use Rattle.capture_text.specs.Capture.{state_of}
use Rattle.capture_text.specs.Lines.{cut_line}
use Rattle.capture_text.proofs.LinePrefix.{if_some}
use Rattle.capture_text.proofs.CaptureLines.{leads_end, leads_flush, leads_line, leads_start, no_octets, some_octets}
use Rattle.capture_text.proofs.capture_run.follow_lines.Goals as goal

pub loop-init : goal.loop-init
loop-init g c =
    leads_start c.args.asked.now (reader_remaining g.R.Read.remaining c.args.reader.now) (state_of c.args.course.now)
    (g.W.Write.contents c.args.writer.now) (g.E.Write.contents c.args.err.now)

pub returns-then-is_empty : goal.returns-then-is_empty
returns-then-is_empty g c =
    let known0 = reader_remaining g.R.Read.remaining c.args.reader.now in
    let known = reader_remaining g.R.Read.remaining c.loop.reader in
    let shown =
    leads_flush c.args.asked.now known0 known (state_of c.args.course.now) (state_of c.loop.course)
    (g.W.Write.contents c.args.writer.now)
    (g.W.Write.contents c.loop.writer) (g.W.Write.contents c.show.new.writer) (g.E.Write.contents c.args.err.now)
    (g.E.Write.contents c.loop.err) c.loop.invariant c.in_ok-show.ensures
    in
    let none = no_octets _ _ c.is_empty.ensures c.if-is_empty.true in
    leads_end c.args.asked.now known0 known (state_of c.args.course.now) (state_of c.loop.course)
    (g.W.Write.contents c.args.writer.now)
    (g.W.Write.contents c.show.new.writer) (g.E.Write.contents c.args.err.now) (g.E.Write.contents c.loop.err)
    c.next_line.new.line.items shown
    c.in_ok-next_line.ensures.kept (omega (arith, c.next_line.new.line.ok.0, none))

pub loop-preserved : goal.loop-preserved
loop-preserved g c =
    let known0 = reader_remaining g.R.Read.remaining c.args.reader.now in
    let known = reader_remaining g.R.Read.remaining c.loop.reader in
    let shown =
    leads_flush c.args.asked.now known0 known (state_of c.args.course.now) (state_of c.loop.course)
    (g.W.Write.contents c.args.writer.now)
    (g.W.Write.contents c.loop.writer) (g.W.Write.contents c.show.new.writer) (g.E.Write.contents c.args.err.now)
    (g.E.Write.contents c.loop.err) c.loop.invariant c.in_ok-show.ensures
    in
    let some = some_octets _ _ c.is_empty.ensures c.if-is_empty.false in
    let line = c.as_slice.result.now in
    let same = c.as_slice.ensures.value in
    let kept =
    if_some known (λ xs. c.next_line.new.line.items ≡ cut_line (take_through 10 xs))
    (λ xs. line ≡ cut_line (take_through 10 xs)) (λ xs h. same ∙ h)
    c.in_ok-next_line.ensures.kept
    in
    leads_line c.args.asked.now known0 known (reader_remaining g.R.Read.remaining c.next_line.new.reader)
    (state_of c.args.course.now)
    (state_of c.loop.course) (state_of c.follow_line.new.course) (g.W.Write.contents c.args.writer.now)
    (g.W.Write.contents c.show.new.writer)
    (g.W.Write.contents c.follow_line.new.writer) (g.E.Write.contents c.args.err.now) (g.E.Write.contents c.loop.err)
    (g.E.Write.contents c.follow_line.new.err) line shown kept c.in_ok-next_line.ensures.rest
    (omega (arith, c.next_line.new.line.ok.0, some, ap length same)) c.in_ok-follow_line.ensures.read
    c.in_ok-follow_line.ensures.printed
    c.in_ok-follow_line.ensures.told
