use Rattle.std.proofs.Common.{sym, ap, ◌∙◌, subst, cond, [], OnOk}
use Rattle.std.specs.Io.KnownBytes.{Appends}
use Rattle.capture_text.specs.Capture.{state_of, text_printed, text_fault, with_long, with_text}
use Rattle.capture_text.specs.FaultText.{fault_text}
use Rattle.capture_text.specs.Steps.{without_end}
use Rattle.capture.specs.Numbers.{limited_sum}
use Rattle.capture.specs.declared.line.LineFault.TheVariants.{Long}
use Rattle.capture_text.proofs.CaptureLines.{not_long}
use Rattle.capture_text.proofs.capture_run.take_any.Goals as goal

pub returns-clause-read : goal.returns-clause-read
returns-clause-read g c =
    let a = c.args.asked.now in
    let r = state_of c.args.course.now in
    let line = c.args.line.now in
    c.take_text.ensures.read ∙ ap (with_text a r) c.without_feed.ensures
    ∙ ap (λ b. cond b (with_long r) (with_text a r (without_end line)))
    (sym (not_long line c.if-line-gt-LINE_MAX.false))

pub returns-clause-printed : goal.returns-clause-printed
returns-clause-printed g c =
    let a = c.args.asked.now in
    let r = state_of c.args.course.now in
    let line = c.args.line.now in
    subst (λ l. OnOk c.take_text.result (Appends (g.W.Write.contents c.args.writer.now)
    (g.W.Write.contents c.take_text.new.writer) l))
    (ap (text_printed a r) c.without_feed.ensures
    ∙ ap (λ b. cond b [] (text_printed a r (without_end line))) (sym (not_long line c.if-line-gt-LINE_MAX.false)))
    c.take_text.ensures.printed

pub returns-clause-told : goal.returns-clause-told
returns-clause-told g c =
    let a = c.args.asked.now in
    let r = state_of c.args.course.now in
    let line = c.args.line.now in
    subst (λ l. OnOk c.take_text.result (Appends (g.E.Write.contents c.args.err.now)
    (g.E.Write.contents c.take_text.new.err) l))
    (ap (text_fault a r) c.without_feed.ensures
    ∙ ap (λ b. cond b (fault_text (limited_sum r.lines 1) Long) (text_fault a r (without_end line)))
    (sym (not_long line c.if-line-gt-LINE_MAX.false)))
    c.take_text.ensures.told
