use Rattle.std.proofs.Common.{◌≡◌, ◌+◌, ◌&&◌, ◌∙◌, refl, sym, ap}
use Rattle.std.proofs.Math.Bool.{and-true}
use Rattle.std.proofs.KnownBytes.{Appends-nil}
use Rattle.pdu_text.proofs.MessageLemmas.{lines_left, clean_left, message_lines-end, are_telegrams-end}
use Rattle.pdu_text.proofs.messages.write_messages.Goals as goal
use Rattle.pdu_text.proofs.messages.write_messages.Goals.{then-clean, else-clean}

pub loop-i-preserved : goal.loop-i-preserved
loop-i-preserved g c =
    let inner = c.loop-i-test.true in
    let both : c.if-clean.clean ≡ (c.loop-i.clean && c.in_ok-whole.whole) =
    elim c.if-clean.branch [ then-clean w ↦ rw (w.if-clean.true, w.clean-is) refl | else-clean w ↦ w.clean-is ∙ w.if-clean.false ∙ ap (λ b. b && c.in_ok-whole.whole) (sym w.if-clean.false) ]
    in
    record {
      written = λ end behind. c.loop-i.invariant.written end (lines_left _ _ _ _ _ _ end inner c.in_ok-whole.ensures.written behind);
      clean = clean_left _ _ _ _ _ _ _ inner c.in_ok-whole.ensures.clean c.loop-i.invariant.clean both;
    }

pub returns-clause-written : goal.returns-clause-written
returns-clause-written g c =
    c.loop-i.invariant.written _ (rw (message_lines-end (c.loop-i.i + 1) c.loop-i.i c.args.messages.now c.loop-i-test.false) (Appends-nil _))

pub returns-clause-clean : goal.returns-clause-clean
returns-clause-clean g c =
    sym (and-true c.loop-i.clean) ∙ ap (λ b. c.loop-i.clean && b) (sym (are_telegrams-end c.loop-i.i c.args.messages.now c.loop-i-test.false)) ∙ c.loop-i.invariant.clean
