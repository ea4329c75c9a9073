use Rattle.stack_engine.proofs.Words.{entry_of, joined_entry, None, ◌∙◌}
use Rattle.stack_engine.proofs.code.Histories.{entry-by, fe-report, il-report}
use Rattle.stack_engine.proofs.sides.Sides.entry.Goals as goal

pub returns-in-Interlocking : goal.returns-in-Interlocking
returns-in-Interlocking g c = λ w h. rw c.in-Interlocking.is
    (c.entry.ensures ∙ entry-by (entry_of None) c.args.self.now.il _ c.args.place
    (il-report c.args.self.now.il w.ils h.il))

pub returns-in-FieldElement : goal.returns-in-FieldElement
returns-in-FieldElement g c = λ w h. rw c.in-FieldElement.is
    (c.joined_entry.ensures ∙ entry-by joined_entry c.args.self.now.fe _ c.args.place
    (fe-report c.args.self.now.fe w.fes h.fe h.joins))
