use Rattle.stack_engine.proofs.Words.{ap, has_part, List, ℕ, ◌∙◌}
use Rattle.stack_engine.proofs.code.Histories.{has-part-made}
use Rattle.stack_engine.proofs.past.Past.has_made.Goals as goal

pub returns : goal.returns
returns g c = λ x h.
    c.has_part.ensures ∙ (ap (λ (ds : List (List ℕ)). has_part c.args.part.now ds) h.kept
    ∙ has-part-made x.settings 0 c.args.part.now 0 x.machine.made)
