use Rattle.stack_end.proofs.Words.{inl, inr, inside, is_nil, IsBefore, IsReachedAt, refl, subst}
use Rattle.stack_end.specs.Deadlines.{HasFallen, IsQuiet}
use Rattle.std.proofs.Common.{⊎_elim}
use Rattle.stack_end.proofs.Deadlines.{at-either, before-both, red-at, red-before}
use Rattle.stack_end.proofs.end.End.next_deadline.Goals as goal

pub returns-in_default-clause-before : goal.returns-in_default-clause-before
returns-in_default-clause-before g c alive now t =
    let both = before-both now _ _ (subst (λ d. IsBefore now d) c.earliest.ensures t) in
    let red = red-before now c.self.inside.layers.red
    (subst (λ d. IsBefore now d) c.deadline-deferral.ensures.moment both.1) in
    subst (λ v. IsQuiet now (inside v)) c.self.view_is record {
      machine = c.deadline.ensures.before now both.0;
      red = red.0;
      none = red.1;
    }

pub returns-in_default-clause-after : goal.returns-in_default-clause-after
returns-in_default-clause-after g c now n t =
    let r = c.self.inside.layers.red in
    subst (λ v. HasFallen now (inside v)) c.self.view_is
    (⊎_elim (λ a. inl (c.deadline.ensures.after now n a))
    (λ b. inr (red-at now r (is_nil r.waiting) refl
    (subst (λ d. IsReachedAt now d) c.deadline-deferral.ensures.moment b)))
    (at-either now _ _ (subst (λ d. IsReachedAt now d) c.earliest.ensures t)))
