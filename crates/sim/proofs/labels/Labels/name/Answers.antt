use Rattle.std.proofs.Common.{rules}
use Rattle.sim.proofs.LedgerLemmas.{labels_stay, stays_named}
use Rattle.sim.proofs.labels.Labels.name.Goals as goal

pub invariant_of-self : goal.invariant_of-self
invariant_of-self g c = record {
  within = c.self.invariant.within;
  named = rw c.name.ensures
      (labels_stay c.self.inside.il c.self.inside.fe _ _ (λ j. stays_named c.self.inside.il j c.args.label.place)
      (λ j h. h) _ c.self.invariant.named);
}

pub invariant_of-self-in-FieldElement : goal.invariant_of-self-in-FieldElement
invariant_of-self-in-FieldElement g c = record {
  within = c.self.invariant.within;
  named = rw c.name-in-FieldElement.ensures
      (labels_stay c.self.inside.il c.self.inside.fe _ _ (λ j h. h)
      (λ j. stays_named c.self.inside.fe j c.args.label.place) _ c.self.invariant.named);
}
