use Rattle.std.proofs.Common.{rules, arith, refl, ◌≡◌, ◌++◌, ◌∷◌, [], List}
use Rattle.sim.proofs.LedgerLemmas.{more_made, stays_named_before}
use Rattle.sim.specs.declared.label.Label.{Label}
use Rattle.sim.proofs.labels.Labels.make.Goals as goal
use Rattle.sim.proofs.labels.Labels.make.Goals.{in-Interlocking+in_ok-add-in-Interlocking, in-FieldElement+in_ok-add-in-FieldElement}

pub invariant_of-self-2 : goal.invariant_of-self-2
invariant_of-self-2 g c =
    let label : Label = record { side = c.args.side; place = c.match-side.before } in
    elim c.match-side.branch [
      | in-Interlocking+in_ok-add-in-Interlocking w ↦
          let later : c.push_reserved.new.self.items ≡ c.self.inside.order.items ++ label ∷ [] =
          rw (c.push_reserved.ensures.items, w.self-inside-is, c.in_ok-try_reserve.ensures.items) refl in
          let longer = rw w.self-inside-is at c.push_reserved.ensures.len in
          rw w.self-inside-is (record {
            within = omega (arith, longer, c.in_ok-try_reserve.ensures.len, c.self.invariant.within);
            named = more_made c.self.inside.il c.self.inside.fe _ _ c.self.inside.order.items _ label _
                (λ j h. rw w.in_ok-add-in-Interlocking.ensures.ok
                (stays_named_before c.self.inside.il c.args.datagram.now j h)) (λ j h. h) (search rules) later
                c.self.invariant.named;
          })
      | in-FieldElement+in_ok-add-in-FieldElement w ↦
          let later : c.push_reserved.new.self.items ≡ c.self.inside.order.items ++ label ∷ [] =
          rw (c.push_reserved.ensures.items, w.self-inside-is, c.in_ok-try_reserve.ensures.items) refl in
          let longer = rw w.self-inside-is at c.push_reserved.ensures.len in
          rw w.self-inside-is (record {
            within = omega (arith, longer, c.in_ok-try_reserve.ensures.len, c.self.invariant.within);
            named = more_made c.self.inside.il c.self.inside.fe _ _ c.self.inside.order.items _ label _ (λ j h. h)
                (λ j h. rw w.in_ok-add-in-FieldElement.ensures.ok
                (stays_named_before c.self.inside.fe c.args.datagram.now j h)) (search rules) later
                c.self.invariant.named;
          })
    ]
