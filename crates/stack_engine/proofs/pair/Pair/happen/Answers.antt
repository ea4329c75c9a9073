use Rattle.stack_engine.proofs.Words.{[], ap, AreTyped, Event, event_of, List, run, SidesRepresent, start, subst, sym, ◌++◌, ◌∙◌, ◌∷◌}
use Rattle.stack_engine.proofs.code.Histories.{grown-stands, typed-push}
use Rattle.std.specs.Prelude.{None, Some, option_map, ◌≡◌}
use Rattle.stack_engine.proofs.code.Lasts.{last-is}
use Rattle.stack_engine.proofs.pair.Pair.happen.Goals as goal
use Rattle.end_settings.specs.ConfigValue.{side_of}
use Rattle.stack_engine.specs.Openings.{NamesRefusal}
use Rattle.stack_engine.specs.PairValue.{last_side}
use Rattle.stack_engine.specs.Pairs.{refusal}

pub invariant_of-self-in-Ok-step : goal.invariant_of-self-in-Ok-step
invariant_of-self-in-Ok-step g c =
    let es : List Event = c.self.inside.history.events in
    let e : Event = event_of c.args.event.now in
    let inv = c.self.invariant in
    let more = c.add.ensures.added ∙ ap (λ (xs : List Event). xs ++ e ∷ []) c.reserve.ensures.same in
    record {
      typed = subst AreTyped (sym more) (typed-push es e inv.typed c.is_typed.ensures);
      stands =
          subst (λ (xs : List Event). SidesRepresent c.step.new.self (run xs start)) (sym more)
          (grown-stands c.self.inside.sides c.step.new.self es e c.pair_law.ensures.few inv.typed c.is_typed.ensures
          (c.in-Ok-step.ensures.refusal (run es start) inv.stands) c.in-Ok-step.ensures.does inv.stands);
      last = subst (λ (xs : List Event). Some (side_of c.args.event.now.side) ≡ last_side xs) (sym more)
          (last-is es c.args.event.now);
    }

pub invariant_of-self-in-Err : goal.invariant_of-self-in-Err
invariant_of-self-in-Err g c =
    let es : List Event = c.self.inside.history.events in
    let same = c.reserve.ensures.same in
    record {
      typed = subst AreTyped (sym same) c.self.invariant.typed;
      stands =
          subst (λ (xs : List Event). SidesRepresent c.step.new.self (run xs start)) (sym same)
          (c.in-Err.ensures.unchanged (run es start) c.self.invariant.stands);
      last =
          subst (λ (xs : List Event). option_map side_of c.self.inside.last ≡ last_side xs) (sym same)
          c.self.invariant.last;
    }

pub returns-in-Ok-step-clause-refusal : goal.returns-in-Ok-step-clause-refusal
returns-in-Ok-step-clause-refusal g c =
    let es : List Event = c.self.inside.history.events in
    subst (λ (xs : List Event). refusal (event_of c.args.event.now) (run xs start) ≡ None) c.self.view_is
    (c.in-Ok-step.ensures.refusal (run es start) c.self.invariant.stands)

pub returns-in-Err-clause-refusal : goal.returns-in-Err-clause-refusal
returns-in-Err-clause-refusal g c =
    let es : List Event = c.self.inside.history.events in
    subst (λ (xs : List Event). NamesRefusal c.in-Err.fault (refusal (event_of c.args.event.now) (run xs start)))
    c.self.view_is
    (c.in-Err.ensures.refusal (run es start) c.self.invariant.stands)
