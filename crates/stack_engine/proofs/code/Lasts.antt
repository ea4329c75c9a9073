-- The side of the last event of a history.
use Rattle.stack_engine.proofs.Words.{[], arith, ap, Event, event_of, List, nat_tests, refl, sym, ◌++◌, ◌∙◌, ◌∷◌, ◌≡◌}
use Rattle.std.specs.Prelude.{Some}
use Rattle.end_settings.specs.ConfigValue.{side_of}
use Rattle.stack_engine.specs.PairValue.{last_side, side_in}
use Rattle.stack_engine.specs.declared.event.Event.{Event as CodeEvent}

-- an event of the code is of its side
event-side : (e : CodeEvent) → side_of e.side ≡ side_in (event_of e)
event-side e = grind (arith, nat_tests)

last-push : (es : List Event) (e : Event) → last_side (es ++ e ∷ []) ≡ Some (side_in e)
last-push [] e = refl
last-push (d ∷ []) e = refl
last-push (d ∷ c ∷ es) e = last-push (c ∷ es) e

-- the event that was added is the last
pub last-is : (es : List Event) (e : CodeEvent) → Some (side_of e.side) ≡ last_side (es ++ event_of e ∷ [])
last-is es e = ap Some (event-side e) ∙ sym (last-push es (event_of e))
