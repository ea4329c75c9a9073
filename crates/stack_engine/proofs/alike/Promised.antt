-- The promises of a history in both forms: each premise and each promise is the same in both.
use Rattle.stack_engine.proofs.Words.{Event, FirstMissingLaw, List, run, start}
use Rattle.std.specs.Prelude.{◌↔◌}
use Rattle.stack_engine.specs.Premise.{Genuine}
use Rattle.stack_engine.specs.PremiseByPlace.{GenuineByPlace}
use Rattle.stack_engine.specs.Promises.{Promises}
use Rattle.stack_engine.specs.PromisesByPlace.{GenuinePromises, PromisesByPlace}
use Rattle.stack_engine.proofs.alike.Faithfuls.{faithful-twice}
use Rattle.stack_engine.proofs.alike.Freshes.{fresh-twice}
use Rattle.stack_engine.proofs.alike.Genuines.{genuine-twice}
use Rattle.stack_engine.proofs.alike.Headlines.{headline-twice}
use Rattle.stack_engine.proofs.alike.Losses.{nothing-lost-twice}
use Rattle.stack_engine.proofs.alike.Settleds.{certain-twice, confirmed-twice, settled-twice}

genuine-promises : (es : List Event) → Promises es → GenuineByPlace es start → GenuinePromises es
genuine-promises es p g =
    let w = run es start in
    let genuine : Genuine es start = (genuine-twice es start).1 g in
    let headline = (headline-twice w).0 (p.headline genuine) in
    record {
      headline = headline;
      fresh = (fresh-twice es start).0 (p.fresh genuine);
      confirmed = (confirmed-twice w headline).0 (p.confirmed genuine);
      settled = (settled-twice w headline).0 (p.settled genuine);
      certain = (certain-twice w headline).0 (p.certain genuine);
    }

promises-genuine : FirstMissingLaw → (es : List Event) → PromisesByPlace es → Promises es
promises-genuine missing es p =
    let w = run es start in
    let by-place : Genuine es start → GenuinePromises es = λ g. p.genuine ((genuine-twice es start).0 g) in
    record {
      headline = λ g. (headline-twice w).1 (by-place g).headline;
      fresh = λ g. (fresh-twice es start).1 (by-place g).fresh;
      confirmed = λ g. (confirmed-twice w (by-place g).headline).1 (by-place g).confirmed;
      settled = λ g. (settled-twice w (by-place g).headline).1 (by-place g).settled;
      certain = λ g. (certain-twice w (by-place g).headline).1 (by-place g).certain;
      nothing_lost = λ f. (nothing-lost-twice w).1 (p.faithful ((faithful-twice missing es).0 f));
    }

pub promises-twice : FirstMissingLaw → (es : List Event) → Promises es ↔ PromisesByPlace es
promises-twice missing es = (
  λ p. record {
    genuine = genuine-promises es p;
    faithful = λ f. (nothing-lost-twice (run es start)).0 (p.nothing_lost ((faithful-twice missing es).1 f));
  },
  promises-genuine missing es,
)
