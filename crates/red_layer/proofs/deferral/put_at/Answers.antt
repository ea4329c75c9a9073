use Rattle.std.proofs.Common.{◌≡◌, ◌<◌, length, false, None, sym, subst, ◌∙◌, inl, inr, arith, ⊎_elim}
use Rattle.std.proofs.lemmas.Bool.{false≢true}
use Rattle.red_layer.specs.FiniteMap.{has_number, entries_of, Rises}
use Rattle.red_layer.proofs.deferral.put_at.Goals as goal
use Rattle.red_layer.proofs.FiniteMap.{Rises-put_in}
use Rattle.red_layer.proofs.Entries.{IsNone-is, entries-set_some, length-entries_room, length-entries_full}

pub returns-then-is_some-clause-variant : goal.returns-then-is_some-clause-variant
returns-then-is_some-clause-variant g c =
    (λ _. inr (cc (c.place_of.ensures.there, c.is_some.ensures, c.if-is_some.true)), λ _. cc)

pub returns-in-Some-clause-variant : goal.returns-in-Some-clause-variant
returns-in-Some-clause-variant g c =
    let absent : has_number c.args.seq (entries_of c.args.places.now)
    ≡ false = cc (c.place_of.ensures.there, c.is_some.ensures, c.if-is_some.false) in
    let room : length (entries_of c.args.places.now) < length c.args.places.now =
    length-entries_room c.args.places.now c.in-Some.place c.in-Some.ensures.in_range
    (IsNone-is _ (c.in-Some.ensures.found None)) in (
      λ wrong. absurd (false≢true wrong),
      ⊎_elim (λ full. absurd (omega arith))
          (λ there. absurd (false≢true (sym absent ∙ there))),
    )

pub returns-in-Some-clause-rises : goal.returns-in-Some-clause-rises
returns-in-Some-clause-rises g c =
    let absent : has_number c.args.seq (entries_of c.args.places.now)
    ≡ false = cc (c.place_of.ensures.there, c.is_some.ensures, c.if-is_some.false) in
    subst (Rises 0) (sym (entries-set_some c.args.places.now c.in-Some.place c.args.seq c.args.part
    c.in-Some.ensures.in_range (IsNone-is _ (c.in-Some.ensures.found None)) absent))
    (Rises-put_in 0 c.args.seq c.args.part (entries_of c.args.places.now) (omega arith) absent c.requires)

pub returns-in-Some-clause-ok : goal.returns-in-Some-clause-ok
returns-in-Some-clause-ok g c =
    let absent : has_number c.args.seq (entries_of c.args.places.now)
    ≡ false = cc (c.place_of.ensures.there, c.is_some.ensures, c.if-is_some.false) in
    entries-set_some c.args.places.now c.in-Some.place c.args.seq c.args.part c.in-Some.ensures.in_range
    (IsNone-is _ (c.in-Some.ensures.found None)) absent

pub returns-in-None-clause-variant : goal.returns-in-None-clause-variant
returns-in-None-clause-variant g c = (λ _. inl (length-entries_full c.args.places.now c.in-None.ensures.none), λ _. cc)
