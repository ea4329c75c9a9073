use Rattle.std.proofs.Common.{◌≡◌, None, Some, sym, subst, ◌∙◌, get_or}
use Rattle.red_layer.specs.FiniteMap.{entries_of, Rises}
use Rattle.red_layer.proofs.deferral.take_at.Goals as goal
use Rattle.red_layer.proofs.FiniteMap.{Rises-take_out, part-absent, take_out-absent}
use Rattle.red_layer.proofs.Entries.{place_entry, entries-set_none, part-entries}

pub returns-in-Some-take-clause-rises : goal.returns-in-Some-take-clause-rises
returns-in-Some-take-clause-rises g c =
    let entry : get_or c.args.places.now c.in-Some.place None ≡ Some (c.args.seq, c.in-Some-take.part) =
    place_entry c.args.places.now c.args.seq c.in-Some.place _ _ c.in-Some-take.part c.in-Some.ensures.in_range
    (c.in-Some.ensures.found _) (sym c.take.ensures.value ∙ c.in-Some-take.is) in
    rw c.take.ensures.after (subst (Rises 0)
    (sym (entries-set_none c.args.places.now c.in-Some.place _ entry c.requires))
    (Rises-take_out 0 c.args.seq (entries_of c.args.places.now) c.requires))

pub returns-in-Some-take-clause-part : goal.returns-in-Some-take-clause-part
returns-in-Some-take-clause-part g c =
    let entry : get_or c.args.places.now c.in-Some.place None ≡ Some (c.args.seq, c.in-Some-take.part) =
    place_entry c.args.places.now c.args.seq c.in-Some.place _ _ c.in-Some-take.part c.in-Some.ensures.in_range
    (c.in-Some.ensures.found _) (sym c.take.ensures.value ∙ c.in-Some-take.is) in
    sym (part-entries c.args.places.now c.in-Some.place _ entry c.requires)

pub returns-in-Some-take-clause-rest : goal.returns-in-Some-take-clause-rest
returns-in-Some-take-clause-rest g c =
    let entry : get_or c.args.places.now c.in-Some.place None ≡ Some (c.args.seq, c.in-Some-take.part) =
    place_entry c.args.places.now c.args.seq c.in-Some.place _ _ c.in-Some-take.part c.in-Some.ensures.in_range
    (c.in-Some.ensures.found _) (sym c.take.ensures.value ∙ c.in-Some-take.is) in
    rw c.take.ensures.after (entries-set_none c.args.places.now c.in-Some.place _ entry c.requires)

pub returns-in-None-clause-part : goal.returns-in-None-clause-part
returns-in-None-clause-part g c =
    sym (part-absent c.args.seq (entries_of c.args.places.now) (sym c.in-None.ensures.there))

pub returns-in-None-clause-rest : goal.returns-in-None-clause-rest
returns-in-None-clause-rest g c =
    sym (take_out-absent c.args.seq (entries_of c.args.places.now) (sym c.in-None.ensures.there))
