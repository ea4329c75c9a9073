-- Of one session the promises need no word of who is joined to whom.
use Rattle.std.proofs.Common.{◌≡◌, ℕ, ◌==◌, Bool, true, false, Option, Some, None, Ok, Err, List, [], ◌∷◌, ◌++◌, refl, sym, ap, subst, inl, inr, ◌⊎◌}
use Rattle.std.specs.Prelude.{MatchOption, if◌then◌else◌}
use Rattle.octets.specs.Lists.{IsBeginning}
use Rattle.pdi_session.specs.SessionStep.{Item}
use Rattle.end_settings.specs.declared.Side.TheVariants.{Interlocking, FieldElement}
use Rattle.stack_end.specs.EndValue.{inside}
use Rattle.stack_end.specs.Turns.{is_settled}
use Rattle.stack_engine.specs.Settled.{is_number}
use Rattle.station_pair.specs.Law.{AllGiveBeginnings, Agree, BothAgree, FeThere, GivesBeginnings, IlThere, IsThere, NamesInterlocking, OnlyJoinedGive, PromisesLaw, SessionLaw, joined_by}
use Rattle.station_pair.specs.Network.{AllCarried, NetworkLaw, both_open, session}
use Rattle.station_pair.specs.Stands.{seen_by}
use Rattle.station_pair.specs.Steps.{AllLater, Called, Held, Opens, Programs, Pulls, Step, Takes, after_call, popped_items, new_held, programs_after, puts_by}

-- no side is opened again, so no opening comes too early, and there are two stations throughout
record Pairs (p : Programs) : Type 0 where
  il : Held
  fe : Held
  are : p ≡ record { ils = il ∷ []; fes = fe ∷ [] }

all-later : (steps : List Step) (p : Programs) → AllCarried steps p → AllLater steps p
all-later [] p h = tt
all-later (Opens side config first_sn rooms now (Ok s) ∷ steps) p h = absurd h.0
all-later (Opens side config first_sn rooms now (Err f) ∷ steps) p h = (tt, all-later steps _ h.1)
all-later (Called side c answer t ∷ steps) p h = (tt, all-later steps _ h.1)
all-later (Takes side buffer answer left t ∷ steps) p h = (tt, all-later steps _ h.1)
all-later (Pulls side buffer answer left t ∷ steps) p h = (tt, all-later steps _ h.1)

pairs : (steps : List Step) (h k : Held) → AllCarried steps (record { ils = h ∷ []; fes = k ∷ [] })
    → Pairs (programs_after steps (record { ils = h ∷ []; fes = k ∷ [] }))
pairs [] h k c = record { il = h; fe = k; are = refl }
pairs (Opens side config first_sn rooms now (Ok s) ∷ steps) h k c = absurd c.0
pairs (Opens Interlocking config first_sn rooms now (Err f) ∷ steps) h k c = pairs steps h k c.1
pairs (Opens FieldElement config first_sn rooms now (Err f) ∷ steps) h k c = pairs steps h k c.1
pairs (Called Interlocking d answer t ∷ steps) h k c = pairs steps (after_call t (puts_by answer d) [] [] h) k c.1
pairs (Called FieldElement d answer t ∷ steps) h k c = pairs steps h (after_call t (puts_by answer d) [] [] k) c.1
pairs (Takes Interlocking buffer answer left t ∷ steps) h k c =
    pairs steps (after_call t [] (popped_items answer left) [] h) k c.1
pairs (Takes FieldElement buffer answer left t ∷ steps) h k c =
    pairs steps h (after_call t [] (popped_items answer left) [] k) c.1
pairs (Pulls Interlocking buffer answer left t ∷ steps) h k c =
    pairs steps (after_call t [] [] (popped_items answer left) h) k c.1
pairs (Pulls FieldElement buffer answer left t ∷ steps) h k c =
    pairs steps h (after_call t [] [] (popped_items answer left) k) c.1

nothing-begins : (xs ys : List Item) → xs ≡ [] → IsBeginning xs ys
nothing-begins xs ys e = (ys, ap (λ zs. zs ++ ys) e)

-- of the one interlocking, with any number
one-of : (h k : Held) (b : Bool) → MatchOption (if b then Some h else None) ⊥ (λ g. IsBeginning (seen_by k) g.put
    × IsBeginning (seen_by g) k.put)
    → IsBeginning (seen_by k) h.put × IsBeginning (seen_by h) k.put
one-of h k true both = both
one-of h k false both = absurd both

gives-one : (h k : Held) (j : Option ℕ) → GivesBeginnings (h ∷ []) k j → (seen_by h ≡ []) ⊎ NamesInterlocking 1 (j ∷ [])
    → IsBeginning (seen_by k) h.put × IsBeginning (seen_by h) k.put
gives-one h k None none (inl empty) = (nothing-begins (seen_by k) h.put none, nothing-begins (seen_by h) k.put empty)
gives-one h k None none (inr (inl named)) = cc
gives-one h k None none (inr (inr named)) = absurd named
gives-one h k (Some number) both any = one-of h k (number == 1) both

il-one : (h k : Held) (b : Bool) → IsThere h (if b then Some k else None) → is_settled (inside h.station.end) ≡ true
    → k.station.inbox.lost ≡ false
    → IsBeginning h.put (seen_by k)
il-one h k true there done whole = there done whole
il-one h k false there done whole = nothing-begins h.put (seen_by k) (there done)

fe-one : (h k : Held) (j : Option ℕ) → IsThere k (joined_by (h ∷ []) j) → is_settled (inside k.station.end) ≡ true
    → h.station.inbox.lost ≡ false
    → IsBeginning k.put (seen_by h)
fe-one h k None there done whole = nothing-begins k.put (seen_by h) (there done)
fe-one h k (Some number) there done whole = il-one k h (number == 1) there done whole

agree : (h k : Held) (joins : List (Option ℕ)) → AllGiveBeginnings (h ∷ []) (k ∷ []) joins
    → OnlyJoinedGive joins (h ∷ []) → IlThere (h ∷ []) (k ∷ []) joins
    → FeThere (h ∷ []) (k ∷ []) joins → Agree h k
agree h k [] begin only il fe = absurd begin
agree h k (i ∷ j ∷ joins) begin only il fe = absurd begin.1
agree h k (j ∷ []) begin only il fe =
    let both = gives-one h k j begin.0 only.0 in
    record {
      commands = both.0;
      status = both.1;
      commands_there = il-one h k (is_number 1 j) il;
      status_there = fe-one h k j fe;
    }

both-agree : (p : Programs) (joins : List (Option ℕ)) → Pairs p → AllGiveBeginnings p.ils p.fes joins
    → OnlyJoinedGive joins p.ils → IlThere p.ils p.fes joins
    → FeThere p.ils p.fes joins → BothAgree p.ils p.fes
both-agree p joins pair =
    subst (λ q. AllGiveBeginnings q.ils q.fes joins → OnlyJoinedGive joins q.ils → IlThere q.ils q.fes joins
    → FeThere q.ils q.fes joins
    → BothAgree q.ils q.fes) (sym pair.are) (agree pair.il pair.fe joins)

pub agreed : PromisesLaw → NetworkLaw → SessionLaw
agreed promises network fe il steps are code all typed =
    let later = all-later steps (both_open fe il) all in
    let p = promises (session fe il steps) are (tt, (tt, later)) typed (network fe il steps are code all) in
    both-agree (programs_after steps (both_open fe il)) _ (pairs steps (new_held il.station) (new_held fe.station) all)
    p.headline.beginnings p.headline.only_joined
    p.il_there p.fe_there
