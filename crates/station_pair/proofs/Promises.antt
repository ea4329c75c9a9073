-- What a pair promises of its ends, for the stations that represent them.
use Rattle.std.proofs.Common.{◌≡◌, ℕ, suc, ◌+◌, ◌==◌, Bool, true, false, Option, Some, None, List, [], ◌∷◌, ◌++◌, length, refl, sym, ap, ◌∙◌, subst, append_assoc, arith, inl, inr, ◌⊎◌}
use Rattle.std.specs.Prelude.{MatchOption, if◌then◌else◌}
use Rattle.octets.specs.Lists.{IsBeginning}
use Rattle.pdi_session.specs.SessionStep.{Item}
use Rattle.stack_end.specs.Ends.{EndState}
use Rattle.stack_end.specs.EndValue.{inside}
use Rattle.stack_end.specs.TurnLaws.{DeterminesLaw}
use Rattle.stack_engine.specs.Freshness.{Freshness}
use Rattle.stack_engine.specs.Headline.{AllTakeBeginnings, HeadlineLaw, HeadlineOf, IsJoined, JoinsFall, OnlyJoinedTake, TakesBeginnings, incarnation, next_bound, put_at, taken_at}
use Rattle.stack_engine.specs.Joins.{joins_in}
use Rattle.stack_engine.specs.Pairs.{JoinedEnd, World, ends_of, latest, run, start}
use Rattle.stack_engine.specs.Premise.{AtOpened}
use Rattle.stack_engine.specs.Settled.{SettledAt, SettledFe, SettledLaw, is_number, taken_by, taken_from_fe, taken_from_il}
use Rattle.station_pair.specs.Stands.{AllStand, HeldStands, ProgramsStand, seen_by}
use Rattle.station_pair.specs.Steps.{Held, Programs, events_of, no_programs, programs_after}
use Rattle.station_pair.specs.Law.{AllGiveBeginnings, Fall, FeThere, FollowsLaw, GivesBeginnings, Headline, IlThere, IsThere, NamesInterlocking, OnlyJoinedGive, PromisesLaw, joined_by, joined_to, station}

stand-length : (hs : List Held) (xs : List EndState) → AllStand hs xs → length hs ≡ length xs
stand-length [] [] h = refl
stand-length [] (x ∷ xs) h = absurd h
stand-length (k ∷ hs) [] h = absurd h
stand-length (k ∷ hs) (x ∷ xs) h = ap suc (stand-length hs xs h.1)

-- the station with a number represents the incarnation with that number
found : (P : EndState → Type 0) (Q : Held → Type 0) → ((h : Held) (x : EndState) → HeldStands h x → P x → Q h)
    → (number : ℕ) (hs : List Held)
    (xs : List EndState) → AllStand hs xs → MatchOption (incarnation xs number) ⊥ P
    → MatchOption (station hs number) ⊥ Q
found P Q turn number [] [] stand h = h
found P Q turn number [] (x ∷ xs) stand h = absurd stand
found P Q turn number (k ∷ hs) [] stand h = absurd stand
found P Q turn number (k ∷ hs) (x ∷ xs) stand h =
    rw (stand-length hs xs stand.1) (at (number == length xs + 1) (found P Q turn number hs xs stand.1) h)
  where
    at : (b : Bool) → (MatchOption (incarnation xs number) ⊥ P → MatchOption (station hs number) ⊥ Q)
        → MatchOption (if b then Some x else incarnation xs number) ⊥ P
        → MatchOption (if b then Some k else station hs number) ⊥ Q
    at true rest h = turn k x stand.0 h
    at false rest h = rest h

begin-then : {X : Type 0} (a b c : List X) → IsBeginning a b → IsBeginning b c → IsBeginning a c
begin-then a b c h k = (h.0 ++ k.0, sym (append_assoc a h.0 k.0) ∙ (ap (λ xs. xs ++ k.0) h.1 ∙ k.1))

nil-front : {X : Type 0} (a b : List X) → a ++ b ≡ [] → a ≡ []
nil-front [] b h = refl
nil-front (x ∷ a) b h = cc

-- who took nothing gave nothing
gave-none : (h : Held) (x : EndState) → HeldStands h x → taken_at x ≡ [] → seen_by h ≡ []
gave-none h x stands none = nil-front (seen_by h) stands.seen.0 (stands.seen.1 ∙ none)

-- a prefix of what was put at an end is one of what was put at its station
gave-begin : (h g : Held) (x y : EndState) → HeldStands h x → HeldStands g y → IsBeginning (taken_at x) (put_at y)
    → IsBeginning (seen_by h) g.put
gave-begin h g x y stands other begin =
    subst (IsBeginning (seen_by h)) (sym other.put) (begin-then (seen_by h) (taken_at x) (put_at y) stands.seen begin)

gives : (ils : List Held) (xs : List EndState) (f : Held) (y : EndState) (j : Option ℕ) → AllStand ils xs
    → HeldStands f y → TakesBeginnings xs y j
    → GivesBeginnings ils f j
gives ils xs f y None stand one h = gave-none f y one h
gives ils xs f y (Some number) stand one h =
    found (λ g. IsBeginning (taken_at y) (put_at g) × IsBeginning (taken_at g) (put_at y))
    (λ g. IsBeginning (seen_by f) g.put × IsBeginning (seen_by g) f.put)
    (λ g x other both. (gave-begin f g y x one other both.0, gave-begin g f x y other one both.1)) number ils xs stand h

all-give : (ils : List Held) (xs : List EndState) (fs : List Held) (fes : List JoinedEnd) → AllStand ils xs
    → AllStand fs (ends_of fes)
    → AllTakeBeginnings xs fes → AllGiveBeginnings ils fs (joins_in fes)
all-give ils xs [] [] stand each h = tt
all-give ils xs [] (y ∷ fes) stand each h = absurd each
all-give ils xs (f ∷ fs) [] stand each h = absurd each
all-give ils xs (f ∷ fs) (y ∷ fes) stand each h =
    (gives ils xs f y.end y.joined stand each.0 h.0, all-give ils xs fs fes stand each.1 h.1)

falls : (bound : ℕ) (fes : List JoinedEnd) → JoinsFall bound fes → Fall bound (joins_in fes)
falls bound [] h = tt
falls bound (f ∷ fes) h = (h.0, falls (next_bound bound f.joined) fes h.1)

names : (number : ℕ) (fes : List JoinedEnd) → IsJoined number fes → NamesInterlocking number (joins_in fes)
names number [] h = h
names number (f ∷ fes) (inl h) = inl h
names number (f ∷ fes) (inr h) = inr (names number fes h)

only : (hs : List Held) (xs : List EndState) (fes : List JoinedEnd) → AllStand hs xs → OnlyJoinedTake fes xs
    → OnlyJoinedGive (joins_in fes) hs
only [] [] fes stand h = tt
only [] (x ∷ xs) fes stand h = absurd stand
only (k ∷ hs) [] fes stand h = absurd stand
only (k ∷ hs) (x ∷ xs) fes stand h = (rw (stand-length hs xs stand.1) (one h.0), only hs xs fes stand.1 h.1)
  where
    one : (taken_at x ≡ []) ⊎ IsJoined (length xs + 1) fes
        → (seen_by k ≡ []) ⊎ NamesInterlocking (length xs + 1) (joins_in fes)
    one (inl none) = inl (gave-none k x stand.0 none)
    one (inr joined) = inr (names (length xs + 1) fes joined)

headlines : (p : Programs) (w : World) → ProgramsStand p w → HeadlineOf w.ils w.fes → Headline p (joins_in w.fes)
headlines p w stand h =
    record {
      beginnings = all-give p.ils w.ils p.fes w.fes stand.ils stand.fes h.beginnings;
      joins_fall = rw (stand-length p.ils w.ils stand.ils) (falls (length w.ils + 1) w.fes h.joins_fall);
      only_joined = only p.ils w.ils w.fes stand.ils h.only_joined;
    }

-- what was taken at the end that is joined, and its station
abbrev PeerIs : List Item → Option Held → Type 0
PeerIs taken None = taken ≡ []
PeerIs taken (Some k) = (y : EndState) × HeldStands k y × (taken ≡ taken_at y)

there : DeterminesLaw → (h : Held) (x : EndState) (taken : List Item) (peer : Option Held) → HeldStands h x
    → PeerIs taken peer → SettledAt x taken
    → IsThere h peer
there tells h x taken None stands none settled = λ yes.
    let begin = settled (sym (tells (inside h.station.end) x stands.end.both).settled ∙ yes) in
    stands.put ∙ nil-front (put_at x) begin.0 (begin.1 ∙ none)
there tells h x taken (Some k) stands (y, other, is) settled = λ yes whole.
    let begin = settled (sym (tells (inside h.station.end) x stands.end.both).settled ∙ yes) in
    subst (λ xs. IsBeginning xs (seen_by k)) (sym stands.put) (begin.0, begin.1 ∙ (is ∙ sym (other.whole whole)))

peer-il : (number : ℕ) (fs : List Held) (fes : List JoinedEnd) → AllStand fs (ends_of fes)
    → PeerIs (taken_from_il number fes) (joined_to number fs (joins_in fes))
peer-il number [] [] stand = refl
peer-il number [] (y ∷ fes) stand = absurd stand
peer-il number (f ∷ fs) [] stand = absurd stand
peer-il number (f ∷ fs) (y ∷ fes) stand = at (is_number number y.joined) (peer-il number fs fes stand.1)
  where
    at : (b : Bool) → PeerIs (taken_from_il number fes) (joined_to number fs (joins_in fes))
        → PeerIs (if b then taken_at y.end else taken_from_il number fes)
        (if b then Some f else joined_to number fs (joins_in fes))
    at true rest = (y.end, stand.0, refl)
    at false rest = rest

peer-fe : (number : ℕ) (hs : List Held) (xs : List EndState) → AllStand hs xs
    → PeerIs (taken_by (incarnation xs number)) (station hs number)
peer-fe number [] [] stand = refl
peer-fe number [] (x ∷ xs) stand = absurd stand
peer-fe number (k ∷ hs) [] stand = absurd stand
peer-fe number (k ∷ hs) (x ∷ xs) stand =
    rw (stand-length hs xs stand.1) (at (number == length xs + 1) (peer-fe number hs xs stand.1))
  where
    at : (b : Bool) → PeerIs (taken_by (incarnation xs number)) (station hs number)
        → PeerIs (taken_by (if b then Some x else incarnation xs number)) (if b then Some k else station hs number)
    at true rest = (x, stand.0, refl)
    at false rest = rest

peer-join : (hs : List Held) (xs : List EndState) (j : Option ℕ) → AllStand hs xs
    → PeerIs (taken_from_fe xs j) (joined_by hs j)
peer-join hs xs None stand = refl
peer-join hs xs (Some number) stand = peer-fe number hs xs stand

il-there : DeterminesLaw → (hs : List Held) (xs : List EndState) (fs : List Held) (fes : List JoinedEnd)
    → AllStand hs xs → AllStand fs (ends_of fes)
    → AtOpened (λ g. SettledAt g (taken_from_il (length xs) fes)) (latest xs) → IlThere hs fs (joins_in fes)
il-there tells [] xs fs fes stand each settled = tt
il-there tells (k ∷ hs) [] fs fes stand each settled = absurd stand
il-there tells (k ∷ hs) (x ∷ xs) fs fes stand each settled =
    let same : length xs + 1 ≡ suc (length xs) = omega arith in
    rw (stand-length hs xs stand.1)
    (subst (λ n. IsThere k (joined_to n fs (joins_in fes))) (sym same)
    (there tells k x (taken_from_il (suc (length xs)) fes) (joined_to (suc (length xs)) fs (joins_in fes)) stand.0
    (peer-il (suc (length xs)) fs fes each) settled))

fe-there : DeterminesLaw → (hs : List Held) (xs : List EndState) (fs : List Held) (fes : List JoinedEnd)
    → AllStand hs xs → AllStand fs (ends_of fes)
    → SettledFe xs fes → FeThere hs fs (joins_in fes)
fe-there tells hs xs [] fes stand each settled = tt
fe-there tells hs xs (f ∷ fs) [] stand each settled = absurd each
fe-there tells hs xs (f ∷ fs) (y ∷ fes) stand each settled =
    there tells f y.end (taken_from_fe xs y.joined) (joined_by hs y.joined) each.0 (peer-join hs xs y.joined stand)
    settled

pub promises : FollowsLaw → DeterminesLaw → HeadlineLaw → SettledLaw → Freshness → PromisesLaw
promises follows tells headline settled fresh steps are later typed genuine =
    let es = events_of steps in
    let w = run es start in
    let p = programs_after steps no_programs in
    let stand = (follows steps are later).stands in
    let all = settled es typed genuine in
    record {
      headline = headlines p w stand (headline es typed genuine);
      il_there = il-there tells p.ils w.ils p.fes w.fes stand.ils stand.fes all.0;
      fe_there = fe-there tells p.ils w.ils p.fes w.fes stand.ils stand.fes all.1;
      fresh = fresh es typed genuine;
    }
