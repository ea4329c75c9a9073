-- The entries in the places of a table, as a finite map.
use Rattle.std.proofs.Common.{◌≡◌, ◌≢◌, ℕ, zero, suc, ◌<◌, ◌≤◌, true, false, List, [], ◌∷◌, length, Option, Some, None, get_or, refl, sym, ap, ◌∙◌, subst, arith}
use Rattle.std.proofs.Math.ListN.{set, replicate}
use Rattle.std.proofs.lemmas.Bool.{false≢true}
use Rattle.std.proofs.lemmas.Bool.Decides.{nat_tests}
use Rattle.std.proofs.lemmas.List.Elements.{All-head, All-tail}
use Rattle.std.specs.Option.{IsSome, IsNone, IfSome, IfNone, is_some}
use Rattle.std.specs.List.{All, HoldsAt}
use Rattle.red_layer.specs.FiniteMap.{Rises, put_in, take_out, part_under, has_number, entries_of, IsUnder}
use Rattle.red_layer.proofs.FiniteMap.{Rises-before, absent-before, has-put_in, length-put_in, part-put_in, put_in-put_in, take_out-put_in, take_out-put_in_same}

-- the entries without the first place rise, too
pub entries-rest : {T : Type 0} (p : Option (ℕ × T)) (ps : List (Option (ℕ × T))) → Rises 0 (entries_of (p ∷ ps))
    → Rises 0 (entries_of ps)
entries-rest None ps h = h
entries-rest (Some e) ps h = Rises-before 0 e.0 e.1 (entries_of ps) h

-- without a part in any place there is no entry
pub entries-none : {T : Type 0} (ps : List (Option (ℕ × T))) → ((k : ℕ) → k < length ps → get_or ps k None ≡ None)
    → entries_of ps ≡ []
entries-none [] h = refl
entries-none (p ∷ ps) h =
    let first : p ≡ None = h 0 (omega arith) in
    let rest : entries_of ps ≡ [] = entries-none ps (λ k lt. h (suc k) (omega (arith, lt))) in
    rw first rest

-- a number in a place is among the entries
pub has-entries : {T : Type 0} (ps : List (Option (ℕ × T))) (i : ℕ) (e : ℕ × T) → get_or ps i None ≡ Some e
    → has_number e.0 (entries_of ps) ≡ true
has-entries [] i e h = absurd (cc)
has-entries (None ∷ ps) zero e h = absurd (cc)
has-entries (None ∷ ps) (suc i) e h = has-entries ps i e h
has-entries (Some f ∷ ps) zero e h = let same : f ≡ e =
    cc in rw same (grind (arith, nat_tests, has-put_in e.0 e.0 e.1 (entries_of ps)))
has-entries (Some f ∷ ps) (suc i) e h = let rest : has_number e.0 (entries_of ps) ≡ true =
    has-entries ps i e h in grind (arith, nat_tests, has-put_in e.0 f.0 f.1 (entries_of ps))

-- a number in no place is not among the entries
pub has-entries_not : {T : Type 0} (ps : List (Option (ℕ × T))) (n : ℕ) → All (λ p. ¬ IsUnder n p) ps
    → has_number n (entries_of ps) ≡ false
has-entries_not [] n h = refl
has-entries_not (None ∷ ps) n h = has-entries_not ps n (All-tail (λ p. ¬ IsUnder n p) None ps h)
has-entries_not (Some f ∷ ps) n h =
    let rest : has_number n (entries_of ps) ≡ false = has-entries_not ps n (All-tail (λ p. ¬ IsUnder n p) (Some f) ps h)
    in
    let apart : f.0 ≢ n = All-head (λ p. ¬ IsUnder n p) (Some f) ps h in
    grind (arith, nat_tests, has-put_in n f.0 f.1 (entries_of ps))

-- an entry is added in an empty place
pub entries-set_some : {T : Type 0} (ps : List (Option (ℕ × T))) (i n : ℕ) (x : T) → i < length ps
    → get_or ps i None ≡ None → has_number n (entries_of ps) ≡ false
    → entries_of (set ps i (Some (n, x))) ≡ put_in n x (entries_of ps)
entries-set_some [] i n x lt h a = absurd (omega arith)
entries-set_some (None ∷ ps) zero n x lt h a = refl
entries-set_some (Some f ∷ ps) zero n x lt h a = absurd (cc)
entries-set_some (None ∷ ps) (suc i) n x lt h a = entries-set_some ps i n x (omega arith) h a
entries-set_some (Some f ∷ ps) (suc i) n x lt h a =
    let apart : f.0 ≢ n = grind (arith, nat_tests, has-put_in n f.0 f.1 (entries_of ps)) in
    let absent : has_number n (entries_of ps) ≡ false = grind (arith, nat_tests, has-put_in n f.0 f.1 (entries_of ps))
    in
    ap (put_in f.0 f.1) (entries-set_some ps i n x (omega arith) h absent)
    ∙ put_in-put_in f.0 n f.1 x (entries_of ps) apart

-- an entry is removed from its place
pub entries-set_none : {T : Type 0} (ps : List (Option (ℕ × T))) (i : ℕ) (e : ℕ × T) → get_or ps i None ≡ Some e
    → Rises 0 (entries_of ps) → entries_of (set ps i None) ≡ take_out e.0 (entries_of ps)
entries-set_none [] i e h r = absurd (cc)
entries-set_none (None ∷ ps) zero e h r = absurd (cc)
entries-set_none (Some f ∷ ps) zero e h r = let same : f ≡ e =
    cc in rw same (sym (take_out-put_in_same e.0 e.1 (entries_of ps)))
entries-set_none (None ∷ ps) (suc i) e h r = entries-set_none ps i e h r
entries-set_none (Some f ∷ ps) (suc i) e h r =
    let rest : Rises 0 (entries_of ps) = Rises-before 0 f.0 f.1 (entries_of ps) r in
    let there : has_number e.0 (entries_of ps) ≡ true = has-entries ps i e h in
    let not_there : has_number f.0 (entries_of ps) ≡ false = absent-before 0 f.0 f.1 (entries_of ps) r in
    let apart : e.0 ≢ f.0 = λ same. false≢true (sym not_there ∙ ap (λ n. has_number n (entries_of ps)) (sym same)
    ∙ there) in
    ap (put_in f.0 f.1) (entries-set_none ps i e h rest)
    ∙ sym (take_out-put_in e.0 f.0 0 f.1 (entries_of ps) apart rest)

-- the part under a number in a place
pub part-entries : {T : Type 0} (ps : List (Option (ℕ × T))) (i : ℕ) (e : ℕ × T) → get_or ps i None ≡ Some e
    → Rises 0 (entries_of ps) → part_under e.0 (entries_of ps) ≡ Some e.1
part-entries [] i e h r = absurd (cc)
part-entries (None ∷ ps) zero e h r = absurd (cc)
part-entries (Some f ∷ ps) zero e h r = let same : f ≡ e =
    cc in rw same (grind (arith, nat_tests, part-put_in e.0 e.0 e.1 (entries_of ps)))
part-entries (None ∷ ps) (suc i) e h r = part-entries ps i e h r
part-entries (Some f ∷ ps) (suc i) e h r =
    let rest : Rises 0 (entries_of ps) = Rises-before 0 f.0 f.1 (entries_of ps) r in
    let there : has_number e.0 (entries_of ps) ≡ true = has-entries ps i e h in
    let not_there : has_number f.0 (entries_of ps) ≡ false = absent-before 0 f.0 f.1 (entries_of ps) r in
    let apart : f.0 ≢ e.0 = λ same. false≢true (sym not_there ∙ ap (λ n. has_number n (entries_of ps)) same ∙ there) in
    let found : part_under e.0 (entries_of ps) ≡ Some e.1 = part-entries ps i e h rest in
    grind (arith, nat_tests, part-put_in e.0 f.0 f.1 (entries_of ps))

-- a table with an empty place has room, and a table without one is full
pub entries_fit : {T : Type 0} (ps : List (Option (ℕ × T))) → length (entries_of ps) ≤ length ps
entries_fit [] = omega arith
entries_fit (None ∷ ps) = omega (arith, entries_fit ps)
entries_fit (Some f ∷ ps) = omega (arith, entries_fit ps, length-put_in f.0 f.1 (entries_of ps))

pub length-entries_room : {T : Type 0} (ps : List (Option (ℕ × T))) (i : ℕ) → i < length ps → get_or ps i None ≡ None
    → length (entries_of ps) < length ps
length-entries_room [] i lt h = absurd (omega arith)
length-entries_room (None ∷ ps) zero lt h = omega (arith, entries_fit ps)
length-entries_room (Some f ∷ ps) zero lt h = absurd (cc)
length-entries_room (None ∷ ps) (suc i) lt h = omega (arith, length-entries_room ps i (omega arith) h)
length-entries_room (Some f ∷ ps) (suc i) lt h =
    omega (arith, length-entries_room ps i (omega arith) h, length-put_in f.0 f.1 (entries_of ps))

pub length-entries_full : {T : Type 0} (ps : List (Option (ℕ × T))) → All IsSome ps → length (entries_of ps) ≡ length ps
length-entries_full [] h = refl
length-entries_full (None ∷ ps) h = absurd (false≢true (All-head IsSome None ps h))
length-entries_full (Some f ∷ ps) h =
    omega (arith, length-entries_full ps (All-tail IsSome (Some f) ps h), length-put_in f.0 f.1 (entries_of ps))

-- a place that holds an entry under n
pub entry_under : {T : Type 0} (p : Option (ℕ × T)) (n : ℕ) → IsUnder n p → (x : T) × (p ≡ Some (n, x))
entry_under None n h = absurd h
entry_under (Some e) n h = (e.1, ap (λ k. Some (k, e.1)) h)

-- a search finds a number if and only if it is among the entries
pub search-has : {T : Type 0} (ps : List (Option (ℕ × T))) (n : ℕ) (r : Option ℕ)
    → IfSome r (λ i. HoldsAt (IsUnder n) ps i) → IfNone r (All (λ p. ¬ IsUnder n p) ps)
    → is_some r ≡ has_number n (entries_of ps)
search-has ps n None found none = sym (has-entries_not ps n none)
search-has ps n (Some i) found none =
    let e = entry_under (get_or ps i None) n (found None) in
    sym (has-entries ps i (n, e.0) e.1)

-- such a place is one of the table's
pub place-lt : {T : Type 0} (ps : List (Option (ℕ × T))) (n i : ℕ) → IsUnder n (get_or ps i None) → i < length ps
place-lt [] n i h = absurd h
place-lt (p ∷ ps) n zero h = omega arith
place-lt (p ∷ ps) n (suc i) h = omega (arith, place-lt ps n i h)

-- the map is empty if every place is
pub entries-replicate : {T : Type 0} (n : ℕ) → entries_of {T = T} (replicate n None) ≡ []
entries-replicate zero = refl
entries-replicate (suc n) = entries-replicate n

pub IsNone-is : {X : Type 0} (o : Option X) → IsNone o → o ≡ None
IsNone-is None h = refl
IsNone-is (Some x) h = absurd (false≢true (sym h))

-- the entry in a place that was found by its number
pub place_entry : {T : Type 0} (ps : List (Option (ℕ × T))) (n i : ℕ) (d : Option (ℕ × T)) (k : ℕ) (x : T)
    → i < length ps → IsUnder n (get_or ps i d) → get_or ps i d ≡ Some (k, x) → get_or ps i None ≡ Some (n, x)
place_entry [] n i d k x lt under is = absurd (omega arith)
place_entry (p ∷ ps) n zero d k x lt under is =
    let number : k ≡ n = subst (IsUnder n) is under in
    is ∙ ap (λ m. Some (m, x)) number
place_entry (p ∷ ps) n (suc i) d k x lt under is = place_entry ps n i d k x (omega arith) under is
