-- Laws of a finite map as the list of its entries with rising numbers.
use Rattle.std.proofs.Common.{◌≡◌, ◌≢◌, ℕ, ◌+◌, ◌<◌, ◌≤◌, true, false, ◌||◌, cond, eqb, leb, List, [], ◌∷◌, length, Option, Some, None, refl, ap, ◌∙◌, ⊎_elim, subst, arith}
use Rattle.std.proofs.lemmas.Bool.{false≢true}
use Rattle.std.proofs.lemmas.Bool.Decides.{nat_tests, leb_tells, eqb_tells}
use Rattle.red_layer.specs.FiniteMap.{Rises, put_in, take_out, part_under, has_number, least_of}

-- the map after an entry is added
pub has-put_in : {T : Type 0} (n k : ℕ) (x : T) (es : List (ℕ × T))
    → has_number n (put_in k x es) ≡ (eqb k n || has_number n es)
has-put_in n k x [] = refl
has-put_in n k x (e ∷ es) = grind (arith, nat_tests, has-put_in n k x es)

pub part-put_in : {T : Type 0} (n k : ℕ) (x : T) (es : List (ℕ × T))
    → part_under n (put_in k x es) ≡ cond (eqb k n) (Some x) (part_under n es)
part-put_in n k x [] = refl
part-put_in n k x (e ∷ es) = grind (arith, nat_tests, part-put_in n k x es)

pub length-put_in : {T : Type 0} (k : ℕ) (x : T) (es : List (ℕ × T)) → length (put_in k x es) ≡ length es + 1
length-put_in k x [] = omega arith
length-put_in k x (e ∷ es) = grind (arith, nat_tests, length-put_in k x es)

-- two entries can be added in either order
pub put_in-put_in : {T : Type 0} (a b : ℕ) (x y : T) (es : List (ℕ × T)) → a ≢ b
    → put_in a x (put_in b y es) ≡ put_in b y (put_in a x es)
put_in-put_in a b x y [] ne = grind (arith, nat_tests)
put_in-put_in a b x y (e ∷ es) ne = grind (arith, nat_tests, put_in-put_in a b x y es ne)

-- adding and removing an entry leaves the map
pub take_out-put_in_same : {T : Type 0} (k : ℕ) (x : T) (es : List (ℕ × T)) → take_out k (put_in k x es) ≡ es
take_out-put_in_same k x [] = grind (arith, nat_tests)
take_out-put_in_same k x (e ∷ es) = grind (arith, nat_tests, take_out-put_in_same k x es)

pub Rises-weaken : {T : Type 0} (low high : ℕ) (es : List (ℕ × T)) → low ≤ high → Rises high es → Rises low es
Rises-weaken low high [] le h = tt
Rises-weaken low high (e ∷ es) le h = (omega arith, h.1)

-- a number below all of the map is not in it
pub has-below : {T : Type 0} (n low : ℕ) (es : List (ℕ × T)) → n < low → Rises low es → has_number n es ≡ false
has-below n low [] lt h = refl
has-below n low (e ∷ es) lt h = let rest : has_number n es ≡ false =
    has-below n (e.0 + 1) es (omega arith) h.1 in grind (arith, nat_tests)

-- a number that is not in the map
pub take_out-absent : {T : Type 0} (n : ℕ) (es : List (ℕ × T)) → has_number n es ≡ false → take_out n es ≡ es
take_out-absent n [] h = refl
take_out-absent n (e ∷ es) h = grind (arith, nat_tests, take_out-absent n es)

pub part-absent : {T : Type 0} (n : ℕ) (es : List (ℕ × T)) → has_number n es ≡ false → part_under n es ≡ None
part-absent n [] h = refl
part-absent n (e ∷ es) h = grind (arith, nat_tests, part-absent n es)

-- an entry below all others is the first
pub put_in-below : {T : Type 0} (k : ℕ) (x : T) (low : ℕ) (es : List (ℕ × T)) → k ≤ low → Rises low es
    → put_in k x es ≡ (k, x) ∷ es
put_in-below k x low [] le h = refl
put_in-below k x low (e ∷ es) le h = let first : k ≤ e.0 = omega arith in grind (arith, nat_tests)

-- one entry added, and another removed
pub take_out-put_in : {T : Type 0} (n k low : ℕ) (x : T) (es : List (ℕ × T)) → n ≢ k → Rises low es
    → take_out n (put_in k x es) ≡ put_in k x (take_out n es)
take_out-put_in n k low x [] ne h = grind (arith, nat_tests)
take_out-put_in n k low x (e ∷ es) ne h =
    let rest : take_out n (put_in k x es) ≡ put_in k x (take_out n es) = take_out-put_in n k (e.0 + 1) x es ne h.1 in
    let front : k ≤ e.0 → put_in k x es ≡ (k, x) ∷ es = λ le. put_in-below k x (e.0 + 1) es (omega arith) h.1 in
    grind (arith, nat_tests, rest, front)

pub Rises-put_in : {T : Type 0} (low k : ℕ) (x : T) (es : List (ℕ × T)) → low ≤ k → has_number k es ≡ false
    → Rises low es → Rises low (put_in k x es)
Rises-put_in low k x [] le a h = (le, tt)
Rises-put_in low k x (e ∷ es) le a h =
    let apart : e.0 ≢ k = grind (arith, nat_tests) in
    let absent : has_number k es ≡ false = grind (arith, nat_tests) in
    ⊎_elim
    (λ first. rw first.0 (le, (omega arith, h.1)))
    (λ later. rw later.0 (h.0, Rises-put_in (e.0 + 1) k x es (omega arith) absent h.1))
    (leb_tells k e.0)

pub Rises-take_out : {T : Type 0} (low n : ℕ) (es : List (ℕ × T)) → Rises low es → Rises low (take_out n es)
Rises-take_out low n [] h = tt
Rises-take_out low n (e ∷ es) h =
    ⊎_elim
    (λ same. rw same.0 (Rises-weaken low (e.0 + 1) es (omega arith) h.1))
    (λ other. rw other.0 (h.0, Rises-take_out (e.0 + 1) n es h.1))
    (eqb_tells e.0 n)

-- the entries without one rise too, and its number is not among them
pub Rises-before : {T : Type 0} (low k : ℕ) (x : T) (es : List (ℕ × T)) → Rises low (put_in k x es) → Rises low es
Rises-before low k x [] h = tt
Rises-before low k x (e ∷ es) h =
    ⊎_elim
    (λ (first : (leb k e.0 ≡ true) × (k ≤ e.0)). let r = rw first.0 at h in Rises-weaken low (k + 1) (e ∷ es)
    (omega arith) r.1)
    (λ (later : (leb k e.0 ≡ false) × (e.0 < k)). let r = rw later.0 at h in (r.0, Rises-before (e.0 + 1) k x es r.1))
    (leb_tells k e.0)

pub absent-before : {T : Type 0} (low k : ℕ) (x : T) (es : List (ℕ × T)) → Rises low (put_in k x es)
    → has_number k es ≡ false
absent-before low k x [] h = refl
absent-before low k x (e ∷ es) h =
    ⊎_elim
    (λ (first : (leb k e.0 ≡ true) × (k ≤ e.0)). let r = rw first.0 at h in has-below k (k + 1) (e ∷ es) (omega arith)
    r.1)
    (λ (later : (leb k e.0 ≡ false) × (e.0 < k)). let r = rw later.0 at h in let rest : has_number k es
    ≡ false = absent-before (e.0 + 1) k x es r.1 in grind (arith, nat_tests))
    (leb_tells k e.0)

-- a number is in the map if and only if there is a part under it
pub has-some : {T : Type 0} (n : ℕ) (x : T) (es : List (ℕ × T)) → part_under n es ≡ Some x → has_number n es ≡ true
has-some n x [] h = absurd (cc)
has-some n x (e ∷ es) h =
    ⊎_elim
    (λ (same : (eqb e.0 n ≡ true) × (e.0 ≡ n)). rw same.0 refl)
    (λ (other : (eqb e.0 n ≡ false) × (e.0 ≢ n)). let later : part_under n es ≡ Some x = rw other.0 at h in
    rw other.0 (has-some n x es later))
    (eqb_tells e.0 n)

pub part-of_has : {T : Type 0} (n : ℕ) (es : List (ℕ × T)) → has_number n es ≡ true
    → (x : T) × (part_under n es ≡ Some x)
part-of_has n [] h = absurd (false≢true h)
part-of_has n (e ∷ es) h =
    ⊎_elim
    (λ (same : (eqb e.0 n ≡ true) × (e.0 ≡ n)). (e.1, rw same.0 refl))
    (λ (other : (eqb e.0 n ≡ false) × (e.0 ≢ n)). let later : has_number n es ≡ true = rw other.0 at h in
    let found = part-of_has n es later in (found.0, rw other.0 found.1))
    (eqb_tells e.0 n)

pub has-none : {T : Type 0} (n : ℕ) (es : List (ℕ × T)) → part_under n es ≡ None → has_number n es ≡ false
has-none n [] h = refl
has-none n (e ∷ es) h =
    ⊎_elim
    (λ (same : (eqb e.0 n ≡ true) × (e.0 ≡ n)). let here : Some e.1 ≡ None = rw same.0 at h in absurd (cc))
    (λ (other : (eqb e.0 n ≡ false) × (e.0 ≢ n)). let later : part_under n es ≡ None = rw other.0 at h in
    rw other.0 (has-none n es later))
    (eqb_tells e.0 n)

-- removing a number that is not in the map changes nothing
pub take_out-none : {T : Type 0} (n : ℕ) (es : List (ℕ × T)) → part_under n es ≡ None → take_out n es ≡ es
take_out-none n es h = take_out-absent n es (has-none n es h)

-- removing a number that is in the map leaves one entry less
pub length-take_out : {T : Type 0} (n : ℕ) (es : List (ℕ × T)) (x : T) → part_under n es ≡ Some x
    → length es ≡ length (take_out n es) + 1
length-take_out n [] x h = absurd (cc)
length-take_out n (e ∷ es) x h =
    ⊎_elim (λ (same : (eqb e.0 n ≡ true) × (e.0 ≡ n)). rw same.0 (omega arith))
    (λ (other : (eqb e.0 n ≡ false) × (e.0 ≢ n)).
    let later : part_under n es ≡ Some x = rw other.0 at h in
    let rest : length es ≡ length (take_out n es) + 1 = length-take_out n es x later in
    rw other.0 (omega (arith, rest)))
    (eqb_tells e.0 n)

-- there is no part under a number below all of the map
pub part-below : {T : Type 0} (n low : ℕ) (es : List (ℕ × T)) → n < low → Rises low es → part_under n es ≡ None
part-below n low [] lt r = refl
part-below n low (e ∷ es) lt r = let rest : part_under n es ≡ None =
    part-below n (e.0 + 1) es (omega arith) r.1 in grind (arith, nat_tests)

-- a part under the least possible number is the first entry
pub front_part : {T : Type 0} (n : ℕ) (es : List (ℕ × T)) (x : T) → Rises n es → part_under n es ≡ Some x
    → es ≡ (n, x) ∷ take_out n es
front_part n [] x r h = absurd (cc)
front_part n (e ∷ es) x r h =
    ⊎_elim
    (λ (same : (eqb e.0 n ≡ true) × (e.0 ≡ n)). let here : Some e.1 ≡ Some x = rw same.0 at h in let value : e.1
    ≡ x = cc in
    let entry : e ≡ (n, x) = ap (λ k. (k, e.1)) same.1 ∙ ap (λ v. (n, v)) value in rw same.0 (ap (λ p. p ∷ es) entry))
    (λ (other : (eqb e.0 n ≡ false) × (e.0 ≢ n)).
    let nothing : part_under n es ≡ None = part-below n (e.0 + 1) es (omega arith) r.1 in
    let later : part_under n es ≡ Some x = rw other.0 at h in absurd (cc))
    (eqb_tells e.0 n)

-- if there is none, the other numbers are above it
pub Rises-none : {T : Type 0} (n : ℕ) (es : List (ℕ × T)) → Rises n es → part_under n es ≡ None → Rises (n + 1) es
Rises-none n [] r h = tt
Rises-none n (e ∷ es) r h =
    ⊎_elim (λ (same : (eqb e.0 n ≡ true) × (e.0 ≡ n)). let w = rw same.0 at h in absurd (cc))
    (λ (other : (eqb e.0 n ≡ false) × (e.0 ≢ n)). (omega arith, r.1)) (eqb_tells e.0 n)

pub Rises-first : {T : Type 0} (n : ℕ) (es : List (ℕ × T)) (x : T) → Rises n es → part_under n es ≡ Some x
    → Rises (n + 1) (take_out n es)
Rises-first n es x r h = (subst (Rises n) (front_part n es x r h) r).1

-- the smaller of two numbers, either of which may be missing
abbrev pub smaller : Option ℕ → Option ℕ → Option ℕ
smaller None b = b
smaller (Some a) None = Some a
smaller (Some a) (Some b) = cond (leb a b) (Some a) (Some b)

pub least-put_in : {T : Type 0} (k : ℕ) (x : T) (es : List (ℕ × T))
    → least_of (put_in k x es) ≡ smaller (Some k) (least_of es)
least-put_in k x [] = refl
least-put_in k x (e ∷ es) = grind (arith, nat_tests)

pub smaller-assoc : (a b c : Option ℕ) → smaller (smaller a b) c ≡ smaller a (smaller b c)
smaller-assoc None b c = refl
smaller-assoc (Some a) None c = refl
smaller-assoc (Some a) (Some b) None = grind (arith, nat_tests)
smaller-assoc (Some a) (Some b) (Some c) = grind (arith, nat_tests)
