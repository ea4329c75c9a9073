-- Near arrivals without a deadline are masked.
use Rattle.std.proofs.Common.{◌≡◌, ◌≢◌, ℕ, zero, suc, ◌+◌, ◌*◌, ◌<◌, ◌≤◌, Bool, true, false, not, ◌||◌, cond, eqb, ltb, leb, List, [], ◌∷◌, ◌++◌, length, Option, Some, None, unwrap_or, Result, Ok, Err, refl, sym, ap, ◌∙◌, ⊎_elim, subst, arith, append-nil, append_assoc}
use Rattle.std.proofs.lemmas.Bool.{false≢true}
use Rattle.std.proofs.lemmas.Bool.Decides.{nat_tests, leb_tells, eqb_tells}
use Rattle.red_layer.specs.declared.pdu.RedFault.{RedFault}
use Rattle.red_layer.specs.FiniteMap.{Rises, put_in, has_number, part_under}
use Rattle.red_layer.specs.Parts.{Part, IsBelow, is_nil}
use Rattle.red_layer.specs.Redundancy.{Receiver, ReceiverStep, Input, Datagram, Tick, run_from, after_run, follow, is_due, parts_due, after_release, arrival, decoded, step_decoded, parts_passed, after, new_receiver}
use Rattle.red_layer.specs.Service.{part_received, arrivals_of, arrivals, parts_passed_along}
use Rattle.red_layer.specs.Masking.{IsFirstMissing, greatest, missing_from, first_missing, has_above, Wait, began_by, moment_of, wait_after, AreAtMost, IsInTime, QNear, NoDeadlineFalls, no_wait, first_parts}
use Rattle.red_layer.specs.Laws.{Masking, FirstMissingLaw}
use Rattle.red_layer.proofs.Views.{IsBelow-put_in}
use Rattle.octets.proofs.Choices.{by_cond, by_test}
use Rattle.red_layer.proofs.Order.{after_run-rises, IsBelow-weaken}
use Rattle.red_layer.proofs.FiniteMap.{Rises-put_in, has-none, has-some, length-put_in, part-absent, part-below, part-of_has, part-put_in}

-- no number above the greatest has arrived
pub has-past_greatest : (n : ℕ) (arrived : List Part) → greatest arrived < n → has_number n arrived ≡ false
has-past_greatest n [] lt = refl
has-past_greatest n (p ∷ ps) lt =
    let rest : has_number n ps ≡ false = has-past_greatest n ps (omega arith) in
    let apart : p.0 ≢ n = omega arith in grind (arith, nat_tests)

-- the search finds the first missing number
pub missing_from-is : (more k : ℕ) (arrived : List Part) → has_number (k + more) arrived ≡ false
    → ((j : ℕ) → j < k → has_number j arrived ≡ true) → IsFirstMissing arrived (missing_from more k arrived)
missing_from-is zero k arrived past below =
    record { all_below = below; not_there = subst (λ n. has_number n arrived ≡ false) (omega arith) past }
missing_from-is (suc more) k arrived past below =
    by_test (λ b. IsFirstMissing arrived (cond b (missing_from more (k + 1) arrived) k)) (has_number k arrived)
    (λ here. missing_from-is more (k + 1) arrived (subst (λ n. has_number n arrived ≡ false) (omega arith) past)
    (λ j lt. ⊎_elim (λ (same : (eqb j k ≡ true) × (j ≡ k)). rw same.1 here)
    (λ (other : (eqb j k ≡ false) × (j ≢ k)). below j (omega arith)) (eqb_tells j k)))
    (λ gone. record { all_below = below; not_there = gone })

pub missing_is : (arrived : List Part) → IsFirstMissing arrived (first_missing arrived)
missing_is arrived = missing_from-is (suc (greatest arrived)) 0 arrived (has-past_greatest _ arrived (omega arith))
    (λ j lt. absurd (omega arith))

-- there is only one first missing number
pub IsFirstMissing-unique : (arrived : List Part) (m n : ℕ) → IsFirstMissing arrived m → IsFirstMissing arrived n
    → m ≡ n
IsFirstMissing-unique arrived m n first second =
    let not_less : m < n → ⊥ = λ lt. false≢true (sym first.not_there ∙ second.all_below m lt) in
    let not_more : n < m → ⊥ = λ lt. false≢true (sym second.not_there ∙ first.all_below n lt) in
    omega (arith, not_less, not_more)

pub missing_law : FirstMissingLaw
missing_law arrived =
    (missing_is arrived, λ m is. IsFirstMissing-unique arrived m (first_missing arrived) is (missing_is arrived))

-- one more arrival
pub has-last : (n : ℕ) (p : Part) (es : List Part) → has_number n (es ++ p ∷ []) ≡ (has_number n es || eqb p.0 n)
has-last n p [] = grind (arith, nat_tests)
has-last n p (e ∷ es) = grind (arith, nat_tests, has-last n p es)

pub part-last_same : (n : ℕ) (p : Part) (es : List Part) → has_number n es ≡ true
    → part_under n (es ++ p ∷ []) ≡ part_under n es
part-last_same n p [] h = absurd (false≢true h)
part-last_same n p (e ∷ es) h = grind (arith, nat_tests, part-last_same n p es)

pub part-last_other : (n : ℕ) (p : Part) (es : List Part) → p.0 ≢ n → part_under n (es ++ p ∷ []) ≡ part_under n es
part-last_other n p [] ne = grind (arith, nat_tests)
part-last_other n p (e ∷ es) ne = grind (arith, nat_tests, part-last_other n p es ne)

pub part-last_new : (p : Part) (es : List Part) → has_number p.0 es ≡ false → part_under p.0 (es ++ p ∷ []) ≡ Some p.1
part-last_new p [] h = grind (arith, nat_tests)
part-last_new p (e ∷ es) h = grind (arith, nat_tests, part-last_new p es)

-- the part under each number stays if a number arrives that came before
pub part-last_known : (n : ℕ) (p : Part) (es : List Part) → has_number p.0 es ≡ true
    → part_under n (es ++ p ∷ []) ≡ part_under n es
part-last_known n p es h =
    ⊎_elim
    (λ (same : (eqb p.0 n ≡ true) × (p.0 ≡ n)). part-last_same n p es (subst (λ k. has_number k es ≡ true) same.1 h))
    (λ (other : (eqb p.0 n ≡ false) × (p.0 ≢ n)). part-last_other n p es other.1)
    (eqb_tells p.0 n)

pub has-last_known : (n : ℕ) (p : Part) (es : List Part) → has_number p.0 es ≡ true
    → has_number n (es ++ p ∷ []) ≡ has_number n es
has-last_known n p es h =
    has-last n p es ∙ ⊎_elim
    (λ (same : (eqb p.0 n ≡ true) × (p.0 ≡ n)). let here : has_number n es
    ≡ true = subst (λ k. has_number k es ≡ true) same.1 h in rw here refl)
    (λ (other : (eqb p.0 n ≡ false) × (p.0 ≢ n)). grind (arith, nat_tests))
    (eqb_tells p.0 n)

-- the first parts depend only on the part under each number
pub first_parts-same : (m : ℕ) (xs ys : List Part) → ((k : ℕ) → k < m → part_under k xs ≡ part_under k ys)
    → first_parts m xs ≡ first_parts m ys
first_parts-same zero xs ys h = refl
first_parts-same (suc m) xs ys h =
    let rest : first_parts m xs ≡ first_parts m ys = first_parts-same m xs ys (λ k lt. h k (omega arith)) in
    let last : part_under m xs ≡ part_under m ys = h m (omega arith) in
    rw (rest, last) refl

-- the part under a number after the run is unchanged
pub part-after_run : (k n : ℕ) (es : List Part) → Rises n es → n + length (run_from n es) ≤ k
    → part_under k (after_run n es) ≡ part_under k es
part-after_run k n [] r le = refl
part-after_run k n (e ∷ es) r le =
    ⊎_elim
    (λ (same : (eqb e.0 n ≡ true) × (e.0 ≡ n)).
    let room = rw same.0 at le in
    let rest : part_under k (after_run (n + 1) es)
    ≡ part_under k es = part-after_run k (n + 1) es (subst (λ j. Rises (j + 1) es) same.1 r.1) (omega arith) in
    let apart : e.0 ≢ k = omega arith in
    rw same.0 (rest ∙ skip apart))
    (λ (other : (eqb e.0 n ≡ false) × (e.0 ≢ n)). rw other.0 refl)
    (eqb_tells e.0 n)
  where
    skip : (e.0 ≢ k) → part_under k es ≡ part_under k (e ∷ es)
    skip apart = grind (arith, nat_tests)

-- each number of a run is in the map
pub has-run : (k n : ℕ) (es : List Part) → Rises n es → n ≤ k → k < n + length (run_from n es) → has_number k es ≡ true
has-run k n [] r le lt = absurd (omega arith)
has-run k n (e ∷ es) r le lt =
    ⊎_elim
    (λ (same : (eqb e.0 n ≡ true) × (e.0 ≡ n)).
    let room = rw same.0 at lt in
    ⊎_elim
    (λ (here : (eqb e.0 k ≡ true) × (e.0 ≡ k)). rw here.0 refl)
    (λ (later : (eqb e.0 k ≡ false) × (e.0 ≢ k)).
    rw later.0 (has-run k (n + 1) es (subst (λ j. Rises (j + 1) es) same.1 r.1) (omega arith) (omega arith)))
    (eqb_tells e.0 k))
    (λ (other : (eqb e.0 n ≡ false) × (e.0 ≢ n)). let none = rw other.0 at lt in absurd (omega arith))
    (eqb_tells e.0 n)

pub IsBelow-after_run : (high n : ℕ) (es : List Part) → IsBelow high es → IsBelow high (after_run n es)
IsBelow-after_run high n [] b = tt
IsBelow-after_run high n (e ∷ es) b =
    ⊎_elim (λ same. rw same.0 (IsBelow-after_run high (n + 1) es b.1)) (λ other. rw other.0 b) (eqb_tells e.0 n)

-- there are at most high - low rising numbers from `low` on and below `high`
pub length-between : {T : Type 0} (low high : ℕ) (es : List (ℕ × T)) → low ≤ high → Rises low es → IsBelow high es
    → length es + low ≤ high
length-between low high [] le r b = omega arith
length-between low high (e ∷ es) le r b = omega (arith, length-between (e.0 + 1) high es (omega arith) r.1 b.1)

-- some number above m has arrived
pub above-some : (n m : ℕ) (es : List Part) → m < n → has_number n es ≡ true → has_above m es ≡ true
above-some n m [] lt h = absurd (false≢true h)
above-some n m (e ∷ es) lt h = grind (arith, nat_tests, above-some n m es)

pub above-none : (m : ℕ) (es : List Part) → ((n : ℕ) → m < n → has_number n es ≡ false) → has_above m es ≡ false
above-none m [] h = refl
above-none m (e ∷ es) h =
    let rest : has_above m es ≡ false = above-none m es (λ n lt. let gone = h n lt in grind (arith, nat_tests)) in
    let here : m < e.0 → ⊥ = λ lt. let gone = h e.0 lt in grind (arith, nat_tests) in
    grind (arith, nat_tests)

-- the start of a wait, if the numbers in it are known
pub began_by-is : (now : ℕ) (w : Wait) (arrived : List Part) (m n : ℕ) (some : Bool) → first_missing w.arrived ≡ m
    → first_missing arrived ≡ n → has_above n arrived ≡ some
    → began_by now w arrived ≡ cond some (Some (cond (eqb m n) (unwrap_or w.began now) now)) None
began_by-is now w arrived m n some before after above = rw (before, after, above) refl

-- the layer while its arrivals are near and no deadline falls
pub record Masks (q t_seq : ℕ) (r : Receiver) (w : Wait) (passed : List Part) : Type 0 where
  pub q_is : r.q ≡ q
  pub t_seq_is : r.t_seq ≡ t_seq
  pub missing : IsFirstMissing w.arrived r.expected
  pub rises : Rises (r.expected + 1) r.waiting
  pub near : IsBelow (r.expected + q + 1) r.waiting
  pub same : (n : ℕ) → r.expected < n → part_under n r.waiting ≡ part_under n w.arrived
  pub began : w.began ≡ cond (is_nil r.waiting) None (Some r.since)
  pub passed_is : passed ≡ first_parts r.expected w.arrived

first_missing-is : (q t_seq : ℕ) (r : Receiver) (w : Wait) (passed : List Part) → Masks q t_seq r w passed
    → first_missing w.arrived ≡ r.expected
first_missing-is q t_seq r w passed m = IsFirstMissing-unique w.arrived _ _ (missing_is w.arrived) m.missing

-- a number above m has arrived if and only if a part is deferred
above-waiting : (m : ℕ) (waiting arrived : List Part) → Rises (m + 1) waiting
    → ((n : ℕ) → m < n → part_under n waiting ≡ part_under n arrived) → has_above m arrived ≡ not (is_nil waiting)
above-waiting m [] arrived r same = above-none m arrived (λ n lt. has-none n arrived (sym (same n lt)))
above-waiting m (e ∷ es) arrived r same =
    above-some e.0 m arrived (omega arith) (has-some e.0 e.1 arrived (sym (same e.0 (omega arith)) ∙ head))
  where
    head : part_under e.0 (e ∷ es) ≡ Some e.1
    head = grind (arith, nat_tests)

-- the deadline is not due
not_due : (q t_seq now : ℕ) (r : Receiver) (w : Wait) (passed : List Part) → Masks q t_seq r w passed
    → IsInTime t_seq now w.began → is_due now r ≡ false
not_due q t_seq now r w passed m in_time =
    by_test (λ b. is_nil r.waiting ≡ b → is_due now r ≡ false) (is_nil r.waiting)
    (λ nil _. rw nil refl)
    (λ some _.
    let still = subst (IsInTime t_seq now) (m.began ∙ ap (λ b. cond b None (Some r.since)) some) in_time in
    let early : now < r.since + r.t_seq = omega (arith, still, m.t_seq_is) in
    grind (arith, nat_tests))
    refl

began-kept : (m now since : ℕ) (began : Option ℕ) (nil : Bool) → began ≡ cond nil None (Some since)
    → cond (not nil) (Some (cond (eqb m m) (unwrap_or began now) now)) None ≡ cond nil None (Some since)
began-kept m now since began true h = refl
began-kept m now since began false h = rw h (grind (arith, nat_tests))

-- no new number has arrived
masks_still : (q t_seq now : ℕ) (r : Receiver) (w : Wait) (passed : List Part) (arrived : List Part)
    → Masks q t_seq r w passed → ((n : ℕ) → has_number n arrived ≡ has_number n w.arrived)
    → ((n : ℕ) → part_under n arrived ≡ part_under n w.arrived)
    → Masks q t_seq r (record { arrived = arrived; began = began_by now w arrived }) passed
masks_still q t_seq now r w passed arrived m has under =
    let missing : IsFirstMissing arrived r.expected = record {
      all_below = λ k lt. has k
          ∙ m.missing.all_below k lt;
      not_there = has r.expected ∙ m.missing.not_there;
    } in
    let above : has_above r.expected arrived ≡ not (is_nil r.waiting) = above-waiting r.expected r.waiting arrived
    m.rises (λ n lt. m.same n lt ∙ sym (under n)) in
    record {
      q_is = m.q_is;
      t_seq_is = m.t_seq_is;
      missing = missing;
      rises = m.rises;
      near = m.near;
      same = λ n lt. m.same n lt ∙ sym (under n);
      began = began_by-is now w arrived r.expected r.expected (not (is_nil r.waiting))
          (first_missing-is q t_seq r w passed m) (IsFirstMissing-unique arrived _ _ (missing_is arrived) missing) above
          ∙ began-kept r.expected now r.since w.began (is_nil r.waiting) m.began;
      passed_is = m.passed_is ∙ first_parts-same r.expected w.arrived arrived (λ k lt. sym (under k));
    }

began-moved : (m n now since : ℕ) (began : Option ℕ) (nil : Bool) → m ≢ n
    → cond (not nil) (Some (cond (eqb m n) (unwrap_or began now) now)) None ≡ cond nil None (Some (cond nil since now))
began-moved m n now since began true ne = refl
began-moved m n now since began false ne = grind (arith, nat_tests)

-- each deferred number is above the expected one
waiting_ahead : (n k : ℕ) (x : List ℕ) (es : List Part) → Rises (n + 1) es → part_under k es ≡ Some x → n < k
waiting_ahead n k x es r h =
    ⊎_elim (λ (after : (leb (suc n) k ≡ true) × (suc n ≤ k)). after.1)
    (λ (before : (leb (suc n) k ≡ false) × (k < suc n)). let none : part_under k es
    ≡ None = part-below k (n + 1) es (omega arith) r in absurd (cc))
    (leb_tells (suc n) k)

-- a part under a number after the first entry
part-later : (e : Part) (es : List Part) (k : ℕ) (x : List ℕ) → Rises (e.0 + 1) es → part_under k es ≡ Some x
    → part_under k (e ∷ es) ≡ Some x
part-later e es k x r h =
    ⊎_elim
    (λ (same : (eqb e.0 k ≡ true) × (e.0 ≡ k)). let none : part_under k es
    ≡ None = part-below k (e.0 + 1) es (omega arith) r in absurd (cc))
    (λ (other : (eqb e.0 k ≡ false) × (e.0 ≢ k)). rw other.0 h)
    (eqb_tells e.0 k)

-- each number before the end of the run has arrived
next_below : (q t_seq : ℕ) (p : Part) (r : Receiver) (w : Wait) (passed : List Part) → Masks q t_seq r w passed
    → p.0 ≡ r.expected → (k : ℕ) → k < p.0 + 1 + length (run_from (p.0 + 1) r.waiting)
    → has_number k (w.arrived ++ p ∷ []) ≡ true
next_below q t_seq p r w passed m next k lt =
    has-last k p w.arrived ∙ ⊎_elim
    (λ (after : (leb (suc p.0) k ≡ true) × (suc p.0 ≤ k)).
    let there : has_number k r.waiting ≡ true = has-run k (p.0 + 1) r.waiting
    (subst (λ n. Rises (n + 1) r.waiting) (sym next) m.rises) (omega arith) lt in
    let found = part-of_has k r.waiting there in
    ap (λ b. b || eqb p.0 k) (has-some k found.0 w.arrived (sym (m.same k (omega arith)) ∙ found.1)))
    (λ (before : (leb (suc p.0) k ≡ false) × (k < suc p.0)).
    ⊎_elim
    (λ (same : (eqb p.0 k ≡ true) × (p.0 ≡ k)). grind (arith, nat_tests))
    (λ (other : (eqb p.0 k ≡ false) × (p.0 ≢ k)). ap (λ b. b || eqb p.0 k) (m.missing.all_below k (omega arith)))
    (eqb_tells p.0 k))
    (leb_tells (suc p.0) k)

-- the parts of a run are the first ones under their numbers
first_parts-run : (n : ℕ) (es all : List Part) → Rises n es
    → ((k : ℕ) (x : List ℕ) → part_under k es ≡ Some x → part_under k all ≡ Some x)
    → first_parts n all ++ run_from n es ≡ first_parts (n + length (run_from n es)) all
first_parts-run n [] all r known = let none : n ≡ n + 0 =
    omega arith in append-nil (first_parts n all) ∙ ap (λ m. first_parts m all) none
first_parts-run n (e ∷ es) all r known =
    ⊎_elim
    (λ (same : (eqb e.0 n ≡ true) × (e.0 ≡ n)).
    let here : part_under n (e ∷ es) ≡ Some e.1 = rw same.0 refl in
    let head : part_under n all ≡ Some e.1 = known n e.1 here in
    let tail : (k : ℕ) (x : List ℕ) → part_under k es ≡ Some x
    → part_under k all ≡ Some x = λ k x h. known k x (part-later e es k x r.1 h) in
    let entry : (n, e.1) ≡ e = ap (λ m. (m, e.1)) (sym same.1) in
    let step : first_parts (suc n) all ≡ first_parts n all ++ e ∷
    [] = rw head (ap (λ q. first_parts n all ++ q ∷ []) entry) in
    let next : suc n ≡ n + 1 = omega arith in
    let count : n + 1 + length (run_from (n + 1) es) ≡ n + suc (length (run_from (n + 1) es)) = omega arith in
    rw same.0
    (sym (append_assoc (first_parts n all) (e ∷ []) (run_from (n + 1) es))
    ∙ ap (λ xs. xs ++ run_from (n + 1) es) (sym step ∙ ap (λ m. first_parts m all) next)
    ∙ first_parts-run (n + 1) es all (subst (λ j. Rises (j + 1) es) same.1 r.1) tail
    ∙ ap (λ m. first_parts m all) count))
    (λ (other : (eqb e.0 n ≡ false) × (e.0 ≢ n)). let none : n ≡ n + 0 = omega arith in
    rw other.0 (append-nil (first_parts n all) ∙ ap (λ m. first_parts m all) none))
    (eqb_tells e.0 n)

-- the parts passed up after the expected number came
next_passed : (q t_seq : ℕ) (p : Part) (r : Receiver) (w : Wait) (passed : List Part) → Masks q t_seq r w passed
    → p.0 ≡ r.expected → passed ++ p ∷ run_from (p.0 + 1) r.waiting
    ≡ first_parts (p.0 + 1 + length (run_from (p.0 + 1) r.waiting)) (w.arrived ++ p ∷ [])
next_passed q t_seq p r w passed m next =
    let all : List Part = w.arrived ++ p ∷ [] in
    let run : List Part = run_from (p.0 + 1) r.waiting in
    let new : has_number p.0 w.arrived ≡ false = subst (λ n. has_number n w.arrived ≡ false)
    (sym next) m.missing.not_there in
    let known : (k : ℕ) (x : List ℕ) → part_under k r.waiting ≡ Some x → part_under k all ≡ Some x =
    λ k x h. let ahead : p.0 < k =
    waiting_ahead p.0 k x r.waiting (subst (λ n. Rises (n + 1) r.waiting) (sym next) m.rises) h in
    part-last_other k p w.arrived (omega arith) ∙ sym (m.same k (omega arith)) ∙ h in
    let old : first_parts p.0 all ≡ passed =
    sym (first_parts-same p.0 w.arrived all (λ k lt.
    sym (part-last_same k p w.arrived (m.missing.all_below k (omega arith)))))
    ∙ ap (λ n. first_parts n w.arrived) next ∙ sym m.passed_is in
    let mine : part_under p.0 all ≡ Some p.1 = part-last_new p w.arrived new in
    let one : first_parts (suc p.0) all ≡ passed ++ p ∷ [] = rw (old, mine) refl in
    let count : suc p.0 ≡ p.0 + 1 = omega arith in
    sym (append_assoc passed (p ∷ []) run)
    ∙ ap (λ xs. xs ++ run) (sym one ∙ ap (λ n. first_parts n all) count)
    ∙ first_parts-run (p.0 + 1) r.waiting all (subst (λ n. Rises (n + 1) r.waiting) (sym next) m.rises) known

-- the expected number arrives
masks_next : (q t_seq now : ℕ) (p : Part) (r : Receiver) (w : Wait) (passed : List Part) → Masks q t_seq r w passed
    → p.0 ≡ r.expected → Masks q t_seq (follow now (p.0 + 1) r)
    (record { arrived = w.arrived ++ p ∷ []; began = began_by now w (w.arrived ++ p ∷ []) })
    (passed ++ p ∷ run_from (p.0 + 1) r.waiting)
masks_next q t_seq now p r w passed m next =
    let all : List Part = w.arrived ++ p ∷ [] in
    let end : ℕ = p.0 + 1 + length (run_from (p.0 + 1) r.waiting) in
    let rises : Rises (p.0 + 1) r.waiting = subst (λ n. Rises (n + 1) r.waiting) (sym next) m.rises in
    let known : (k : ℕ) → p.0 < k → part_under k r.waiting ≡ part_under k all =
    λ k lt. m.same k (omega arith) ∙ sym (part-last_other k p w.arrived (omega arith)) in
    let above : (k : ℕ) → end ≤ k → part_under k (after_run (p.0 + 1) r.waiting) ≡ part_under k all =
    λ k le. part-after_run k (p.0 + 1) r.waiting rises le ∙ known k (omega arith) in
    let left : Rises (end + 1) (after_run (p.0 + 1) r.waiting) = after_run-rises (p.0 + 1) r.waiting rises in
    let missing : IsFirstMissing all end = record {
      all_below = λ k lt. next_below q t_seq p r w passed m next k lt;
      not_there = has-none end all (sym (above end (omega arith))
          ∙ part-below end (end + 1) (after_run (p.0 + 1) r.waiting) (omega arith) left);
    } in
    let waits : has_above end all ≡ not (is_nil (after_run (p.0 + 1) r.waiting)) = above-waiting end
    (after_run (p.0 + 1) r.waiting) all left (λ n lt. above n (omega arith)) in
    record {
      q_is = m.q_is;
      t_seq_is = m.t_seq_is;
      missing = missing;
      rises = left;
      near = IsBelow-weaken (r.expected + q + 1) (end + q + 1) (after_run (p.0 + 1) r.waiting) (omega arith)
          (IsBelow-after_run _ (p.0 + 1) r.waiting m.near);
      same = λ n lt. above n (omega arith);
      began = began_by-is now w all r.expected end (not (is_nil (after_run (p.0 + 1) r.waiting)))
          (first_missing-is q t_seq r w passed m) (IsFirstMissing-unique all _ _ (missing_is all) missing) waits
          ∙ began-moved r.expected end now r.since w.began (is_nil (after_run (p.0 + 1) r.waiting)) (omega arith);
      passed_is = next_passed q t_seq p r w passed m next;
    }

began-wait : (m now since : ℕ) (began : Option ℕ) (nil nil' : Bool) → nil' ≡ false → began ≡ cond nil None (Some since)
    → cond (not nil') (Some (cond (eqb m m) (unwrap_or began now) now)) None
    ≡ cond nil' None (Some (cond nil now since))
began-wait m now since began true nil' h b = rw (h, b) (grind (arith, nat_tests))
began-wait m now since began false nil' h b = rw (h, b) (grind (arith, nat_tests))

is_nil-put_in : (n : ℕ) (x : List ℕ) (es : List Part) → is_nil (put_in n x es) ≡ false
is_nil-put_in n x [] = refl
is_nil-put_in n x (e ∷ es) = ⊎_elim (λ first. rw first.0 refl) (λ later. rw later.0 refl) (leb_tells n e.0)

-- a new number ahead arrives
masks_wait : (q t_seq now : ℕ) (p : Part) (r : Receiver) (w : Wait) (passed : List Part) → Masks q t_seq r w passed
    → r.expected < p.0 → p.0 ≤ r.expected + q → has_number p.0 r.waiting ≡ false
    → Masks q t_seq (record r { waiting = put_in p.0 p.1 r.waiting; since = cond (is_nil r.waiting) now r.since })
    (record { arrived = w.arrived ++ p ∷ []; began = began_by now w (w.arrived ++ p ∷ []) }) passed
masks_wait q t_seq now p r w passed m ahead near new =
    let all : List Part = w.arrived ++ p ∷ [] in
    let gone : part_under p.0 w.arrived ≡ None = sym (m.same p.0 ahead) ∙ part-absent p.0 r.waiting new in
    let fresh : has_number p.0 w.arrived ≡ false = has-none p.0 w.arrived gone in
    let rises : Rises (r.expected + 1) (put_in p.0 p.1 r.waiting) = Rises-put_in (r.expected + 1) p.0 p.1 r.waiting
    (omega arith) new m.rises in
    let apart : p.0 ≢ r.expected = omega arith in
    let not_mine : eqb p.0 r.expected ≡ false = grind (arith, nat_tests) in
    let missing : IsFirstMissing all r.expected = record {
      all_below = λ k lt. has-last k p w.arrived ∙ ap (λ b. b || eqb p.0 k) (m.missing.all_below k lt);
      not_there = has-last r.expected p w.arrived ∙ ap (λ b. b || eqb p.0 r.expected) m.missing.not_there ∙ not_mine;
    } in
    let same : (n : ℕ) → r.expected < n → part_under n (put_in p.0 p.1 r.waiting) ≡ part_under n all =
    λ n lt. part-put_in n p.0 p.1 r.waiting ∙ ⊎_elim
    (λ (mine : (eqb p.0 n ≡ true) × (p.0 ≡ n)). rw mine.0 (sym (part-last_new p w.arrived fresh)
    ∙ ap (λ k. part_under k all) mine.1))
    (λ (other : (eqb p.0 n ≡ false) × (p.0 ≢ n)). rw other.0 (m.same n lt
    ∙ sym (part-last_other n p w.arrived other.1)))
    (eqb_tells p.0 n) in
    record {
      q_is = m.q_is;
      t_seq_is = m.t_seq_is;
      missing = missing;
      rises = rises;
      near = IsBelow-put_in (r.expected + q + 1) p.0 p.1 r.waiting (omega arith) m.near;
      same = same;
      began = began_by-is now w all r.expected r.expected (not (is_nil (put_in p.0 p.1 r.waiting)))
          (first_missing-is q t_seq r w passed m) (IsFirstMissing-unique all _ _ (missing_is all) missing)
          (above-waiting r.expected (put_in p.0 p.1 r.waiting) all rises same)
          ∙ began-wait r.expected now r.since w.began (is_nil r.waiting) (is_nil (put_in p.0 p.1 r.waiting))
          (is_nil-put_in p.0 p.1 r.waiting) m.began;
      passed_is = m.passed_is ∙ first_parts-same r.expected w.arrived all
          (λ k lt. sym (part-last_same k p w.arrived (m.missing.all_below k lt)));
    }

-- a number that came before arrives
masks_again : (q t_seq now : ℕ) (p : Part) (r : Receiver) (w : Wait) (passed : List Part) → Masks q t_seq r w passed
    → has_number p.0 w.arrived ≡ true → Masks q t_seq r
    (record { arrived = w.arrived ++ p ∷ []; began = began_by now w (w.arrived ++ p ∷ []) }) (passed ++ [])
masks_again q t_seq now p r w passed m again =
    subst (λ ps. Masks q t_seq r (record {
      arrived = w.arrived ++ p ∷ [];
      began = began_by now w (w.arrived ++ p ∷ []);
    }) ps) (sym (append-nil passed))
    (masks_still q t_seq now r w passed (w.arrived ++ p ∷ []) m
    (λ n. has-last_known n p w.arrived again)
    (λ n. part-last_known n p w.arrived again))

masks_arrival : (q t_seq now : ℕ) (p : Part) (r : Receiver) (w : Wait) (passed : List Part) → Masks q t_seq r w passed
    → p.0 ≤ first_missing w.arrived + q → Masks q t_seq (arrival now p r).left
    (record { arrived = w.arrived ++ p ∷ []; began = began_by now w (w.arrived ++ p ∷ []) })
    (passed ++ (arrival now p r).passed)
masks_arrival q t_seq now p r w passed m near =
    let bound : p.0 ≤ r.expected + q = omega (arith, first_missing-is q t_seq r w passed m) in
    let P : ReceiverStep → Type 0 = λ s. Masks q t_seq s.left
    (record { arrived = w.arrived ++ p ∷ []; began = began_by now w (w.arrived ++ p ∷ []) }) (passed ++ s.passed) in
    by_cond P (ltb p.0 r.expected) _ _ (λ old. masks_again q t_seq now p r w passed m
    (m.missing.all_below p.0 (grind (arith, nat_tests)))) (λ not_old.
    by_cond P (eqb p.0 r.expected) _ _ (λ next. masks_next q t_seq now p r w passed m (grind (arith, nat_tests)))
    (λ not_next.
    let ahead : r.expected < p.0 = grind (arith, nat_tests) in
    by_cond P (ltb (r.expected + 10 * r.q) p.0) _ _
    (λ far. let beyond : r.expected + 10 * r.q < p.0 = grind (arith, nat_tests) in absurd (omega (arith, m.q_is)))
    (λ not_far.
    by_cond P (has_number p.0 r.waiting) _ _
    (λ again. let found = part-of_has p.0 r.waiting again in masks_again q t_seq now p r w passed m
    (has-some p.0 found.0 w.arrived (sym (m.same p.0 ahead) ∙ found.1))) (λ new.
    by_cond P (eqb (length r.waiting) r.q) _ _
    (λ full.
    let count : length r.waiting ≡ r.q = grind (arith, nat_tests) in
    let more = length-between (r.expected + 1) (r.expected + q + 1) (put_in p.0 p.1 r.waiting) (omega arith)
    (Rises-put_in (r.expected + 1) p.0 p.1 r.waiting (omega arith) new m.rises)
    (IsBelow-put_in (r.expected + q + 1) p.0 p.1 r.waiting (omega arith) m.near) in
    absurd (omega (arith, more, length-put_in p.0 p.1 r.waiting, count, m.q_is)))
    (λ room. subst (λ ps. Masks q t_seq (record r {
      waiting = put_in p.0 p.1 r.waiting;
      since = cond (is_nil r.waiting) now r.since;
    })
    (record { arrived = w.arrived ++ p ∷ []; began = began_by now w (w.arrived ++ p ∷ []) }) ps)
    (sym (append-nil passed)) (masks_wait q t_seq now p r w passed m ahead bound new))))))

masks_heard : (q t_seq now : ℕ) (said : Result Part RedFault) (r : Receiver) (w : Wait) (passed : List Part)
    → Masks q t_seq r w passed → AreAtMost (first_missing w.arrived + q) (part_received said)
    → Masks q t_seq (step_decoded now said r).left
    (record {
      arrived = w.arrived ++ part_received said;
      began = began_by now w (w.arrived ++ part_received said);
    }) (passed ++ (step_decoded now said r).passed)
masks_heard q t_seq now (Ok p) r w passed m near = masks_arrival q t_seq now p r w passed m near.0
masks_heard q t_seq now (Err f) r w passed m near =
    subst (λ ps. Masks q t_seq r (record { arrived = w.arrived ++ []; began = began_by now w (w.arrived ++ []) }) ps)
    (sym (append-nil passed))
    (masks_still q t_seq now r w passed (w.arrived ++ []) m (λ n. ap (has_number n) (append-nil w.arrived))
    (λ n. ap (part_under n) (append-nil w.arrived)))

release-none : (now : ℕ) (r : Receiver) → is_due now r ≡ false → parts_due now r ≡ []
release-none now r quiet = rw quiet refl

release-same : (now : ℕ) (r : Receiver) → is_due now r ≡ false → after_release now r ≡ r
release-same now r quiet = rw quiet refl

masks_step : (q t_seq : ℕ) (e : Input) (r : Receiver) (w : Wait) (passed : List Part) → Masks q t_seq r w passed
    → AreAtMost (first_missing w.arrived + q) (arrivals_of e) → IsInTime t_seq (moment_of e) w.began
    → Masks q t_seq (after e r) (wait_after e w) (passed ++ parts_passed e r)
masks_step q t_seq (Datagram octets now) r w passed m near in_time =
    let quiet : is_due now r ≡ false = not_due q t_seq now r w passed m in_time in
    subst (λ s. Masks q t_seq (step_decoded now (decoded octets) s).left (wait_after (Datagram octets now) w)
    (passed ++ (parts_due now r ++ (step_decoded now (decoded octets) s).passed))) (sym (release-same now r quiet))
    (subst (λ ps. Masks q t_seq (step_decoded now (decoded octets) r).left (wait_after (Datagram octets now) w)
    (passed ++ (ps ++ (step_decoded now (decoded octets) r).passed))) (sym (release-none now r quiet))
    (masks_heard q t_seq now (decoded octets) r w passed m near))
masks_step q t_seq (Tick now) r w passed m near in_time =
    let quiet : is_due now r ≡ false = not_due q t_seq now r w passed m in_time in
    subst (λ s. Masks q t_seq s (wait_after (Tick now) w) (passed ++ parts_due now r)) (sym (release-same now r quiet))
    (subst (λ ps. Masks q t_seq r (wait_after (Tick now) w) (passed ++ ps)) (sym (release-none now r quiet))
    (subst (λ ps. Masks q t_seq r (wait_after (Tick now) w) ps) (sym (append-nil passed))
    (masks_still q t_seq now r w passed (w.arrived ++ []) m (λ n. ap (has_number n) (append-nil w.arrived))
    (λ n. ap (part_under n) (append-nil w.arrived)))))

masking_from : (q t_seq : ℕ) (es : List Input) (r : Receiver) (w : Wait) (passed : List Part) → Masks q t_seq r w passed
    → QNear q w.arrived es → NoDeadlineFalls t_seq w es
    → passed ++ parts_passed_along es r ≡ first_parts (first_missing (w.arrived ++ arrivals es))
    (w.arrived ++ arrivals es)
masking_from q t_seq [] r w passed m near in_time =
    append-nil passed ∙ m.passed_is ∙ ap (λ n. first_parts n w.arrived) (sym (first_missing-is q t_seq r w passed m))
    ∙ ap (λ all. first_parts (first_missing all) all) (sym (append-nil w.arrived))
masking_from q t_seq (e ∷ es) r w passed m near in_time =
    sym (append_assoc passed (parts_passed e r) (parts_passed_along es (after e r)))
    ∙ masking_from q t_seq es (after e r) (wait_after e w) (passed ++ parts_passed e r)
    (masks_step q t_seq e r w passed m near.0 in_time.0) near.1 in_time.1
    ∙ ap (λ all. first_parts (first_missing all) all) (append_assoc w.arrived (arrivals_of e) (arrivals es))

pub masking_law : Masking
masking_law q t_seq inputs near in_time =
    masking_from q t_seq inputs (new_receiver q t_seq) no_wait [] (record {
      q_is = refl;
      t_seq_is = refl;
      missing = record { all_below = λ k lt. absurd (omega arith); not_there = refl };
      rises = tt;
      near = tt;
      same = λ n lt. refl;
      began = refl;
      passed_is = refl;
    }) near in_time
