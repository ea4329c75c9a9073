-- The parts passed up rise, and have arrived.
use Rattle.std.proofs.Common.{◌≡◌, ◌≢◌, ℕ, ◌+◌, ◌*◌, ◌≤◌, true, false, cond, eqb, ltb, List, [], ◌∷◌, ◌++◌, length, Result, Ok, Err, refl, sym, ⊎_elim, inl, inr, subst, arith}
use Rattle.std.proofs.lemmas.Bool.Decides.{nat_tests, leb_tells, eqb_tells}
use Rattle.red_layer.specs.declared.pdu.RedFault.{RedFault}
use Rattle.red_layer.specs.FiniteMap.{Rises, put_in, has_number}
use Rattle.red_layer.specs.Parts.{Part, IsBelow, is_nil}
use Rattle.red_layer.specs.Redundancy.{Receiver, ReceiverStep, Input, Datagram, Tick, run_from, after_run, follow, least_waiting, is_due, parts_due, after_release, arrival, decoded, step_decoded, parts_passed, after, new_receiver}
use Rattle.red_layer.specs.Service.{IsAmong, AreAmong, HaveArrived, part_received, arrivals_of, parts_passed_along, moments}
use Rattle.red_layer.specs.Laws.{ServiceLaw}
use Rattle.octets.proofs.Choices.{by_cond, by_test}
use Rattle.red_layer.proofs.FiniteMap.{Rises-put_in, Rises-weaken}

-- the run from n on
pub run_from-rises : (n : ℕ) (es : List Part) → Rises n (run_from n es)
run_from-rises n [] = tt
run_from-rises n (e ∷ es) =
    ⊎_elim (λ same. rw same.0 (
      omega arith,
      subst (λ k. Rises (k + 1) (run_from (n + 1) es)) (sym same.1)
          (run_from-rises (n + 1) es),
    )) (λ other. rw other.0 tt) (eqb_tells e.0 n)

pub run_from-below : (n high : ℕ) (es : List Part) → n + length (run_from n es) ≤ high → IsBelow high (run_from n es)
run_from-below n high [] le = tt
run_from-below n high (e ∷ es) le =
    ⊎_elim
    (λ (same : (eqb e.0 n ≡ true) × (e.0 ≡ n)). let room = rw same.0 at le in
    rw same.0 (omega arith, run_from-below (n + 1) high es (omega arith)))
    (λ other. rw other.0 tt)
    (eqb_tells e.0 n)

pub after_run-rises : (n : ℕ) (es : List Part) → Rises n es → Rises (n + length (run_from n es) + 1) (after_run n es)
after_run-rises n [] r = tt
after_run-rises n (e ∷ es) r =
    ⊎_elim
    (λ (same : (eqb e.0 n ≡ true) × (e.0 ≡ n)).
    rw same.0 (Rises-weaken _ (n + 1 + length (run_from (n + 1) es) + 1) _ (omega arith)
    (after_run-rises (n + 1) es (subst (λ k. Rises (k + 1) es) same.1 r.1))))
    (λ (other : (eqb e.0 n ≡ false) × (e.0 ≢ n)). rw other.0 (omega arith, r.1))
    (eqb_tells e.0 n)

pub run_from-among : (n : ℕ) (es all : List Part) → AreAmong es all → AreAmong (run_from n es) all
run_from-among n [] all h = tt
run_from-among n (e ∷ es) all h =
    ⊎_elim (λ same. rw same.0 (h.0, run_from-among (n + 1) es all h.1)) (λ other. rw other.0 tt) (eqb_tells e.0 n)

pub after_run-among : (n : ℕ) (es all : List Part) → AreAmong es all → AreAmong (after_run n es) all
after_run-among n [] all h = tt
after_run-among n (e ∷ es) all h =
    ⊎_elim (λ same. rw same.0 (after_run-among (n + 1) es all h.1)) (λ other. rw other.0 h) (eqb_tells e.0 n)

pub put_in-among : (p : Part) (es all : List Part) → IsAmong p all → AreAmong es all → AreAmong (put_in p.0 p.1 es) all
put_in-among p [] all i h = (i, tt)
put_in-among p (e ∷ es) all i h =
    ⊎_elim (λ first. rw first.0 (i, h)) (λ later. rw later.0 (h.0, put_in-among p es all i h.1)) (leb_tells p.0 e.0)

-- more arrivals
pub IsAmong-more : (p : Part) (all more : List Part) → IsAmong p all → IsAmong p (all ++ more)
IsAmong-more p [] more h = absurd h
IsAmong-more p (q ∷ qs) more h = ⊎_elim inl (λ later. inr (IsAmong-more p qs more later)) h

pub AreAmong-more : (ps all more : List Part) → AreAmong ps all → AreAmong ps (all ++ more)
AreAmong-more [] all more h = tt
AreAmong-more (p ∷ ps) all more h = (IsAmong-more p all more h.0, AreAmong-more ps all more h.1)

pub IsAmong-last : (p : Part) (all : List Part) → IsAmong p (all ++ p ∷ [])
IsAmong-last p [] = inl refl
IsAmong-last p (q ∷ qs) = inr (IsAmong-last p qs)

pub AreAmong-append : (ps qs all : List Part) → AreAmong ps all → AreAmong qs all → AreAmong (ps ++ qs) all
AreAmong-append [] qs all h k = k
AreAmong-append (p ∷ ps) qs all h k = (h.0, AreAmong-append ps qs all h.1 k)

-- rising numbers, and then more of them
pub Rises-append : (low high : ℕ) (ps qs : List Part) → low ≤ high → Rises low ps → IsBelow high ps → Rises high qs
    → Rises low (ps ++ qs)
Rises-append low high [] qs le r b s = Rises-weaken low high qs le s
Rises-append low high (p ∷ ps) qs le r b s = (r.0, Rises-append (p.0 + 1) high ps qs (omega arith) r.1 b.1 s)

pub IsBelow-weaken : (low high : ℕ) (ps : List Part) → low ≤ high → IsBelow low ps → IsBelow high ps
IsBelow-weaken low high [] le b = tt
IsBelow-weaken low high (p ∷ ps) le b = (omega arith, IsBelow-weaken low high ps le b.1)

pub IsBelow-append : (high : ℕ) (ps qs : List Part) → IsBelow high ps → IsBelow high qs → IsBelow high (ps ++ qs)
IsBelow-append high [] qs b d = d
IsBelow-append high (p ∷ ps) qs b d = (b.0, IsBelow-append high ps qs b.1 d)

-- the parts passed up from a number on, and those left: all of them have arrived
pub record IsOrdered (low : ℕ) (passed : List Part) (left : Receiver) (all : List Part) : Type 0 where
  pub rises : Rises low passed
  pub below : IsBelow left.expected passed
  pub grows : low ≤ left.expected
  pub waits : Rises (left.expected + 1) left.waiting
  pub passed_among : AreAmong passed all
  pub waiting_among : AreAmong left.waiting all

pub ordered_follow : (now n : ℕ) (r : Receiver) (all : List Part) → Rises n r.waiting → AreAmong r.waiting all
    → IsOrdered n (run_from n r.waiting) (follow now n r) all
ordered_follow now n r all h among = record {
  rises = run_from-rises n r.waiting;
  below = run_from-below n _ r.waiting (omega arith);
  grows = omega arith;
  waits = after_run-rises n r.waiting h;
  passed_among = run_from-among n r.waiting all among;
  waiting_among = after_run-among n r.waiting all among;
}

-- no part is passed up
pub ordered_same : (r : Receiver) (all : List Part) → Rises (r.expected + 1) r.waiting → AreAmong r.waiting all
    → IsOrdered r.expected [] r all
ordered_same r all h among =
    record { rises = tt; below = tt; grows = omega arith; waits = h; passed_among = tt; waiting_among = among }

-- the same from a lower number on
pub ordered_from : (low high : ℕ) (passed : List Part) (left : Receiver) (all : List Part) → low ≤ high
    → IsOrdered high passed left all → IsOrdered low passed left all
ordered_from low high passed left all le o = record {
  rises = Rises-weaken low high passed le o.rises;
  below = o.below;
  grows = omega (arith, o.grows);
  waits = o.waits;
  passed_among = o.passed_among;
  waiting_among = o.waiting_among;
}

-- one step, and then another
pub ordered_append : (low : ℕ) (ps qs : List Part) (mid left : Receiver) (all : List Part) → IsOrdered low ps mid all
    → IsOrdered mid.expected qs left all → IsOrdered low (ps ++ qs) left all
ordered_append low ps qs mid left all o p = record {
  rises = Rises-append low mid.expected ps qs o.grows o.rises o.below p.rises;
  below = IsBelow-append left.expected ps qs (IsBelow-weaken mid.expected left.expected ps p.grows o.below) p.below;
  grows = omega (arith, o.grows, p.grows);
  waits = p.waits;
  passed_among = AreAmong-append ps qs all o.passed_among p.passed_among;
  waiting_among = p.waiting_among;
}

pub Rises-least_waiting : (low : ℕ) (es : List Part) → Rises low es → Rises (least_waiting es) es
Rises-least_waiting low [] h = tt
Rises-least_waiting low (e ∷ es) h = (omega arith, h.1)

pub least_waiting-le : (low : ℕ) (es : List Part) → is_nil es ≡ false → Rises low es → low ≤ least_waiting es
least_waiting-le low [] some h = absurd (cc)
least_waiting-le low (e ∷ es) some h = h.0

pub due_waits : (now : ℕ) (r : Receiver) → is_due now r ≡ true → is_nil r.waiting ≡ false
due_waits now r due = grind (arith, nat_tests)

pub ordered_release : (now : ℕ) (r : Receiver) (all : List Part) → Rises (r.expected + 1) r.waiting
    → AreAmong r.waiting all → IsOrdered r.expected (parts_due now r) (after_release now r) all
ordered_release now r all h among =
    by_test (λ b. IsOrdered r.expected (cond b (run_from (least_waiting r.waiting) r.waiting) [])
    (cond b (follow now (least_waiting r.waiting) r) r) all) (is_due now r)
    (λ due.
    let some : is_nil r.waiting ≡ false = due_waits now r due in
    ordered_from r.expected (least_waiting r.waiting) _ _ all
    (omega (arith, least_waiting-le (r.expected + 1) r.waiting some h))
    (ordered_follow now (least_waiting r.waiting) r all (Rises-least_waiting (r.expected + 1) r.waiting h) among))
    (λ not_due. ordered_same r all h among)

pub ordered_arrival : (now : ℕ) (p : Part) (r : Receiver) (all : List Part) → Rises (r.expected + 1) r.waiting
    → AreAmong r.waiting all → IsAmong p all → IsOrdered r.expected (arrival now p r).passed (arrival now p r).left all
ordered_arrival now p r all h among here =
    let P : ReceiverStep → Type 0 = λ s. IsOrdered r.expected s.passed s.left all in
    by_cond P (ltb p.0 r.expected) _ _ (λ old. ordered_same r all h among) (λ not_old.
    by_cond P (eqb p.0 r.expected) _ _ (λ next.
    let same : p.0 ≡ r.expected = grind (arith, nat_tests) in
    let rest : IsOrdered (p.0 + 1) (run_from (p.0 + 1) r.waiting) (follow now (p.0 + 1) r) all =
    ordered_follow now (p.0 + 1) r all (subst (λ n. Rises (n + 1) r.waiting) (sym same) h) among in
    record {
      rises = (omega arith, rest.rises);
      below = (omega (arith, rest.grows), rest.below);
      grows = omega (arith, rest.grows);
      waits = rest.waits;
      passed_among = (here, rest.passed_among);
      waiting_among = rest.waiting_among;
    }) (λ ahead.
    by_cond P (ltb (r.expected + 10 * r.q) p.0) _ _ (λ far. ordered_same r all h among) (λ near.
    by_cond P (has_number p.0 r.waiting) _ _ (λ again. ordered_same r all h among) (λ new.
    by_cond P (eqb (length r.waiting) r.q) _ _ (λ full. ordered_same r all h among) (λ room. record {
      rises = tt;
      below = tt;
      grows = omega arith;
      waits = Rises-put_in (r.expected + 1) p.0 p.1 r.waiting (grind (arith, nat_tests)) new h;
      passed_among = tt;
      waiting_among = put_in-among p r.waiting all here among;
    })))))

pub ordered_heard : (now : ℕ) (said : Result Part RedFault) (r : Receiver) (before : List Part)
    → Rises (r.expected + 1) r.waiting → AreAmong r.waiting before
    → IsOrdered r.expected (step_decoded now said r).passed (step_decoded now said r).left
    (before ++ part_received said)
ordered_heard now (Ok p) r before h among =
    ordered_arrival now p r (before ++ p ∷ []) h (AreAmong-more r.waiting before (p ∷ []) among) (IsAmong-last p before)
ordered_heard now (Err f) r before h among = ordered_same r (before ++ []) h (AreAmong-more r.waiting before [] among)

pub ordered_step : (e : Input) (r : Receiver) (before : List Part) → Rises (r.expected + 1) r.waiting
    → AreAmong r.waiting before → IsOrdered r.expected (parts_passed e r) (after e r) (before ++ arrivals_of e)
ordered_step (Datagram octets now) r before h among =
    let first = ordered_release now r before h among in
    let more : IsOrdered r.expected (parts_due now r) (after_release now r) (before ++ part_received (decoded octets)) =
    ordered_release now r (before ++ part_received (decoded octets)) h
    (AreAmong-more r.waiting before (part_received (decoded octets)) among) in
    ordered_append r.expected (parts_due now r) _ (after_release now r) _ _ more
    (ordered_heard now (decoded octets) (after_release now r) before first.waits first.waiting_among)
ordered_step (Tick now) r before h among =
    ordered_release now r (before ++ []) h (AreAmong-more r.waiting before [] among)

pub rising_from : (es : List Input) (r : Receiver) (before : List Part) → Rises (r.expected + 1) r.waiting
    → AreAmong r.waiting before → Rises r.expected (parts_passed_along es r)
rising_from [] r before h among = tt
rising_from (e ∷ es) r before h among =
    let o = ordered_step e r before h among in
    Rises-append r.expected (after e r).expected (parts_passed e r) (parts_passed_along es (after e r)) o.grows o.rises
    o.below (rising_from es (after e r) (before ++ arrivals_of e) o.waits o.waiting_among)

pub arrived_from : (es : List Input) (r : Receiver) (before : List Part) → Rises (r.expected + 1) r.waiting
    → AreAmong r.waiting before → HaveArrived before (moments es r)
arrived_from [] r before h among = tt
arrived_from (e ∷ es) r before h among =
    let o = ordered_step e r before h among in
    (o.passed_among, arrived_from es (after e r) (before ++ arrivals_of e) o.waits o.waiting_among)

pub service_law : ServiceLaw
service_law q t_seq inputs = record {
  rising = rising_from inputs (new_receiver q t_seq) [] tt tt;
  arrived = arrived_from inputs (new_receiver q t_seq) [] tt tt;
}
