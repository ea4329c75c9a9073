-- The origin of parts, how many are deferred, and how a list of inputs grows.
use Rattle.std.proofs.Common.{◌≡◌, ◌≢◌, ℕ, ◌+◌, ◌*◌, ◌≤◌, cond, eqb, ltb, List, [], ◌∷◌, ◌++◌, length, Result, Ok, Err, refl, sym, ap, ◌∙◌, inl, inr, arith, append-nil, append_assoc}
use Rattle.std.proofs.lemmas.Bool.Decides.{nat_tests}
use Rattle.red_layer.specs.declared.pdu.RedFault.{RedFault}
use Rattle.red_layer.specs.FiniteMap.{has_number}
use Rattle.red_layer.specs.Parts.{Part}
use Rattle.red_layer.specs.Redundancy.{Receiver, ReceiverStep, Input, Datagram, Tick, run_from, follow, least_waiting, is_due, parts_due, after_release, arrival, decoded, step_decoded, parts_passed, after, new_receiver}
use Rattle.red_layer.specs.Service.{IsAmong, AreAmong, part_received, parts_passed_along, after_along}
use Rattle.red_layer.specs.Laws.{BoundedLaw, OriginLaw, OneMoreLaw}
use Rattle.red_layer.proofs.Views.{length-after_run}
use Rattle.octets.proofs.Choices.{by_cond, by_test}
use Rattle.red_layer.proofs.Order.{run_from-among, after_run-among, put_in-among, AreAmong-more, AreAmong-append}
use Rattle.red_layer.proofs.FiniteMap.{length-put_in}

AreAmong-cons : (p : Part) (ps qs : List Part) → AreAmong ps qs → AreAmong ps (p ∷ qs)
AreAmong-cons p [] qs h = tt
AreAmong-cons p (x ∷ ps) qs h = (inr h.0, AreAmong-cons p ps qs h.1)

AreAmong-self : (ps : List Part) → AreAmong ps ps
AreAmong-self [] = tt
AreAmong-self (p ∷ ps) = (inl refl, AreAmong-cons p ps ps (AreAmong-self ps))

AreAmong-back : (ps qs : List Part) → AreAmong qs (ps ++ qs)
AreAmong-back [] qs = AreAmong-self qs
AreAmong-back (p ∷ ps) qs = AreAmong-cons p qs (ps ++ qs) (AreAmong-back ps qs)

-- the parts passed up and those then deferred are among these
abbrev pub ComeFrom : List Part → List Part → Receiver → Type 0
ComeFrom all passed left = AreAmong passed all × AreAmong left.waiting all

origin_release : (now : ℕ) (r : Receiver) (all : List Part) → AreAmong r.waiting all
    → ComeFrom all (parts_due now r) (after_release now r)
origin_release now r all among =
    by_test (λ b. ComeFrom all (cond b (run_from (least_waiting r.waiting) r.waiting) [])
    (cond b (follow now (least_waiting r.waiting) r) r)) (is_due now r)
    (λ due. (
      run_from-among (least_waiting r.waiting) r.waiting all among,
      after_run-among (least_waiting r.waiting) r.waiting all among,
    ))
    (λ not_due. (tt, among))

origin_arrival : (now : ℕ) (p : Part) (r : Receiver) (all : List Part) → AreAmong r.waiting all → IsAmong p all
    → ComeFrom all (arrival now p r).passed (arrival now p r).left
origin_arrival now p r all among here =
    let P : ReceiverStep → Type 0 = λ s. ComeFrom all s.passed s.left in
    by_cond P (ltb p.0 r.expected) _ _ (λ old. (tt, among)) (λ not_old.
    by_cond P (eqb p.0 r.expected) _ _
    (λ next. ((here, run_from-among (p.0 + 1) r.waiting all among), after_run-among (p.0 + 1) r.waiting all among))
    (λ ahead.
    by_cond P (ltb (r.expected + 10 * r.q) p.0) _ _ (λ far. (tt, among)) (λ near.
    by_cond P (has_number p.0 r.waiting) _ _ (λ again. (tt, among)) (λ new.
    by_cond P (eqb (length r.waiting) r.q) _ _ (λ full. (tt, among))
    (λ room. (tt, put_in-among p r.waiting all here among))))))

origin_heard : (now : ℕ) (said : Result Part RedFault) (r : Receiver) (all : List Part) → AreAmong r.waiting all
    → AreAmong (part_received said) all
    → ComeFrom all (step_decoded now said r).passed (step_decoded now said r).left
origin_heard now (Ok p) r all among here = origin_arrival now p r all among here.0
origin_heard now (Err fault) r all among here = (tt, among)

pub origin_law : OriginLaw
origin_law (Datagram octets now) r =
    let all : List Part = r.waiting ++ part_received (decoded octets) in
    let first = origin_release now r all (AreAmong-more r.waiting r.waiting (part_received (decoded octets))
    (AreAmong-self r.waiting)) in
    let then = origin_heard now (decoded octets) (after_release now r) all first.1
    (AreAmong-back r.waiting (part_received (decoded octets))) in
    (AreAmong-append (parts_due now r) _ all first.0 then.0, then.1)
origin_law (Tick now) r =
    origin_release now r (r.waiting ++ []) (AreAmong-more r.waiting r.waiting [] (AreAmong-self r.waiting))

-- at most q parts are deferred
pub record IsBounded (q : ℕ) (r : Receiver) : Type 0 where
  pub q_is : r.q ≡ q
  pub at_most : length r.waiting ≤ q

bounded_follow : (q now n : ℕ) (r : Receiver) → IsBounded q r → IsBounded q (follow now n r)
bounded_follow q now n r b = record { q_is = b.q_is; at_most = omega (arith, length-after_run n r.waiting, b.at_most) }

bounded_release : (q now : ℕ) (r : Receiver) → IsBounded q r → IsBounded q (after_release now r)
bounded_release q now r b =
    by_cond (IsBounded q) (is_due now r) _ _ (λ due. bounded_follow q now (least_waiting r.waiting) r b) (λ not_due. b)

bounded_arrival : (q now : ℕ) (p : Part) (r : Receiver) → IsBounded q r → IsBounded q (arrival now p r).left
bounded_arrival q now p r b =
    let P : ReceiverStep → Type 0 = λ s. IsBounded q s.left in
    by_cond P (ltb p.0 r.expected) _ _ (λ old. b) (λ not_old.
    by_cond P (eqb p.0 r.expected) _ _ (λ next. bounded_follow q now (p.0 + 1) r b) (λ ahead.
    by_cond P (ltb (r.expected + 10 * r.q) p.0) _ _ (λ far. b) (λ near.
    by_cond P (has_number p.0 r.waiting) _ _ (λ again. b) (λ new.
    by_cond P (eqb (length r.waiting) r.q) _ _ (λ full. b) (λ room.
    let apart : length r.waiting ≢ r.q = grind (arith, nat_tests) in
    record { q_is = b.q_is; at_most = omega (arith, length-put_in p.0 p.1 r.waiting, b.at_most, b.q_is, apart) })))))

bounded_heard : (q now : ℕ) (said : Result Part RedFault) (r : Receiver) → IsBounded q r
    → IsBounded q (step_decoded now said r).left
bounded_heard q now (Ok p) r b = bounded_arrival q now p r b
bounded_heard q now (Err fault) r b = b

bounded_along : (q : ℕ) (es : List Input) (r : Receiver) → IsBounded q r → IsBounded q (after_along es r)
bounded_along q [] r b = b
bounded_along q (Datagram octets now ∷ es) r b =
    bounded_along q es _ (bounded_heard q now (decoded octets) (after_release now r) (bounded_release q now r b))
bounded_along q (Tick now ∷ es) r b = bounded_along q es _ (bounded_release q now r b)

pub bounded_law : BoundedLaw
bounded_law q t_seq inputs =
    (bounded_along q inputs (new_receiver q t_seq) (record { q_is = refl; at_most = omega arith })).at_most

-- one more input at the end
pub one_more_law : OneMoreLaw
one_more_law [] e r = (refl, append-nil (parts_passed e r))
one_more_law (x ∷ xs) e r =
    let rest = one_more_law xs e (after x r) in (
      rest.0,
      ap (λ ps. parts_passed x r ++ ps) rest.1
          ∙ sym (append_assoc (parts_passed x r) (parts_passed_along xs (after x r))
          (parts_passed e (after_along xs (after x r)))),
    )
