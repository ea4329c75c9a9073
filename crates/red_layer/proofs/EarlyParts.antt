-- The three outcomes of an early part; f maps a kept part to its bytes.
use Rattle.std.proofs.Common.{◌≡◌, ◌≢◌, ℕ, true, false, cond, List, [], length, refl, sym, ap, ◌∙◌, arith}
use Rattle.std.proofs.lemmas.Bool.Decides.{nat_tests}
use Rattle.red_layer.specs.FiniteMap.{put_in, has_number}
use Rattle.red_layer.specs.declared.RedEvent.TheVariants.{Wait, Full, Again}
use Rattle.red_layer.specs.Parts.{Part, map_parts, is_nil}
use Rattle.red_layer.specs.Redundancy.{Receiver, defer}
use Rattle.red_layer.proofs.Views.{length-map_parts, has-map_parts}

pub deferred-again : {T : Type 0} (f : T → List ℕ) (es : List (ℕ × T)) (now : ℕ) (p : Part) (r : Receiver)
    → r.waiting ≡ map_parts f es → has_number p.0 es ≡ true
    → defer now p r ≡ record { event = Again; passed = []; left = r }
deferred-again f es now p r is there =
    let here : has_number p.0 r.waiting ≡ true = ap (has_number p.0) is ∙ has-map_parts p.0 f es ∙ there in
    rw here refl

pub deferred-full : {T : Type 0} (f : T → List ℕ) (es : List (ℕ × T)) (now : ℕ) (p : Part) (r : Receiver)
    → r.waiting ≡ map_parts f es → has_number p.0 es ≡ false → length es ≡ r.q
    → defer now p r ≡ record { event = Full; passed = []; left = r }
deferred-full f es now p r is absent full =
    let gone : has_number p.0 r.waiting ≡ false = ap (has_number p.0) is ∙ has-map_parts p.0 f es ∙ absent in
    let all : length r.waiting ≡ r.q = ap length is ∙ length-map_parts f es ∙ full in
    grind (arith, nat_tests)

pub deferred-wait : {T : Type 0} (f : T → List ℕ) (es : List (ℕ × T)) (now : ℕ) (p : Part) (r : Receiver)
    → r.waiting ≡ map_parts f es → has_number p.0 es ≡ false → length es ≢ r.q
    → defer now p r ≡ record {
      event = Wait;
      passed = [];
      left = record r { waiting = put_in p.0 p.1 r.waiting; since = cond (is_nil r.waiting) now r.since };
    }
deferred-wait f es now p r is absent room =
    let gone : has_number p.0 r.waiting ≡ false = ap (has_number p.0) is ∙ has-map_parts p.0 f es ∙ absent in
    let some : length r.waiting ≢ r.q = λ full. room (sym (length-map_parts f es) ∙ ap length (sym is) ∙ full) in
    grind (arith, nat_tests)

-- one more part beside others keeps the time since which they are deferred
pub one_more : (now n : ℕ) (x : List ℕ) (r s : Receiver) → r ≡ s → is_nil s.waiting ≡ false
    → record r { waiting = put_in n x r.waiting }
    ≡ record s { waiting = put_in n x s.waiting; since = cond (is_nil s.waiting) now s.since }
one_more now n x r s same some = rw (same, some) refl
