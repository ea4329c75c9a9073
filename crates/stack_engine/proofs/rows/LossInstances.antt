-- Each clause of "nothing lost" refuses a world that all other clauses admit.
use Rattle.stack_engine.proofs.Words.{[], AllThere, arith, world_of_two, Course, early, EndState, Established, false, fe_with, il_with, Initialising, inl, inr}
use Rattle.stack_engine.proofs.Words.{keeping, List, LossInstances, lost_course, Made, Match, NothingLost, one, one_message, plain, refl, Start, not_up, stranger_with, tele_seen}
use Rattle.stack_engine.proofs.Words.{sym, true, Up, waiting_course, ℕ, ◌<◌, ◌∷◌, ◌≡◌, ◌≢◌, ◌≤◌, ◌⊎◌}
use Rattle.stack_engine.proofs.rows.Drops.{no-item}
use Rattle.stack_engine.proofs.rows.Instances.{true-is-false}

no-number : (k : ℕ) → k < 0 → ⊥
no-number k below = omega arith

-- nothing was made, so all has arrived
there : (c d : Course) (x : EndState) → NothingLost (world_of_two (il_with c x) (fe_with d x))
    → AllThere (il_with c x) (fe_with d x)
there c d x h = h.all_there (λ up k below. absurd (no-number k below)) (λ up k below. absurd (no-number k below))

apart : (c d : Course) (x : EndState) → NothingLost (world_of_two (il_with c x) (stranger_with d x))
    → AllThere (il_with c x) (stranger_with d x)
apart c d x h = h.all_there (λ up k below. absurd (no-number k below)) (λ up k below. absurd (no-number k below))

not-full : 1 ≤ 0 → ⊥
not-full h = omega arith

not-up : Start ≡ Up → ⊥
not-up e = cc

not-initialising : Initialising ≡ Established → ⊥
not-initialising e = cc

no-message : {X : Type 0} (x : X) (xs : List X) → x ∷ xs ≢ []
no-message x xs e = no-item x xs e

-- nothing waits
idle : {B : Type 0} → ◌≢◌ {A = List (List ℕ)} [] [] → B
idle some = absurd (some refl)

-- an end is up
not-shut : {B : Type 0} → false ≡ true → B
not-shut shut = absurd (true-is-false (sym shut))

up : {A X : Type 0} {x : X} → A → x ≡ x
up match = refl

steady : {A B C S X Y Z : Type 0} {x : X} {y : Y} {z : Z} → A → B → C → S ⊎ ((x ≡ x) × (y ≡ y) × (z ≡ z))
steady match il fe = inr (refl, refl, refl)

pub match-plain : (c d : Course) (x : EndState) → Match (il_with c x) (fe_with d x)
match-plain c d x = record {
  rule = refl;
  protocol = refl;
  version = refl;
  il_identifier = refl;
  fe_identifier = refl;
  il_name = refl;
  fe_name = refl;
}

-- the peer of a stranger is not the interlocking
one-is-three : ◌≡◌ {A = ℕ} 1 3 → ⊥
one-is-three e = omega (arith, e)

unmatched : (c d : Course) (x : EndState) → Match (il_with c x) (stranger_with d x) → ⊥
unmatched c d x m = one-is-three m.il_identifier

pub loss-instances : (x : EndState) (m : Made) → LossInstances x m
unfolding tele_seen
loss-instances x m =
    record {
      match = match-plain plain plain x;
      holds =
          record {
            il_waits = idle;
            fe_waits = idle;
            il_keeps = up;
            fe_keeps = up;
            commands = refl;
            status = refl;
            il_up = up;
            fe_up = up;
            in_step = steady;
          };
      il_asks = λ h. h.il_asks_nothing.0 refl;
      fe_asks = λ h. h.fe_asks_nothing.0 refl;
      il_waits = (
        (λ h. not-full ((there waiting_course plain x h).il_waits (no-message [] []))),
        idle,
        not-shut,
        up,
        refl,
        refl,
        up,
        up,
        (λ m il fe. absurd (no-item [] [] il)),
      );
      fe_waits = (
        (λ h. not-full ((there plain waiting_course x h).fe_waits (no-message [] []))),
        idle,
        up,
        not-shut,
        refl,
        refl,
        up,
        up,
        (λ m il fe. absurd (no-item [] [] fe)),
      );
      il_keeps = (
        (λ h. no-item one_message [] ((apart keeping plain x h).il_keeps refl)),
        (λ some. omega arith),
        idle,
        up,
        refl,
        refl,
        (λ m. absurd (unmatched keeping plain x m)),
        (λ m. absurd (unmatched keeping plain x m)),
        (λ m il fe. absurd (unmatched keeping plain x m)),
      );
      fe_keeps = (
        (λ h. no-item one_message [] ((apart plain keeping x h).fe_keeps refl)),
        idle,
        (λ some. omega arith),
        up,
        refl,
        refl,
        (λ m. absurd (unmatched plain keeping x m)),
        (λ m. absurd (unmatched plain keeping x m)),
        (λ m il fe. absurd (unmatched plain keeping x m)),
      );
      commands =
          ((λ h. no-item one [] (there lost_course plain x h).commands), idle, idle, up, up, refl, up, up, steady);
      status = ((λ h. no-item one [] (there plain lost_course x h).status), idle, idle, up, up, refl, up, up, steady);
      il_starts = (
        (λ h. not-up ((there not_up plain x h).il_up (match-plain not_up plain x))),
        idle,
        idle,
        up,
        up,
        refl,
        refl,
        up,
        steady,
      );
      fe_starts = (
        (λ h. not-up ((there plain not_up x h).fe_up (match-plain plain not_up x))),
        idle,
        idle,
        up,
        up,
        refl,
        refl,
        up,
        steady,
      );
      il_early = (
        (λ h. elim ((there early plain x h).in_step (match-plain early plain x) refl refl)
            [ inl w ↦ true-is-false w.0 | inr w ↦ not-initialising w.1 ]),
        idle,
        idle,
        up,
        up,
        refl,
        refl,
        up,
        up,
      );
      fe_early = (
        (λ h. elim ((there plain early x h).in_step (match-plain plain early x) refl refl)
            [ inl w ↦ true-is-false w.0 | inr w ↦ not-initialising w.2 ]),
        idle,
        idle,
        up,
        up,
        refl,
        refl,
        up,
        up,
      );
    }
