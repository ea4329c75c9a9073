-- Each of these is refused by the first telegram that differs.
use Rattle.std.proofs.Common.{◌≡◌, ℕ, List, [], ◌∷◌, ap, ◌∙◌, arith}
use Rattle.pdi_session.specs.SessionStep.{Item}
use Rattle.end_for_callers.specs.Calls.{StationValue}
use Rattle.station_pair.specs.Instances.{Instances, first}

more-than-none : (x : Item) (xs : List Item) → x ∷ xs ≡ [] → ⊥
more-than-none x xs e = cc

-- the message type of the first telegram
kind-first : List Item → ℕ
kind-first [] = 0
kind-first (x ∷ xs) = x.0

kind-second : List Item → ℕ
kind-second [] = 0
kind-second (x ∷ xs) = kind-first xs

two-one : ◌≡◌ {A = ℕ} 2 1 → ⊥
two-one e = omega (arith, e)

one-two : ◌≡◌ {A = ℕ} 1 2 → ⊥
one-two e = omega (arith, e)

pub refused : (s : StationValue) → Instances s
unfolding kind-first kind-second
refused s =
    record {
      made_up = λ a. more-than-none first _ a.commands.1;
      passed_over = λ a. two-one (ap kind-first a.commands.1);
      twice = λ a. one-two (ap kind-second a.commands.1);
      status_made_up = λ a. more-than-none first _ a.status.1;
      status_passed_over = λ a. two-one (ap kind-first a.status.1);
      not_there = λ settled whole none a.
          let there = a.commands_there settled whole in
          more-than-none first there.0 (there.1 ∙ none);
      status_not_there = λ settled whole none a.
          let there = a.status_there settled whole in
          more-than-none first there.0 (there.1 ∙ none);
    }
