-- What the promise of one session excludes.
use Rattle.std.specs.Prelude.{◌≡◌, true, false, List, [], ◌∷◌}
use Rattle.pdi_session.specs.SessionStep.{Item}
use Rattle.stack_end.specs.EndValue.{inside}
use Rattle.stack_end.specs.Turns.{is_settled}
use Rattle.end_for_callers.specs.Calls.{StationValue}
use Rattle.station_pair.specs.Law.{BothAgree}
use Rattle.station_pair.specs.Steps.{Held}

-- a program with this station, and what it put and was given
abbrev pub with_lists : StationValue → (put given : List Item) → Held
with_lists s put given = record { station = s; put = put; given = given; pulled = [] }

-- a telegram
abbrev pub first : Item
first = (1, [])

-- another telegram
abbrev pub second : Item
second = (2, [])

-- the promise is false of two programs with this station and these lists, those of the interlocking first
abbrev pub IsRefused : StationValue → (put given other_put other_given : List Item) → Type 0
IsRefused s put given other_put other_given =
    BothAgree (with_lists s put given ∷ []) (with_lists s other_put other_given ∷ []) → ⊥

-- lists of which the promise is false
pub record Instances (s : StationValue) : Type 0 where
  -- a command is given that was not put
  pub made_up : IsRefused s [] [] [] (first ∷ [])
  -- a command is skipped
  pub passed_over : IsRefused s (first ∷ second ∷ []) [] [] (second ∷ [])
  -- a command is given twice
  pub twice : IsRefused s (first ∷ second ∷ []) [] [] (first ∷ first ∷ [])
  -- a status is given that was not put
  pub status_made_up : IsRefused s [] (first ∷ []) [] []
  -- a status is skipped
  pub status_passed_over : IsRefused s [] (second ∷ []) (first ∷ second ∷ []) []
  -- settled, and a command that was put was neither given nor waits
  pub not_there : is_settled (inside s.end) ≡ true → s.inbox.lost ≡ false → s.inbox.queue.waiting ≡ []
      → IsRefused s (first ∷ []) [] [] []
  -- settled, and a status that was put was neither given nor waits
  pub status_not_there : is_settled (inside s.end) ≡ true → s.inbox.lost ≡ false → s.inbox.queue.waiting ≡ []
      → IsRefused s [] [] (first ∷ []) []
