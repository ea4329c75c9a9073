-- Lists of events for which the premises hold and both ends take something, so that the promises are not vacuous.
use Rattle.std.specs.Prelude.{◌≡◌, ◌≢◌, ℕ, Option, Some, None, option_map, true, List, [], ◌∷◌, length, map}
use Rattle.pdi_session.specs.SessionStep.{Item}
use Rattle.safe_machine.specs.World.Side.{Il, Fe}
use Rattle.stack_end.specs.Ends.{EndState, is_settled}
use Rattle.stack_engine.specs.Pairs.{Event, start, run, present, ends_of}
use Rattle.stack_engine.specs.Premise.{AreTyped, Genuine}
use Rattle.stack_engine.specs.Headline.{Headline, HeadlineLaw, taken_at}
use Rattle.stack_engine.specs.Freshness.{AllFresh, Freshness}
use Rattle.stack_engine.specs.Settled.{Certain, ConfirmedTaken, ConfirmedTakenLaw, Settled, SettledLaw}
use Rattle.stack_engine.specs.Faithful.{AllArrived, Faithful, Match, NothingLost, NothingLostLaw}
use Rattle.stack_engine.specs.Joins.{joins_in}
use Rattle.stack_engine.specs.Promises.{Promises}

-- a genuine list that is not faithful: both ends are opened twice; the promises of genuine lists apply to it
pub record GenuineInstance (es : List Event) : Type 0 where
  -- its values are of their types
  pub typed : AreTyped es
  -- it is genuine
  pub genuine : Genuine es start
  -- it is not faithful
  pub unfaithful : Faithful es → ⊥
  -- each field element is joined to its interlocking
  pub joined : joins_in (run es start).fes ≡ Some 2 ∷ Some 1 ∷ []
  -- the status that each interlocking took
  pub status : map taken_at (run es start).ils ≡ ((512, 5 ∷ []) ∷ []) ∷ ((512, 3 ∷ []) ∷ []) ∷ []
  -- the commands that each field element took
  pub commands : map taken_at (ends_of (run es start).fes) ≡ ((256, 4 ∷ []) ∷ []) ∷
      ((256, 1 ∷ []) ∷ (256, 2 ∷ []) ∷ []) ∷ []
  -- the headline law applies
  pub headline : HeadlineLaw → Headline (run es start)
  -- the freshness law applies
  pub fresh : Freshness → AllFresh es start
  -- the law on confirmed is taken applies
  pub confirmed : ConfirmedTakenLaw → ConfirmedTaken (run es start)
  -- the law on settled applies
  pub settled : SettledLaw → Settled (run es start)
  -- the promises of a history apply
  pub promised : Promises es → Headline (run es start) × AllFresh es start × ConfirmedTaken (run es start)
      × Settled (run es start)

-- a genuine list over a bad network, at whose end both ends are settled; the promises of genuine lists apply to it
pub record RoughInstance (es : List Event) : Type 0 where
  -- its values are of their types
  pub typed : AreTyped es
  -- it is genuine
  pub genuine : Genuine es start
  -- of three field elements the first and the last are joined, to the first and the last of four interlockings
  pub joined : joins_in (run es start).fes ≡ Some 4 ∷ None ∷ Some 1 ∷ []
  -- only the last interlocking took a status
  pub status : map taken_at (run es start).ils ≡ ((513, 7 ∷ 255 ∷ []) ∷ []) ∷ [] ∷ [] ∷ [] ∷ []
  -- the first field element took two commands, the last one five
  pub commands : map taken_at (ends_of (run es start).fes)
      ≡ ((258, 0 ∷ []) ∷ (258, 1 ∷ []) ∷ (258, 2 ∷ []) ∷ (258, 3 ∷ []) ∷ (258, 4 ∷ []) ∷ []) ∷ [] ∷
      ((257, 0 ∷ []) ∷ (257, 1 ∷ []) ∷ []) ∷ []
  -- both present ends are settled
  pub settled : (option_map is_settled (present Il (run es start)) ≡ Some true)
      × (option_map is_settled (present Fe (run es start)) ≡ Some true)
  -- the promises of a history apply
  pub promised : Promises es → Headline (run es start) × AllFresh es start × ConfirmedTaken (run es start)
      × Settled (run es start) × Certain (run es start)

-- P holds of both present ends, and both were opened
abbrev pub OfBothOpened : (EndState → EndState → Type 0) → Option EndState → Option EndState → Type 0
OfBothOpened P (Some il) (Some fe) = P il fe
OfBothOpened P _ _ = ⊥

-- every PDU has arrived, both ends match, and each took something
pub record Arrived (il fe : EndState) : Type 0 where
  pub at_il : AllArrived il fe  -- every PDU has arrived at the interlocking
  pub at_fe : AllArrived fe il  -- and at the field element
  pub match : Match il fe  -- the settings match
  pub status : taken_at il ≢ []  -- the interlocking took something
  pub commands : taken_at fe ≢ []  -- the field element took something

-- a faithful list at whose end every PDU has arrived; the promise nothing lost applies to it
pub record FaithfulInstance (es : List Event) : Type 0 where
  pub typed : AreTyped es  -- its values are of their types
  pub faithful : Faithful es  -- it is faithful
  -- every PDU has arrived, and something was taken
  pub arrived : OfBothOpened Arrived (present Il (run es start)) (present Fe (run es start))
  pub nothing_lost : NothingLostLaw → NothingLost (run es start)  -- the law applies
  pub promised : Promises es → NothingLost (run es start)  -- the promises of a history apply

-- message types of the telegrams that an end took, and their numbers of bytes
abbrev pub sizes_taken : EndState → List (ℕ × ℕ)
sizes_taken x = map (λ (item : Item). (item.0, length item.1)) (taken_at x)

-- the T_max of an end
abbrev pub t_max_of : EndState → ℕ
t_max_of x = x.settings.connection.t_max

-- a faithful list between ends with different T_max, in which each took a telegram of the greatest size
pub record FarInstance (es : List Event) : Type 0 where
  pub faithful : FaithfulInstance es  -- it is faithful, and the promise nothing lost applies to it
  -- the interlocking took two
  pub status : option_map sizes_taken (present Il (run es start)) ≡ Some ((514, 357) ∷ (513, 1) ∷ [])
  pub commands : option_map sizes_taken (present Fe (run es start))
      -- the field element took seven
      ≡ Some ((257, 1) ∷ (258, 357) ∷ (257, 1) ∷ (259, 0) ∷ (257, 1) ∷ (257, 1) ∷ (257, 1) ∷ [])
  -- each has its own
  pub t_max : (option_map t_max_of (present Il (run es start)) ≡ Some 1800)
      × (option_map t_max_of (present Fe (run es start)) ≡ Some 1200)

-- for each premise there are such lists
pub record Premises : Type 0 where
  pub genuine : (es : List Event) × GenuineInstance es  -- a genuine one
  -- a genuine one with damage, foreign and early datagrams, and deadlines
  pub rough : (es : List Event) × RoughInstance es
  pub faithful : (es : List Event) × FaithfulInstance es  -- a faithful one
  pub far : (es : List Event) × FarInstance es  -- a faithful one with parts that come up to q numbers too early
