-- Worlds at which one clause of a promise is false while its other clauses hold, so that no clause can be dropped or
-- weakened unnoticed.
--
-- An end is any end, with the lists given here.
use Rattle.std.specs.Prelude.{ℕ, ◌+◌, Option, Some, None, List, [], ◌∷◌, length}
use Rattle.safe_pdu.specs.Pdu.{Pdu}
use Rattle.safe_machine.specs.declared.ConnectionState.TheVariants.{Up}
use Rattle.safe_machine.specs.Law.{Fresh}
use Rattle.safe_machine.specs.Made.{Made}
use Rattle.safe_machine.specs.State.{State}
use Rattle.pdi_session.specs.SessionStep.{Item}
use Rattle.stack_end.specs.Ends.{EndState}
use Rattle.stack_engine.specs.Pairs.{World, JoinedEnd, Event, start, latest}
use Rattle.stack_engine.specs.Premise.{AtOpened}
use Rattle.stack_engine.specs.Headline.{Headline, AllTakeBeginnings, JoinsFall, OnlyJoinedTake}
use Rattle.stack_engine.specs.Freshness.{AllFresh}
use Rattle.stack_engine.specs.Settled.{Certain, CertainAt, CertainFe, ConfirmedTaken, IlTaken, FeTaken, Settled, SettledAt, SettledFe, taken_from_il}

-- a command, or a status of a field element
abbrev pub one : Item
one = (256, 1 ∷ [])

-- another one
abbrev pub two : Item
two = (256, 2 ∷ [])

-- an end at which these were put and taken
abbrev pub with_items : (put taken : List Item) → EndState → EndState
with_items put taken x =
    record x { session = record x.session { history = record x.session.history { put = put; taken = taken } } }

-- an end at which nothing was put or taken
abbrev pub idle : EndState → EndState
idle x = with_items [] [] x

-- a field element with this join
abbrev pub joined_to : Option ℕ → EndState → JoinedEnd
joined_to joined x = record { end = x; joined = joined }

-- a world with these incarnations
abbrev pub world_of : List EndState → List JoinedEnd → World
world_of ils fes = record { ils = ils; fes = fes; dead_il = 0; dead_fe = 0 }

-- the headline is false only because of a telegram taken
pub record ByBeginnings (w : World) : Type 0 where
  pub refused : Headline w → ⊥  -- it is false
  pub joins_fall : JoinsFall (length w.ils + 1) w.fes  -- later ones are joined to later ones
  pub only_joined : OnlyJoinedTake w.fes w.ils  -- an interlocking without a partner takes nothing

-- the headline is false only because of a join
pub record ByJoins (w : World) : Type 0 where
  pub refused : Headline w → ⊥  -- it is false
  pub beginnings : AllTakeBeginnings w.ils w.fes  -- each takes a prefix of what its partner put
  pub only_joined : OnlyJoinedTake w.fes w.ils  -- an interlocking without a partner takes nothing

-- the headline is false only because of what an interlocking took to which no field element is joined
pub record ByUnjoined (w : World) : Type 0 where
  pub refused : Headline w → ⊥  -- it is false
  pub beginnings : AllTakeBeginnings w.ils w.fes  -- each takes a prefix of what its partner put
  pub joins_fall : JoinsFall (length w.ils + 1) w.fes  -- later ones are joined to later ones

-- worlds at which the headline is false
pub record HeadlineInstances (x : EndState) : Type 0 where
  -- a field element joined to none took something
  pub fe_joined_to_none : ByBeginnings (world_of [] (joined_to None (with_items [] (one ∷ []) x) ∷ []))
  -- a field element is joined to a number that no interlocking has
  pub joined_to_nobody : ByBeginnings (world_of (idle x ∷ []) (joined_to (Some 0) (idle x) ∷ []))
  -- a command was skipped
  pub commands : ByBeginnings (world_of (with_items (one ∷ two ∷ []) [] x ∷ [])
      (joined_to (Some 1) (with_items [] (two ∷ []) x) ∷ []))
  -- a status was taken twice
  pub status : ByBeginnings (world_of (with_items [] (one ∷ one ∷ []) x ∷ [])
      (joined_to (Some 1) (with_items (one ∷ []) [] x) ∷ []))
  -- two field elements are joined to one interlocking
  pub joined_twice : ByJoins (world_of (idle x ∷ []) (joined_to (Some 1) (idle x) ∷ joined_to (Some 1) (idle x) ∷ []))
  -- a later field element is joined to an earlier interlocking
  pub joined_back : ByJoins (world_of (idle x ∷ idle x ∷ [])
      (joined_to (Some 1) (idle x) ∷ joined_to (Some 2) (idle x) ∷ []))
  -- an interlocking took something, and there is no field element
  pub il_unjoined : ByUnjoined (world_of (with_items [] (one ∷ []) x ∷ []) [])
  -- an interlocking took something, and the field element is joined to another
  pub other_joined : ByUnjoined (world_of (idle x ∷ with_items [] (one ∷ []) x ∷ []) (joined_to (Some 2) (idle x) ∷ []))

-- an end that is Up, at which no message waits and no unit is unconfirmed
abbrev pub quiet : List Item → EndState → EndState
quiet put x =
    record x {
      machine = record x.machine { connection = Up; made = []; confirmed = 0 };
      session = record { history = record x.session.history { put = put; taken = [] }; waiting = [] };
    }

-- a command was put, and the field element did not take it
abbrev pub untaken_commands : EndState → World
untaken_commands x = world_of (quiet (one ∷ []) x ∷ []) (joined_to (Some 1) (quiet [] x) ∷ [])

-- a status was put, and the interlocking did not take it
abbrev pub untaken_status : EndState → World
untaken_status x = world_of (quiet [] x ∷ []) (joined_to (Some 1) (quiet (one ∷ []) x) ∷ [])

-- a status was put at a field element that is joined to none
abbrev pub status_for_none : EndState → World
status_for_none x = world_of [] (joined_to None (quiet (one ∷ []) x) ∷ [])

-- settled, of the present interlocking
abbrev pub SettledIl : World → Type 0
SettledIl w = AtOpened (λ g. SettledAt g (taken_from_il (length w.ils) w.fes)) (latest w.ils)

-- certain, of the present interlocking
abbrev pub CertainIl : World → Type 0
CertainIl w = AtOpened (λ g. CertainAt g (taken_from_il (length w.ils) w.fes)) (latest w.ils)

-- worlds at which confirmed is taken, settled or certain is false: for one side while it holds for the other, or of an
-- end joined to none
pub record SettledInstances (x : EndState) : Type 0 where
  -- confirmed is taken, of the interlocking
  pub il_confirmed : (ConfirmedTaken (untaken_commands x) → ⊥)
      × FeTaken (untaken_commands x).ils (untaken_commands x).fes
  -- of the field element
  pub fe_confirmed : (ConfirmedTaken (untaken_status x) → ⊥) × IlTaken (untaken_status x)
  -- of a field element joined to none
  pub confirmed_to_none : ConfirmedTaken (status_for_none x) → ⊥
  -- settled, of the interlocking
  pub il_settled : (Settled (untaken_commands x) → ⊥) × SettledFe (untaken_commands x).ils (untaken_commands x).fes
  -- of the field element
  pub fe_settled : (Settled (untaken_status x) → ⊥) × SettledIl (untaken_status x)
  -- of a field element joined to none
  pub settled_to_none : Settled (status_for_none x) → ⊥
  -- certain, of the interlocking
  pub il_certain : (Certain (untaken_commands x) → ⊥) × CertainFe (untaken_commands x).ils (untaken_commands x).fes
  -- of the field element
  pub fe_certain : (Certain (untaken_status x) → ⊥) × CertainIl (untaken_status x)
  -- of a field element joined to none
  pub certain_to_none : Certain (status_for_none x) → ⊥

-- a machine that made one PDU at 100 ms, with this number and timestamp, and has a T_max of 10 ms
abbrev pub made_one : (sn ts : ℕ) → State → Made → State
made_one sn ts s m =
    record s {
      settings = record s.settings { t_max = 10 };
      made = record { pdu = record m.pdu { sn = sn; ts = ts }; time = 100; behind = 0 } ∷ [];
    }

-- a PDU that confirms number 7 and timestamp 8
abbrev pub confirming_pdu : Pdu → Pdu
confirming_pdu p = record p { cs = 7; cts = 8 }

-- a PDU that the peer made upon this end's PDU with this number, from 1; upon none if it is 0
abbrev pub made_after : ℕ → Pdu → Made
made_after behind p = record { pdu = p; time = 0; behind = behind }

-- freshness holds once, and is false for each of its clauses
pub record FreshInstances (s : State) (m : Made) (p : Pdu) : Type 0 where
  -- everything fits
  pub holds : Fresh (made_one 7 8 s m) (confirming_pdu p) 109 (made_after 1 (confirming_pdu p) ∷ [])
  -- the peer made no PDU
  pub made_by_nobody : Fresh (made_one 7 8 s m) (confirming_pdu p) 109 [] → ⊥
  -- the peer made another PDU
  pub another_pdu : Fresh (made_one 7 8 s m) (confirming_pdu p) 109 (made_after 1 (record p { cs = 7; cts = 9 }) ∷ [])
      → ⊥
  -- it was made upon no PDU
  pub upon_none : Fresh (made_one 7 8 s m) (confirming_pdu p) 109 (made_after 0 (confirming_pdu p) ∷ []) → ⊥
  -- it was made upon a PDU that this end did not make
  pub upon_unmade : Fresh (made_one 7 8 s m) (confirming_pdu p) 109 (made_after 2 (confirming_pdu p) ∷ []) → ⊥
  -- it confirms another number
  pub other_number : Fresh (made_one 6 8 s m) (confirming_pdu p) 109 (made_after 1 (confirming_pdu p) ∷ []) → ⊥
  -- it confirms another timestamp
  pub other_stamp : Fresh (made_one 7 9 s m) (confirming_pdu p) 109 (made_after 1 (confirming_pdu p) ∷ []) → ⊥
  -- the confirmed PDU is T_max old
  pub late : Fresh (made_one 7 8 s m) (confirming_pdu p) 110 (made_after 1 (confirming_pdu p) ∷ []) → ⊥

-- each clause of these promises is false in some world
pub record Instances : Type 0 where
  -- the headline
  pub headline : (x : EndState) → HeadlineInstances x
  -- confirmed is taken, settled and certain
  pub settled : (x : EndState) → SettledInstances x
  -- freshness of one PDU
  pub fresh : (s : State) (m : Made) (p : Pdu) → FreshInstances s m p
  -- freshness of a list: a field element takes a command, and no interlocking was opened
  pub taken_from_nobody : (es : List Event) × (AllFresh es start → ⊥)
