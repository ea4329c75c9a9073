-- The law of two machines: the units that one takes are a prefix of those that the end joined to it sent.
use Rattle.std.specs.Prelude.{ℕ, ◌+◌, ◌-◌, ◌≡◌, ◌≢◌, ◌<◌, ◌≤◌, ◌⊎◌, ◌==◌, Bool, false, Option, Some, None, MatchOption, List, [], ◌∷◌, ◌++◌, length, take, drop, if◌then◌else◌}
use Rattle.octets.specs.Lists.{IsBeginning}
use Rattle.safe_machine.specs.World.Side.{Il, Fe}
use Rattle.safe_pdu.specs.Pdu.{Pdu}
use Rattle.safe_machine.specs.Made.{Made, units}
use Rattle.safe_machine.specs.declared.ConnectionState.TheVariants.{Down, Start}
use Rattle.safe_machine.specs.State.{State, unconfirmed}
use Rattle.safe_machine.specs.Step.{arrive}
use Rattle.safe_machine.specs.World.Event.{Arrive}
use Rattle.safe_machine.specs.World.{apply_event, Timely, World, Served, Event, start, run, Genuine, Among}

-- The incarnations of the interlocking, the latest first, without the end before the first opening.
abbrev pub il_incarnations : World → List State
il_incarnations w = take (length w.il_before) (w.il ∷ w.il_before)

-- The incarnations of the field element, each with the incarnation of the interlocking that it is joined to.
abbrev pub fe_incarnations : World → List Served
fe_incarnations w = take (length w.fe_before) (record { machine = w.fe; joined = w.joined } ∷ w.fe_before)

-- The incarnation with this number. The first opening has number 1; a refused opening is not counted.
abbrev pub incarnation : List State → ℕ → Option State
incarnation [] number = None
incarnation (s ∷ before) number = if number == length before + 1 then Some s else incarnation before number

-- If an incarnation of the field element is not joined, it has taken nothing. If it is, each of the two has taken a
-- prefix of the units that the other sent.
abbrev pub TakesBeginnings : List State → State → Option ℕ → Type 0
TakesBeginnings ils fe None = fe.taken ≡ []
TakesBeginnings ils fe (Some number) =
    MatchOption (incarnation ils number) ⊥ (λ il. IsBeginning fe.taken (units il.made)
    × IsBeginning il.taken (units fe.made))

-- This for each incarnation of the field element.
abbrev pub AllTakeBeginnings : List State → List Served → Type 0
AllTakeBeginnings ils [] = Unit {0}
AllTakeBeginnings ils (f ∷ fs) = TakesBeginnings ils f.machine f.joined × AllTakeBeginnings ils fs

-- The incarnation is joined to one with a number below this bound, or not joined.
abbrev pub JoinedBelow : ℕ → Option ℕ → Type 0
JoinedBelow bound None = Unit {0}
JoinedBelow bound (Some number) = number < bound

-- The bound for the incarnations before this one.
abbrev pub next_bound : ℕ → Option ℕ → ℕ
next_bound bound None = bound
next_bound bound (Some number) = number

-- Later incarnations of the field element are joined to later ones of the interlocking. So no incarnation is joined to
-- two.
abbrev pub JoinsFall : ℕ → List Served → Type 0
JoinsFall bound [] = Unit {0}
JoinsFall bound (f ∷ fs) = JoinedBelow bound f.joined × JoinsFall (next_bound bound f.joined) fs

-- One of these incarnations is joined to the one with this number.
abbrev pub IsJoined : ℕ → List Served → Type 0
IsJoined number [] = ⊥
IsJoined number (f ∷ fs) = (f.joined ≡ Some number) ⊎ IsJoined number fs

-- An incarnation of the interlocking to which no end is joined has taken nothing.
abbrev pub OnlyJoinedTake : List Served → List State → Type 0
OnlyJoinedTake fes [] = Unit {0}
OnlyJoinedTake fes (s ∷ before) = ((s.taken ≡ []) ⊎ IsJoined (length before + 1) fes) × OnlyJoinedTake fes before

-- The three facts about all incarnations.
pub record LawOf (ils : List State) (fes : List Served) : Type 0 where
  -- Prefixes are taken.
  pub beginnings : AllTakeBeginnings ils fes
  -- No incarnation is joined to two.
  pub joins_fall : JoinsFall (length ils + 1) fes
  -- An incarnation that is not joined takes nothing.
  pub only_joined : OnlyJoinedTake fes ils

-- The law of a world.
abbrev pub Law : World → Type 0
Law w = LawOf (il_incarnations w) (fe_incarnations w)

-- An incarnation is joined to the one with this number.
abbrev pub is_number : ℕ → Option ℕ → Bool
is_number number None = false
is_number number (Some other) = other == number

-- How many units the field element took that is joined to the interlocking with this number.
abbrev pub taken_from_il : ℕ → List Served → ℕ
taken_from_il number [] = 0
taken_from_il number (f ∷ fs) = if is_number number f.joined then length f.machine.taken else taken_from_il number fs

-- How many units an end took, or 0 if there is no end.
abbrev pub taken_count : Option State → ℕ
taken_count None = 0
taken_count (Some s) = length s.taken

-- How many units the interlocking with this number took.
abbrev pub taken_from_fe : List State → Option ℕ → ℕ
taken_from_fe ils None = 0
taken_from_fe ils (Some number) = taken_count (incarnation ils number)

-- An end, closed or not, has sent at most as many units as the end joined to it took and as are unconfirmed.
pub record LosesNothing (w : World) : Type 0 where
  -- This for the interlocking.
  pub from_il : length (units w.il.made) ≤ taken_from_il (length (il_incarnations w)) (fe_incarnations w)
      + length (unconfirmed w.il)
  -- This for the field element.
  pub from_fe : length (units w.fe.made) ≤ taken_from_fe (il_incarnations w) w.joined + length (unconfirmed w.fe)

-- The law holds over every genuine list of events.
abbrev pub UnitLaw : Type 0
UnitLaw = (events : List Event) → Genuine events start → Law (run events start)

-- Nothing is lost over every genuine list of events.
abbrev pub LossLaw : Type 0
LossLaw = (events : List Event) → Genuine events start → LosesNothing (run events start)

-- If a field element starts a connection, the present incarnation of the interlocking, to which it is joined, has made
-- the PDU that arrived. So it is the latest that made it.
abbrev pub JoinsEvent : World → Event → Type 0
JoinsEvent w (Arrive Fe p now) = w.fe.connection ≡ Down → (arrive p now w.fe).connection ≡ Start → Among p w.il.made
JoinsEvent w _ = Unit {0}

-- This for each event that can end a genuine list.
abbrev pub JoinedLaw : Type 0
JoinedLaw = (events : List Event) (e : Event) → Genuine (events ++ e ∷ []) start → JoinsEvent (run events start) e

-- The peer made the PDU, and its basis is a PDU that this end made less than T_max ago.
pub record Fresh (s : State) (p : Pdu) (now : ℕ) (peer : List Made) : Type 0 where
  -- The index of the PDU among those of the peer.
  pub index : ℕ
  -- The PDU as the peer made it.
  pub carrier : Made
  -- The PDUs that the peer made after it.
  pub rest : List Made
  -- The carrier has this index.
  pub at : drop index peer ≡ carrier ∷ rest
  -- Its fields are those of the PDU that arrives.
  pub is : carrier.pdu ≡ p
  -- The peer had passed a PDU of this end.
  pub has_basis : 1 ≤ carrier.behind
  -- The last of the PDUs of this end that the peer had passed.
  pub basis : Made
  -- The PDUs that this end made after its basis.
  pub own_rest : List Made
  -- The basis has the index of the last PDU passed.
  pub own_at : drop (carrier.behind - 1) s.made ≡ basis ∷ own_rest
  -- The carrier confirms the sequence number of its basis.
  pub number : basis.pdu.sn ≡ p.cs
  -- The carrier confirms the timestamp of its basis.
  pub stamp : basis.pdu.ts ≡ p.cts
  -- The basis was made less than T_max ago.
  pub recent : now < basis.time + s.settings.t_max

-- If an arrival hands up a unit, its PDU is fresh.
abbrev pub FreshEvent : World → Event → Type 0
FreshEvent w (Arrive Il p now) = (arrive p now w.il).taken ≢ w.il.taken → Fresh w.il p now w.fe.made
FreshEvent w (Arrive Fe p now) = (arrive p now w.fe).taken ≢ w.fe.taken → Fresh w.fe p now w.il.made
FreshEvent w _ = Unit {0}

-- This for every event of a list.
abbrev pub AllFresh : List Event → World → Type 0
AllFresh [] w = Unit {0}
AllFresh (e ∷ es) w = FreshEvent w e × AllFresh es (apply_event w e)

-- Over every genuine, timely list, each unit comes in a fresh PDU.
abbrev pub FreshLaw : Type 0
FreshLaw = (events : List Event) → Genuine events start → Timely events start → AllFresh events start

-- The event that ends a genuine, timely list takes a unit only from a fresh PDU.
abbrev pub FreshAtLastLaw : Type 0
FreshAtLastLaw =
    (events : List Event) (e : Event) → Genuine (events ++ e ∷ []) start → Timely (events ++ e ∷ []) start →
    FreshEvent (run events start) e
