-- All incarnations of one end, as the code keeps them, and the names of refusals.
use Rattle.std.specs.Prelude.{◌≡◌, ◌≤◌, ◌^◌, MatchOption, ◌==◌, ◌&&◌, not, ℕ, drop, Bool, true, false, Option, Some, None, List, [], ◌∷◌, reverse}
use Rattle.safe_pdu.specs.SafeText.{code_octets}
use Rattle.end_settings.specs.EndSettings.{rule_of}
use Rattle.stack_end.specs.Ends.{EndState, Call, is_shut}
use Rattle.stack_end.specs.Steps.{call}
use Rattle.std.specs.Borrow.{Bor}
use Rattle.octets.specs.declared.limits.TheConstants.{TIME_MAX}
use Rattle.stack_end.specs.EndValue.{EndValue, EndRepresents, channels_of}
use Rattle.stack_engine.specs.Keeper.{KeeperValue, told_of}
use Rattle.stack_engine.specs.declared.ApplyFault.{ApplyFault}
use Rattle.stack_engine.specs.declared.ApplyFault.TheVariants as fault
use Rattle.stack_engine.specs.declared.incarnation.Incarnation.{Incarnation}
use Rattle.stack_engine.specs.declared.openings.Openings.{Openings}
use Rattle.stack_engine.specs.declared.past.Past.{Past}
use Rattle.stack_engine.specs.Bounds.{FewMore}
use Rattle.stack_engine.specs.Incarnations.{IncarnationRepresents, PastRepresents, datagrams_of}
use Rattle.stack_engine.specs.Pairs.{Refusal, EndNotOpen, BadConfig, Clock, PutRefused, InitRefused, has_made, latest, call_il}
use Rattle.stack_engine.specs.Premise.{AtOpened, is_asked_of}

-- the present incarnation represents the latest state
abbrev pub PresentRepresents : {A : Type 0} → Option (Incarnation A) → List EndState → Type 0
PresentRepresents None [] = Unit {0}
PresentRepresents None (x ∷ before) = ⊥
PresentRepresents (Some i) [] = ⊥
PresentRepresents (Some i) (x ∷ before) = IncarnationRepresents i x

-- the earlier incarnations represent the earlier states, the latest first
abbrev pub EarlierRepresent : {A : Type 0} → List (Past A) → List EndState → Type 0
EarlierRepresent [] [] = Unit {0}
EarlierRepresent [] (x ∷ xs) = ⊥
EarlierRepresent (p ∷ ps) [] = ⊥
EarlierRepresent (p ∷ ps) (x ∷ xs) = PastRepresents p x × EarlierRepresent ps xs

-- all states but the latest
abbrev pub rest_of : List EndState → List EndState
rest_of [] = []
rest_of (x ∷ before) = before

-- the incarnations represent the states of an end
pub record SideRepresents {A : Type 0} (o : Openings A) (xs : List EndState) : Type 0 where
  pub present : PresentRepresents o.present xs  -- the present one
  pub before : EarlierRepresent (reverse o.before.items) (rest_of xs)  -- the earlier ones

-- of all states that they represented they now represent those after the call, if that makes no more than the bounds
-- allow
abbrev pub SideTakesCall : {A : Type 0} → Call → Openings A → Openings A → Type 0
SideTakesCall c o p = (xs : List EndState) → SideRepresents o xs → AtOpened (λ x. FewMore x (call c x)) (latest xs)
    → SideRepresents p (call_il c xs)

-- a refusal by the session, or no refusal: memory is allocated before the session decides
abbrev pub IsOfSession : Option Refusal → Type 0
IsOfSession (Some EndNotOpen) = ⊥
IsOfSession (Some BadConfig) = ⊥
IsOfSession (Some Clock) = ⊥
IsOfSession _ = Unit {0}

-- the code's name of a refusal; `Memory` is returned only if nothing that is tested before it applies
abbrev pub NamesRefusal : ApplyFault → Option Refusal → Type 0
NamesRefusal fault.Memory r = IsOfSession r
NamesRefusal fault.EndNotOpen r = r ≡ Some EndNotOpen
NamesRefusal fault.BadConfig r = r ≡ Some BadConfig
NamesRefusal fault.Clock r = r ≡ Some Clock
NamesRefusal (fault.Put why) r = r ≡ Some (PutRefused why)
NamesRefusal (fault.Init why) r = r ≡ Some (InitRefused why)

-- the refusal is for want of memory
abbrev pub is_memory : ApplyFault → Bool
is_memory fault.Memory = true
is_memory _ = false

-- the end was opened, and the time is neither before its last nor after 2^62 ms
abbrev pub IsOpenAt : {A : Type 0} → ℕ → Openings A → Type 0
IsOpenAt now o = MatchOption o.present ⊥ (λ i. (i.time ≤ now) × (now ≤ TIME_MAX))

-- the peer made a PDU of these bytes under a code of `code` bytes, not counting its first `dead` ones
abbrev pub live_in : (code : ℕ) → Option EndState → (dead : ℕ) → List ℕ → Bool
live_in code None dead part = false
live_in code (Some peer) dead part = (code == code_octets (rule_of peer.settings).length)
    && has_made (rule_of peer.settings) part (drop dead peer.machine.made)

-- this part would break the premise at this end: it is asked about, and it is not live
abbrev pub breaks_with : Option EndState → Option EndState → ℕ → List ℕ → Bool
breaks_with None peer dead part = false
breaks_with (Some x) peer dead part =
    (not (is_shut x) && is_asked_of x part) && not (live_in (code_octets (rule_of x.settings).length) peer dead part)

-- an end that represents the state, if there is one
abbrev pub IsEnd : {A : Type 0} → Option (Bor (EndValue KeeperValue A)) → Option EndState → Type 0
IsEnd None None = Unit {0}
IsEnd None (Some x) = ⊥
IsEnd (Some e) None = ⊥
IsEnd (Some e) (Some x) = EndRepresents told_of e.now x

-- its channels keep the datagrams of all PDUs that the end made, in order, the first under number 0
abbrev pub KeepsMade : {A : Type 0} → Option (Bor (EndValue KeeperValue A)) → Option EndState → Type 0
KeepsMade (Some e) (Some x) = (channels_of e.now).datagrams ≡ datagrams_of x.settings 0 x.machine.made
KeepsMade _ _ = Unit {0}
