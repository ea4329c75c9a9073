-- When an end has to be opened again: it is closed, or it waits for a connection and may miss the next request.
use Rattle.std.specs.Prelude.{◌≡◌, ℕ, true, false, Bool, List, Some, Ok}
use Rattle.red_layer.specs.Begun.{has_begun}
use Rattle.red_layer.specs.Redundancy.{decoded}
use Rattle.safe_pdu.specs.Pdu.{Pdu}
use Rattle.safe_pdu.specs.Places.{safe_seen}
use Rattle.safe_pdu.specs.declared.Kind.TheVariants.{ConnReq}
use Rattle.safe_machine.specs.Decision.{is_foreign, is_ours}
use Rattle.safe_machine.specs.Turns.{acceptance_turn}
use Rattle.safe_machine.specs.View.{View}
use Rattle.safe_machine.specs.declared.ConnectionState.{ConnectionState}
use Rattle.safe_machine.specs.declared.ConnectionState.TheVariants.{Closed, Down, Start}
use Rattle.end_settings.specs.EndSettings.{EndSettings}
use Rattle.safe_machine.specs.World.{Side}
use Rattle.stack_end.specs.Ends.{Deliver, new_end}
use Rattle.stack_end.specs.Fields.{LayersRepresent}
use Rattle.stack_end.specs.Turns.{Inside, turn}

-- an end in this state of its connection is stale: it is closed, or it is in Down and its redundancy layer has accepted
-- something (begun)
abbrev pub stale_in : ConnectionState → (begun : Bool) → Bool
stale_in Closed begun = true
stale_in Down begun = begun
stale_in _ begun = false

-- what is kept is that of a stale end
abbrev pub is_stale : Inside → Bool
is_stale v = stale_in v.upper.machine.connection (has_begun v.red)

-- the datagram is the ConnReq of a peer that was just opened, for an end that keeps this view: its redundancy number is
-- 0, and its part (upper) decodes under the end's safety code to a ConnReq with the identifiers of this connection and
-- with the version of this profile
pub record IsFirstRequest (v : View) (octets upper : List ℕ) (p : Pdu) : Type 0 where
  pub first : decoded octets ≡ Ok (0, upper)  -- the redundancy number is 0
  pub coded : safe_seen v.settings.rule upper ≡ Ok p  -- the safety code is right, and the PDU is well formed
  pub request : p.kind ≡ ConnReq  -- it is a ConnReq
  pub known : is_foreign v.settings p ≡ false  -- receiver and sender are this end and its peer
  pub ours : is_ours p.body ≡ true  -- the version fits

-- an end has taken the request: it is in Start with the ConnResp made, it keeps the bytes of the request, and number 1
-- comes next
pub record HasTaken (before : Inside) (upper : List ℕ) (p : Pdu) (now : ℕ) (after : Inside) : Type 0 where
  pub state : after.upper.machine.connection ≡ Start  -- the state of the connection
  -- the safety machine has accepted the request
  pub machine : after.upper.machine ≡ (acceptance_turn p now before.upper.machine).left
  pub request : after.upper.request ≡ Some upper  -- the bytes that are kept
  pub expected : after.red.expected ≡ 1  -- the next redundancy number

-- an end that is not stale and is in Down takes the next request of a peer that was just opened, at any time and on any
-- channel
abbrev pub TakesRequestLaw : Type 0
TakesRequestLaw =
    (v : Inside) (channel now : ℕ) (octets upper : List ℕ) (p : Pdu) → is_stale v ≡ false
    → v.upper.machine.connection ≡ Down
    → IsFirstRequest v.upper.machine octets upper p
    → HasTaken v upper p now (turn (Deliver channel octets now) v).left

-- what represents a newly opened end is not stale
abbrev pub FreshLaw : Type 0
FreshLaw = (side : Side) (settings : EndSettings) (first now : ℕ) (v : Inside)
    → LayersRepresent v (new_end side settings first now) → is_stale v ≡ false
