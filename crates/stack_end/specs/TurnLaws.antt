-- The bridge from what an end keeps to its whole history: what a turn leaves represents the state after the call's
-- steps, and the state grows by what was sent and delivered.
use Rattle.std.specs.Prelude.{◌≡◌, ◌≢◌, ℕ, None, List, [], ◌∷◌, ◌++◌, length}
use Rattle.pdi_session.specs.SessionStep.{put_refusal}
use Rattle.safe_machine.specs.Made.{Made}
use Rattle.safe_machine.specs.State.{unconfirmed}
use Rattle.safe_machine.specs.Step.{tick}
use Rattle.safe_machine.specs.Turns.{still, tick_turn}
use Rattle.stack_end.specs.Datagrams.{sendings}
use Rattle.stack_end.specs.Dialogue.{session_in}
use Rattle.stack_end.specs.Ends.{Call, Deliver, EndState, Put, is_settled}
use Rattle.stack_end.specs.Steps.{call}
use Rattle.stack_end.specs.Certain.{confirmed_in, confirmed_of}
use Rattle.stack_end.specs.Fields.{LayersRepresent}
use Rattle.stack_end.specs.Turns.{Inside, Turn, is_settled as keeps_none, turn}

-- how a state grows by a turn, independent of what represents it
pub record GrowsBy {V : Type 0} (t : Turn V) (x y : EndState) : Type 0 where
  pub settings : y.settings ≡ x.settings  -- the settings are unchanged
  pub more : List Made  -- the PDUs that were made
  pub made : y.machine.made ≡ x.machine.made ++ more  -- they come after all made before
  pub sent : t.sent ≡ sendings x.settings (length x.machine.made) more  -- the turn sends exactly their datagrams
  -- what the turn delivers was taken, after all taken before
  pub taken : y.session.history.taken ≡ x.session.history.taken ++ t.taken

-- a turn leads from one state to the other
pub record LeadsByTurn (t : Turn Inside) (x y : EndState) : Type 0 where
  pub stands : LayersRepresent t.left y  -- what it leaves represents the later state
  pub grew : GrowsBy t x y  -- and that has grown by the turn

-- the turn of every call, in every state, is the call's step
abbrev pub TurnsLaw : Type 0
TurnsLaw = (c : Call) (v : Inside) (x : EndState) → LayersRepresent v x → LeadsByTurn (turn c v) x (call c x)

-- on which channel a datagram comes has no effect
abbrev pub AnyChannelLaw : Type 0
AnyChannelLaw = (channel other : ℕ) (octets : List ℕ) (now : ℕ) (v : Inside)
    → turn (Deliver channel octets now) v ≡ turn (Deliver other octets now) v

-- what an end keeps determines these facts of the state that it represents
pub record Determines (v : Inside) (x : EndState) : Type 0 where
  pub settled : keeps_none v ≡ is_settled x  -- whether it is settled
  pub unconfirmed : length v.upper.machine.ring ≡ length (unconfirmed x.machine)  -- how many units are unconfirmed
  pub confirmed : confirmed_in v.upper ≡ confirmed_of x  -- how many telegrams are confirmed
  -- a tick that changes nothing kept changes nothing of the state
  pub quiet : (now : ℕ) → tick_turn now v.upper.machine ≡ still v.upper.machine → tick now x.machine ≡ x.machine
  -- a tick that changes what is kept changes the state
  pub fallen : (now : ℕ) → (tick_turn now v.upper.machine).left ≢ v.upper.machine → tick now x.machine ≢ x.machine

-- in every state these facts follow from what is kept
abbrev pub DeterminesLaw : Type 0
DeterminesLaw = (v : Inside) (x : EndState) → LayersRepresent v x → Determines v x

-- an accepted telegram is the last of all that were put
abbrev pub LastLaw : Type 0
LastLaw =
    (kind : ℕ) (payload : List ℕ) (now : ℕ) (x : EndState)
    → put_refusal (session_in x.session) kind payload (length x.session.waiting) ≡ None
    → (call (Put kind payload now) x).session.history.put ≡ x.session.history.put ++ (kind, payload) ∷ []
