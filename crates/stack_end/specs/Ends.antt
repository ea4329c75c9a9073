-- The state of one end with its whole history, and the calls of an end.
use Rattle.std.specs.Prelude.{ℕ, Bool, not, ◌&&◌, Option, None, List, []}
use Rattle.red_layer.specs.Parts.{is_nil}
use Rattle.red_layer.specs.Redundancy.{Receiver, Input, new_receiver as red_opened}
use Rattle.safe_machine.specs.State.{State, unconfirmed}
use Rattle.safe_machine.specs.Decision.{is_closed}
use Rattle.safe_machine.specs.Step.{new_state}
use Rattle.safe_machine.specs.World.{Side}
use Rattle.end_settings.specs.EndSettings.{EndSettings, connection_of, session_of}
use Rattle.end_settings.specs.ConfigValue.{settings_of, side_of}
use Rattle.end_settings.specs.declared.EndConfig.{EndConfig}
use Rattle.end_settings.specs.declared.Side.{Side as ConfiguredSide}
use Rattle.stack_end.specs.Dialogue.{Dialogue, new_dialogue}

-- the state of an end: its layers, with all that ever happened to them
pub record EndState : Type 0 where
  pub settings : EndSettings  -- what it was opened with
  pub red : Receiver  -- the receiving half of the redundancy layer
  pub inputs : List Input  -- all that came to the redundancy layer, in order
  pub machine : State  -- the safety machine, with all PDUs made and units taken
  pub session : Dialogue  -- the session with its history, and the waiting messages
  pub request : Option (List ℕ)  -- the bytes of the ConnReq that it accepted in Down
  pub time : ℕ  -- of the last accepted call, in milliseconds

-- an end as it is opened
abbrev pub new_end : Side → EndSettings → (first now : ℕ) → EndState
new_end side settings first now =
    record {
      settings = settings;
      red = red_opened settings.q settings.t_seq;
      inputs = [];
      machine = new_state (connection_of side settings) first now;
      session = new_dialogue settings.addressing (session_of side settings);
      request = None;
      time = now;
    }

-- an end as it is opened with settings and side as the application has them
abbrev pub opened_end : ConfiguredSide → EndConfig → (first now : ℕ) → EndState
opened_end side config first now = new_end (side_of side) (settings_of config) first now

-- the end is closed
abbrev pub is_shut : EndState → Bool
is_shut x = is_closed x.machine.connection

-- everything put is confirmed: the end is not closed, no message waits, and no unit is unconfirmed
abbrev pub is_settled : EndState → Bool
is_settled x = not (is_shut x) && (is_nil x.session.waiting && is_nil (unconfirmed x.machine))

-- the calls of an end that was opened, each with its time in milliseconds
pub data Call : Type 0 where
  Close : (now : ℕ) → Call
  Put : (kind : ℕ) → (payload : List ℕ) → (now : ℕ) → Call
  InitDone : (now : ℕ) → Call
  Tick : (now : ℕ) → Call
  Deliver : (channel : ℕ) → (octets : List ℕ) → (now : ℕ) → Call

-- the time of a call
abbrev pub time_of : Call → ℕ
time_of (Close now) = now
time_of (Put kind payload now) = now
time_of (InitDone now) = now
time_of (Tick now) = now
time_of (Deliver channel octets now) = now
