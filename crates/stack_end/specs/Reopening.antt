-- An end that is opened again with the settings that it has: every layer is as newly opened, and nothing is sent on the
-- old connection.
use Rattle.std.specs.Prelude.{◌≡◌, ℕ, None, List, [], ◌∷◌}
use Rattle.pdi_session.specs.SessionStep.{new_session as session_opened}
use Rattle.red_layer.specs.Redundancy.{new_receiver as red_opened}
use Rattle.safe_machine.specs.Turns.{opening_turn}
use Rattle.safe_machine.specs.World.{Side}
use Rattle.end_settings.specs.EndSettings.{EndSettings}
use Rattle.stack_end.specs.Datagrams.{sent_at_opening}
use Rattle.stack_end.specs.Ends.{Call, EndState, new_end}
use Rattle.stack_end.specs.Fields.{LayersRepresent}
use Rattle.stack_end.specs.Statistics.{no_part_counts, no_made_counts}
use Rattle.stack_end.specs.Steps.{call}
use Rattle.stack_end.specs.Turns.{Fields, Inside, Turn, machine_turn, with_red}

-- what is kept above the redundancy layer before anything has happened: only the settings, and the machine of before
abbrev pub empty_fields : Fields → Fields
empty_fields v =
    record {
      numbers = 0;
      machine = v.machine;
      session = session_opened v.session.addressing v.session.role;
      waiting = [];
      request = None;
      count = v.count;
      max = v.max;
      t_max = v.t_max;
      accepted = 0;
      departed = None;
      made = no_made_counts;
      parts = no_part_counts;
    }

-- the machine opens again with its settings: an interlocking sends its ConnReq
abbrev pub machine_reopening_turn : (first now : ℕ) → Fields → Turn Fields
machine_reopening_turn first now v = machine_turn (opening_turn v.machine.settings first now) v

-- all layers open again
abbrev pub reopening_turn : (first now : ℕ) → Inside → Turn Inside
reopening_turn first now v =
    with_red (red_opened v.red.q v.red.t_seq) (machine_reopening_turn first now (empty_fields v.upper))

-- an end after these calls, in order
abbrev pub after_calls : List Call → EndState → EndState
after_calls [] x = x
after_calls (c ∷ cs) x = after_calls cs (call c x)

-- an end that keeps this and opens again is as one that is newly opened with these settings on this side, and sends the
-- same datagrams
pub record IsAgain (side : Side) (s : EndSettings) (first now : ℕ) (v : Inside) : Type 0 where
  -- what it keeps is that of a new end
  pub stands : LayersRepresent (reopening_turn first now v).left (new_end side s first now)
  -- what it sends is that of an opening
  pub sent : (reopening_turn first now v).sent ≡ sent_at_opening (new_end side s first now)

-- whatever calls an end has made since it was opened: if it opens again, it is as newly opened with the settings of its
-- opening
abbrev pub AgainLaw : Type 0
AgainLaw =
    (side : Side) (s : EndSettings) (first began : ℕ) (calls : List Call) (v : Inside)
    → LayersRepresent v (after_calls calls (new_end side s first began))
    → (next now : ℕ) → IsAgain side s next now v
