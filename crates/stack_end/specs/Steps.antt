-- The steps of an end with its whole history: what is kept of it takes the turns of a call (`Turns`), and what each did
-- is appended to the history.
use Rattle.std.specs.Prelude.{ℕ, ◌%◌, ◌^◌, None, is_none, if◌then◌else◌, List, [], ◌∷◌, ◌++◌, length}
use Rattle.pdi_session.specs.Histories.{History}
use Rattle.red_layer.specs.Parts.{Part}
use Rattle.red_layer.specs.Redundancy.{Input, after, parts_passed}
use Rattle.safe_machine.specs.Step.{history}
use Rattle.safe_machine.specs.View.{kept_of as machine_kept}
use Rattle.stack_end.specs.Certain.{cap_count}
use Rattle.stack_end.specs.Dialogue.{session_in}
use Rattle.stack_end.specs.Ends.{Call, EndState, time_of}
use Rattle.stack_end.specs.Statistics.{no_part_counts, no_made_counts, with_made}
use Rattle.stack_end.specs.Turns.{Fields, Turn, Way, WholeWay, call_by, guard_turn, part_turn as part_turn, parts_by, send_by, tick_turn}

-- what an end in this state keeps above its redundancy layer; how it was closed, and what it counts of parts, is no
-- part of the state
abbrev pub kept_of : EndState → Fields
kept_of x =
    record {
      numbers = length x.machine.made % 2 ^ 32;
      machine = machine_kept x.machine;
      session = session_in x.session;
      waiting = x.session.waiting;
      request = x.request;
      count = x.settings.channels;
      max = x.settings.n_maxpacket;
      t_max = x.machine.settings.t_max;
      accepted = cap_count (length x.session.history.put);
      departed = None;
      made = with_made x.machine.made no_made_counts;
      parts = no_part_counts;
    }

-- a history of a session, and then one that begins where it ends
abbrev pub join_histories : History → History → History
join_histories h k =
    record {
      state = k.state;
      phases = h.phases ++ k.phases;
      queue = h.queue ++ k.queue;
      judged = h.judged ++ k.judged;
      put = h.put ++ k.put;
      taken = h.taken ++ k.taken;
      ended_in = if is_none k.ended_in then h.ended_in else k.ended_in;
    }

-- a history of a session, and then all of these, in order
abbrev pub add_histories : History → List History → History
add_histories h [] = h
add_histories h (k ∷ ks) = add_histories (join_histories h k) ks

-- the state after a turn: what is kept is that of the turn, and what the turn did is appended
abbrev pub follow : Turn Fields → EndState → EndState
follow t x =
    record {
      settings = x.settings;
      red = x.red;
      inputs = x.inputs;
      machine = history t.left.machine (x.machine.made ++ t.made) (x.machine.taken ++ t.units);
      session = record { history = add_histories x.session.history t.talks; waiting = t.left.waiting };
      request = t.left.request;
      time = x.time;
    }

-- the state after this turn of what is kept of it
abbrev pub step : (Fields → Turn Fields) → EndState → EndState
step next x = follow (next (kept_of x)) x

-- the timeout check of the machine
abbrev pub guard_step : ℕ → EndState → EndState
guard_step now x = step (guard_turn now) x

-- the timers of the machine
abbrev pub tick_step : ℕ → EndState → EndState
tick_step now x = step (tick_turn now) x

-- a part that goes up
abbrev pub part_step : ℕ → List ℕ → EndState → EndState
part_step now octets x = step (part_turn now octets) x

-- the steps of a state above the redundancy layer
abbrev pub by_steps : Way EndState EndState
by_steps = record { kept = kept_of; stays = λ x. x; follows = λ x next. next x; takes = step }

-- the parts that go up, in order
abbrev pub parts_step : ℕ → List Part → EndState → EndState
parts_step now ps x = parts_by by_steps now ps x

-- the redundancy layer processes an input, which is recorded
abbrev pub with_input : Input → EndState → EndState
with_input i x = record x { red = after i x.red; inputs = x.inputs ++ i ∷ [] }

-- the redundancy layer processes an input, and each part that goes up is processed
abbrev pub input_step : ℕ → Input → EndState → EndState
input_step now i x = parts_step now (parts_passed i x.red) (with_input i x)

-- the steps of a state with all layers
abbrev pub whole_way : WholeWay EndState EndState
whole_way = record { way = by_steps; receives = input_step; sends = send_by by_steps }

-- a call: its steps, and its time becomes that of the end
abbrev pub call : Call → EndState → EndState
call c x = record (call_by whole_way c x) { time = time_of c }
