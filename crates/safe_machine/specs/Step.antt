-- The steps of a history: what is kept takes a turn (`Turns`), and what the turn made and handed up is appended.
use Rattle.std.specs.Prelude.{ℕ, Bool, List, [], ◌++◌, length}
use Rattle.safe_pdu.specs.Pdu.{Pdu}
use Rattle.safe_pdu.specs.declared.reasons.Reason.{Reason}
use Rattle.safe_pdu.specs.declared.reasons.Detail.{Detail}
use Rattle.safe_machine.specs.Made.{Made}
use Rattle.safe_machine.specs.Settings.{Settings}
use Rattle.safe_machine.specs.State.{State, unconfirmed}
pub use Rattle.safe_machine.specs.Connections.{is_live, is_connected}
use Rattle.safe_machine.specs.View.{View, kept_of}
use Rattle.safe_machine.specs.Turns.{Turn, arrival_turn, guard_turn, handed_units, is_open, leave_turn, opening_turn, send_turn, tick_turn}
pub use Rattle.safe_machine.specs.Made.{last_time}

-- The history of an end that keeps this view, and has made these PDUs and taken these units. What the view has of its
-- own PDUs is derived from them.
abbrev pub history : View → List Made → List (List ℕ) → State
history v made taken =
    record {
      settings = v.settings;
      first = v.first;
      connection = v.connection;
      made = made;
      taken = taken;
      since = v.since;
      expected = v.expected;
      last_sn = v.last_sn;
      last_ts = v.last_ts;
      confirmed = v.confirmed;
      confirmed_at = v.confirmed_at;
      answered = v.answered;
      window = v.window;
    }

-- The history after a turn that hands up these units.
abbrev pub follow : Turn → List (List ℕ) → State → State
follow t units s = history t.left (s.made ++ t.made) (s.taken ++ units)

-- The history of an end that was just opened.
abbrev pub new_state : Settings → ℕ → ℕ → State
new_state settings first now = history (opening_turn settings first now).left (opening_turn settings first now).made []

-- The history after the end disconnects: a DiscReq if there is a connection, and Closed.
abbrev pub leave : Reason → Detail → ℕ → State → State
leave reason detail now s = follow (leave_turn reason detail now (kept_of s)) [] s

-- The history after the timeout check.
abbrev pub guard : ℕ → State → State
guard now s = follow (guard_turn now (kept_of s)) [] s

-- The history after the arrival of a PDU.
abbrev pub arrive : Pdu → ℕ → State → State
arrive p now s = follow (arrival_turn p now (kept_of s)) (handed_units p now (kept_of s)) s

-- The history after a tick.
abbrev pub tick : ℕ → State → State
tick now s = follow (tick_turn now (kept_of s)) [] s

-- A unit may be sent.
abbrev pub may_send : State → Bool
may_send s = is_open s.connection (length (unconfirmed s)) s.window

-- The history after a send.
abbrev pub send : List ℕ → ℕ → State → State
send unit now s = follow (send_turn unit now (kept_of s)) [] s
