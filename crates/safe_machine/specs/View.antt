-- What a machine keeps of a state: lists as their counts, and the unconfirmed units.
use Rattle.std.specs.Prelude.{◌≡◌, ℕ, Bool, true, false, List, length, map}
use Rattle.octets.specs.declared.limits.TheConstants.{WINDOW_MAX}
use Rattle.safe_machine.specs.retrans.Units.{Numbered}
use Rattle.safe_pdu.specs.declared.CodeRule.{CodeRule}
use Rattle.safe_pdu.specs.SafeText.{safe_text}
use Rattle.safe_machine.specs.declared.ConnectionState.{ConnectionState}
use Rattle.safe_machine.specs.declared.Role.{Role}
use Rattle.safe_machine.specs.declared.Role.TheVariants.{Client, Server}
use Rattle.safe_machine.specs.declared.MachineConfig.{MachineConfig}
use Rattle.safe_machine.specs.Made.{Made, last_time}
use Rattle.safe_machine.specs.Settings.{Settings}
use Rattle.safe_machine.specs.State.{State}
use Rattle.safe_machine.specs.Ring.{ring_of}

-- The role is that of the client.
abbrev pub is_client : Role → Bool
is_client Client = true
is_client Server = false

-- The settings of an end in a role.
abbrev pub settings_of : Role → MachineConfig → Settings
settings_of role config =
    record {
      client = is_client role;
      own = config.own;
      peer = config.peer;
      n_sendmax = config.n_sendmax;
      t_max = config.t_max;
      t_h = config.t_h;
      mwa = config.mwa;
      pdu_limit = config.pdu_limit;
      rule = config.rule;
    }

-- What a machine keeps.
pub record View : Type 0 where
  pub settings : Settings
  -- The sequence number of its first PDU.
  pub first : ℕ
  pub connection : ConnectionState
  -- How many PDUs were made.
  pub made : ℕ
  -- The time of the last of them, in milliseconds.
  pub last_made : ℕ
  -- How many units were taken since the last sending.
  pub since : ℕ
  -- The index of the peer's next PDU: SN_R without its wrap.
  pub expected : ℕ
  -- CS_T: the sequence number of the PDU that last moved `expected`, 0 before any.
  pub last_sn : ℕ
  -- TS_R: the timestamp of that PDU, 0 before any.
  pub last_ts : ℕ
  -- The index of the last own PDU confirmed: CS_R without its wrap.
  pub confirmed : ℕ
  -- The own time last confirmed, in milliseconds: CTS_R without its wrap.
  pub confirmed_at : ℕ
  -- The index of the last RetrReq handled, 0 before any.
  pub answered : ℕ
  -- The peer's N_sendmax.
  pub window : ℕ
  -- The units kept for a retransmission.
  pub ring : List Numbered
  -- How many units the ring has room for.
  pub room : ℕ

-- What is kept of a state, with these units in the ring.
abbrev pub beside : List Numbered → State → View
beside ring s =
    record {
      settings = s.settings;
      first = s.first;
      connection = s.connection;
      made = length s.made;
      last_made = last_time s.made 0;
      since = s.since;
      expected = s.expected;
      last_sn = s.last_sn;
      last_ts = s.last_ts;
      confirmed = s.confirmed;
      confirmed_at = s.confirmed_at;
      answered = s.answered;
      window = s.window;
      ring = ring;
      room = WINDOW_MAX;
    }

-- What is kept of a state.
abbrev pub kept_of : State → View
kept_of s = beside (ring_of s) s

-- The view is what is kept of the state: each field is derived from it.
abbrev pub StandsFor : View → State → Type 0
StandsFor m s = m ≡ kept_of s

-- The encoding of a PDU made. It is unfolded only where PDUs are written or read.
unfoldable pub text_of : CodeRule → Made → List ℕ
text_of rule m = safe_text rule m.pdu

-- The encodings of PDUs made.
abbrev pub texts : CodeRule → List Made → List (List ℕ)
texts rule ms = map (text_of rule) ms
