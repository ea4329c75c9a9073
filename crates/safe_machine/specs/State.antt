-- The history of one end: what it keeps, and everything that it made and took. `Step` has its steps.
use Rattle.std.specs.Prelude.{ℕ, ◌+◌, List, drop}
use Rattle.safe_machine.specs.declared.ConnectionState.{ConnectionState}
use Rattle.safe_machine.specs.Made.{Made, run_of}
use Rattle.safe_machine.specs.Settings.{Settings}

-- What an end keeps, and everything that it made and took.
pub record State : Type 0 where
  pub settings : Settings
  -- The sequence number of its first PDU.
  pub first : ℕ
  pub connection : ConnectionState
  -- The PDUs that it made, in order. SN_T is `first` plus their number, modulo 2^32.
  pub made : List Made
  -- The units that it took, in order.
  pub taken : List (List ℕ)
  -- How many units it took since the last sending; at mwa, a heartbeat is made.
  pub since : ℕ
  -- The index of the peer's next PDU: SN_R without its wrap.
  pub expected : ℕ
  -- CS_T: the sequence number of the PDU that last moved `expected`, 0 before any.
  pub last_sn : ℕ
  -- TS_R: the timestamp of that PDU, 0 before any.
  pub last_ts : ℕ
  -- The index of the last own PDU confirmed: CS_R without its wrap.
  pub confirmed : ℕ
  -- The own time last confirmed, in milliseconds: CTS_R without its wrap.
  pub confirmed_at : ℕ
  -- The index of the last RetrReq handled, 0 before any.
  pub answered : ℕ
  -- The peer's N_sendmax.
  pub window : ℕ

-- The units that PDUs after the last one confirmed carry.
abbrev pub unconfirmed : State → List (List ℕ)
unconfirmed s = run_of (drop (s.confirmed + 1) s.made)
