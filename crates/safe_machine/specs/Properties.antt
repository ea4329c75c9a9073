-- Properties of an arrival that promises use besides its exact turn.
use Rattle.octets.specs.declared.limits.TheConstants.{REACH, WINDOW_MAX}
use Rattle.std.specs.Prelude.{ℕ, ◌+◌, ◌*◌, ◌≡◌, ◌≢◌, ◌<◌, ◌⊎◌, true, List, [], None, Result, Ok, Err}
use Rattle.std.specs.List.{FoldsTo}
use Rattle.safe_machine.specs.retrans.Units.{above, octets_of}
use Rattle.safe_pdu.specs.declared.Kind.TheVariants.{Data}
use Rattle.safe_pdu.specs.declared.SafeFault.{SafeFault}
use Rattle.safe_pdu.specs.Pdu.{Pdu}
use Rattle.safe_machine.specs.declared.ConnectionState.TheVariants.{Up}
use Rattle.safe_machine.specs.Decision.{cs_fits, cs_step, cts_fits, cts_step, distance}
use Rattle.safe_machine.specs.Deadlines.{overdue}
use Rattle.safe_machine.specs.View.{View}

-- How far one arrival moves the index of the peer's next PDU at most: 10 times the greatest window, and one.
abbrev pub index_step : ℕ
index_step = REACH * WINDOW_MAX + 1

-- The confirmed timestamp of the PDU read, as this end reads it, is less than T_max old.
abbrev pub IsRecent : Result Pdu SafeFault → ℕ → View → Type 0
IsRecent (Ok p) now v = now < v.confirmed_at + cts_step v p + v.settings.t_max
IsRecent (Err fault) now v = ⊥

-- If anything was handed up, the reason holds.
abbrev pub HandsIf : {U : Type 0} → (U → List ℕ → U → Type 0) → U → U → Type 0 → Type 0
HandsIf takes before after reason = (more : List (List ℕ)) × FoldsTo takes before more after × (more ≢ [] → reason)

-- The bytes read are the peer's next Data for an end in Up, the timeout check passes, and both confirmation tests pass.
pub record IsNextData (read : Result Pdu SafeFault) (p : Pdu) (now : ℕ) (v : View) : Type 0 where
  -- The bytes encode this PDU.
  pub reads : read ≡ Ok p
  pub is_up : v.connection ≡ Up
  -- The timeout check passes.
  pub holds : overdue now v ≡ None
  pub kind : p.kind ≡ Data
  pub receiver : p.receiver ≡ v.settings.own
  pub sender : p.sender ≡ v.settings.peer
  -- It is the next PDU.
  pub next : distance v p ≡ 0
  -- The number test passes.
  pub confirms : cs_fits v p ≡ true
  -- The timestamp test passes.
  pub timely : cts_fits v p now ≡ true

-- Either no unit stops being unconfirmed, or exactly those with numbers up to this one do. The others stay, in order,
-- also if they are renumbered.
abbrev pub StopsOnly : ℕ → View → View → Type 0
StopsOnly number v w = (octets_of w.ring ≡ octets_of v.ring) ⊎ (octets_of w.ring ≡ octets_of (above number v.ring))

-- Units stop being unconfirmed only up to the index that the confirmed number means. If no PDU was read, none does.
abbrev pub OnlyConfirms : Result Pdu SafeFault → View → View → Type 0
OnlyConfirms (Ok p) v w = StopsOnly (v.confirmed + cs_step v p) v w
OnlyConfirms (Err fault) v w = octets_of w.ring ≡ octets_of v.ring
