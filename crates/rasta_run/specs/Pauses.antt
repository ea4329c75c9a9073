-- When PDUs of the peer came while an end is connected.
use Rattle.std.specs.Prelude.{ℕ, ◌-◌, ◌&&◌, Bool, true, false, max, nat_eq, Option, Some, None, if◌then◌else◌}
use Rattle.pdu_text.specs.declared.last_lines.Departure.{Departure}
use Rattle.pdu_text.specs.declared.last_lines.Departure.TheVariants.{Own, Peer}
use Rattle.safe_machine.specs.declared.ConnectionState.{ConnectionState}
use Rattle.safe_machine.specs.declared.ConnectionState.TheVariants as state
use Rattle.rasta_run.specs.declared.notices.Notice.{Notice}
use Rattle.rasta_run.specs.declared.notices.Notice.TheVariants.{Paused}
use Rattle.rasta_run.specs.declared.pauses.PeerPauses.{PeerPauses}

-- when the last PDU was found: now, if there are more than before
abbrev pub last_of : PeerPauses → (came now : ℕ) → ℕ
last_of p came now = if nat_eq came p.came then p.at else now

-- the pauses of a peer of which so many PDUs came
abbrev pub looked : Option PeerPauses → (came now : ℕ) → PeerPauses
looked None came now = record { came = came; at = now; longest = 0 }
looked (Some p) came now = record { came = came; at = last_of p came now; longest = max p.longest (now - p.at) }

-- the same of the peer of an end in this state; none unless it is connected
abbrev pub pauses_after : Option PeerPauses → ConnectionState → (came now : ℕ) → Option PeerPauses
pauses_after p state.Up came now = Some (looked p came now)
pauses_after p state.RetrReq came now = Some (looked p came now)
pauses_after p state.RetrRun came now = Some (looked p came now)
pauses_after p state.Closed came now = None
pauses_after p state.Down came now = None
pauses_after p state.Start came now = None

-- the end disconnected because nothing recent was confirmed
abbrev pub is_timeout : Option Departure → Bool
is_timeout None = false
is_timeout (Some (Own leaving)) = nat_eq leaving.reason 3
is_timeout (Some (Peer leaving)) = false

-- the time since the last PDU, and the longest time without one
abbrev pub pauses_told : Option PeerPauses → (t_max now : ℕ) → Option Notice
pauses_told None t_max now = None
pauses_told (Some p) t_max now = Some (Paused (now - p.at) (max p.longest (now - p.at)) t_max)

-- the same, if the connection is closed
abbrev pub closing_notice : Option PeerPauses → ConnectionState → (t_max now : ℕ) → Option Notice
closing_notice p state.Closed t_max now = pauses_told p t_max now
closing_notice p state.Down t_max now = None
closing_notice p state.Start t_max now = None
closing_notice p state.Up t_max now = None
closing_notice p state.RetrReq t_max now = None
closing_notice p state.RetrRun t_max now = None

-- the same, if it is wanted
abbrev pub pause_notice : (wanted : Bool) → Option PeerPauses → ConnectionState → (t_max now : ℕ) → Option Notice
pause_notice true p s t_max now = closing_notice p s t_max now
pause_notice false p s t_max now = None
