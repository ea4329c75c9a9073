-- The content of a handle: nothing, or the station that a box owns.
use base.Fml.{Fml, ftrue}
use base.Stored.{Coded}
use Rattle.std.specs.Coded.{coded_option}
use denote.RawPtr.{Ptr}
use Rattle.std.specs.Prelude.{◌≡◌, ℕ, ◌*◌, false, Option, Some, None}
use Rattle.octets.specs.declared.limits.TheConstants.{PAYLOAD_MAX}
use Rattle.stack_end.specs.Ends.{new_end}
use Rattle.stack_end.specs.EndValue.{EndRepresents}
use Rattle.end_for_callers.specs.Boxes.{Posted, new_outgoing, told_of}
use Rattle.end_for_callers.specs.Calls.{outbox_of, reserve_of}
use Rattle.end_for_callers.specs.Queues.{new_queue}
use Rattle.end_for_callers.specs.Openings.{first_opening}
use Rattle.stack_end.specs.Datagrams.{sent_at_opening}
use Rattle.end_settings.specs.ConfigValue.{side_of}
use Rattle.end_for_callers.specs.Plain.{OpeningSeen, opening_of}
use Rattle.end_for_callers.specs.declared.plain.PlainSettings.{PlainSettings}
use Rattle.std.specs.Box.Ownership.{box_owns}
use Rattle.std.specs.Global.{Global}
use Rattle.std_heap.specs.contracts.GlobalAllocator.TheImpl.{ghosts}
use Rattle.end_for_callers.specs.contracts.station.Station.{the_row}

-- a station, as contracts see it
abbrev pub Held : Type 0
Held = the_row.Denot

-- the memory that a handle owns: nothing, or that of a box
abbrev pub holds : Global → Ptr → Option Held → Fml
holds alloc p None = ftrue
holds alloc p (Some x) = box_owns (ghosts.dealloc_token alloc) the_row p x

-- the content of a handle can be stored as a ghost
abbrev pub held_coded : Coded (Option Held)
held_coded = coded_option the_row.coded

-- there was a station and there is one, and this relation holds between them
abbrev pub Became : (Held → Held → Type 0) → Option Held → Option Held → Type 0
Became R (Some s) (Some t) = R s t
Became R (Some s) None = ⊥
Became R None after = ⊥

-- a station that was just opened with these arguments
pub record IsNew (o : OpeningSeen) (now : ℕ) (s : Held) : Type 0 where
  -- its end is new
  pub end : EndRepresents told_of s.end (new_end (side_of o.side) o.config o.first_sn now)
  -- what the opening sends waits, or is counted
  pub sent : Posted (new_outgoing o.rooms.datagrams)
      (sent_at_opening (new_end (side_of o.side) o.config o.first_sn now)) (outbox_of s)
  -- no telegram waits, and there is the given room
  pub inbox : s.inbox ≡ record { queue = new_queue o.rooms.telegrams (o.rooms.telegrams * PAYLOAD_MAX); lost = false }
  -- its time is that of the opening
  pub time : s.time ≡ now
  -- it reserves room for the datagrams of a call
  pub reserve : s.reserve ≡ reserve_of o.config
  -- it counts one opening
  pub openings : s.openings ≡ first_opening o.side o.config.connection.t_max now

-- a handle holds a station that was just opened with the content of these settings
abbrev pub IsOpened : PlainSettings → ℕ → Option Held → Type 0
IsOpened settings now None = ⊥
IsOpened settings now (Some s) = (o : OpeningSeen) × (opening_of settings ≡ Some o) × IsNew o now s
