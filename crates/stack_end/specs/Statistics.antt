-- What an end counts of its own work since its opening, modulo 2^64.
use Rattle.std.specs.Prelude.{ℕ, ◌+◌, ◌-◌, ◌%◌, ◌^◌, ◌==◌, ◌||◌, ◌&&◌, Bool, max, nat_lt, Option, Some, None, is_some, List, [], ◌∷◌, replicate, slice_index_or, slice_set, if◌then◌else◌}
use Rattle.octets.specs.declared.limits.TheConstants.{CHANNELS_MAX}
use Rattle.red_layer.specs.declared.RedEvent.{RedEvent}
use Rattle.red_layer.specs.declared.RedEvent.TheVariants as event
use Rattle.red_layer.specs.declared.pdu.RedFault.{RedFault}
use Rattle.red_layer.specs.declared.pdu.RedFault.TheVariants as red_fault
use Rattle.safe_pdu.specs.declared.SafeFault.{SafeFault}
use Rattle.safe_pdu.specs.declared.SafeFault.TheVariants as safe_fault
use Rattle.safe_pdu.specs.declared.Kind.{Kind}
use Rattle.safe_pdu.specs.declared.Kind.TheVariants.{ConnReq, ConnResp, RetrReq, RetrResp, DiscReq, Heartbeat, Data, RetrData}
use Rattle.safe_pdu.specs.Places.{kind_of}
use Rattle.safe_machine.specs.Made.{Made}
use Rattle.stack_end.specs.Departures.{number_at}
use Rattle.safe_machine.specs.declared.DropCause.{DropCause}
use Rattle.safe_machine.specs.declared.DropCause.TheVariants as cause
use Rattle.safe_machine.specs.declared.Step.{Step as Outcome}
use Rattle.safe_machine.specs.declared.Step.TheVariants as step
use Rattle.stack_end.specs.declared.statistics.DatagramCounts.{DatagramCounts}
use Rattle.stack_end.specs.declared.statistics.MadeCounts.{MadeCounts}
use Rattle.stack_end.specs.declared.statistics.PartCounts.{PartCounts}
use Rattle.stack_end.specs.declared.statistics.ReceptionCounts.{ReceptionCounts}
use Rattle.stack_end.specs.declared.statistics.RedFaultCounts.{RedFaultCounts}
use Rattle.stack_end.specs.declared.statistics.SafeFaultCounts.{SafeFaultCounts}

-- the next count
abbrev pub one_more : ℕ → ℕ
one_more n = (n + 1) % 2 ^ 64

-- the sum of two counts
abbrev pub sum : ℕ → ℕ → ℕ
sum m n = (m + n) % 2 ^ 64

-- nothing was made
abbrev pub no_made_counts : MadeCounts
no_made_counts = record { units = 0; resent = 0; heartbeats = 0; requests = 0; answers = 0 }

-- one PDU of this type more was made; those that open or end a connection are not counted
abbrev pub with_kind : Kind → MadeCounts → MadeCounts
with_kind Data c = record c { units = one_more c.units }
with_kind RetrData c = record c { resent = one_more c.resent }
with_kind Heartbeat c = record c { heartbeats = one_more c.heartbeats }
with_kind RetrReq c = record c { requests = one_more c.requests }
with_kind RetrResp c = record c { answers = one_more c.answers }
with_kind ConnReq c = c
with_kind ConnResp c = c
with_kind DiscReq c = c

-- these PDUs more were made
abbrev pub with_made : List Made → MadeCounts → MadeCounts
with_made [] c = c
with_made (m ∷ ms) c = with_made ms (with_kind m.pdu.kind c)

-- one PDU more, if its type is known
abbrev pub with_known : Option Kind → MadeCounts → MadeCounts
with_known None c = c
with_known (Some kind) c = with_kind kind c

-- one PDU of these bytes more was made: its type is the number in the two bytes after its length
abbrev pub with_pdu : List ℕ → MadeCounts → MadeCounts
with_pdu octets c = with_known (kind_of (number_at 2 octets)) c

-- no part with a fault has gone up
abbrev pub no_safe_faults : SafeFaultCounts
no_safe_faults = record { short = 0; length = 0; code = 0; bad_type = 0; body = 0 }

-- one part with this fault more
abbrev pub with_safe_fault : SafeFault → SafeFaultCounts → SafeFaultCounts
with_safe_fault safe_fault.Short c = record c { short = one_more c.short }
with_safe_fault safe_fault.Length c = record c { length = one_more c.length }
with_safe_fault safe_fault.Code c = record c { code = one_more c.code }
with_safe_fault safe_fault.BadType c = record c { bad_type = one_more c.bad_type }
with_safe_fault safe_fault.Body c = record c { body = one_more c.body }

-- the parts of all faults
abbrev pub all_safe_faults : SafeFaultCounts → ℕ
all_safe_faults c = sum (sum (sum (sum c.short c.length) c.code) c.bad_type) c.body

-- no datagram with a fault has come
abbrev pub no_red_faults : RedFaultCounts
no_red_faults = record { short = 0; length = 0; reserve = 0 }

-- one datagram with this fault more
abbrev pub with_red_fault : RedFault → RedFaultCounts → RedFaultCounts
with_red_fault red_fault.Short c = record c { short = one_more c.short }
with_red_fault red_fault.Length c = record c { length = one_more c.length }
with_red_fault red_fault.Reserve c = record c { reserve = one_more c.reserve }

-- the datagrams of all faults
abbrev pub all_red_faults : RedFaultCounts → ℕ
all_red_faults c = sum (sum c.short c.length) c.reserve

-- nothing has gone up
abbrev pub no_part_counts : PartCounts
no_part_counts =
    record {
      taken = 0;
      gaps = 0;
      damaged = no_safe_faults;
      strangers = 0;
      unopened = 0;
      far = 0;
      unrequested = 0;
      answered = 0;
      below = 0;
      oldest = 0;
      longest_wait = 0;
    }

-- one part more was dropped
abbrev pub with_dropped : DropCause → PartCounts → PartCounts
with_dropped (cause.Fault why) c = record c { damaged = with_safe_fault why c.damaged }
with_dropped cause.Stranger c = record c { strangers = one_more c.strangers }
with_dropped cause.NotOpened c = record c { unopened = one_more c.unopened }
with_dropped cause.Number c = record c { far = one_more c.far }
with_dropped cause.Request c = record c { unrequested = one_more c.unrequested }
with_dropped cause.Answered c = record c { answered = one_more c.answered }
with_dropped cause.Below c = record c { below = one_more c.below }

-- one part more has gone up: this long before it nothing was confirmed, and this old is the last confirmed timestamp
-- after it
abbrev pub with_step : Outcome → (waited age : ℕ) → PartCounts → PartCounts
with_step step.Taken waited age c =
    record c { taken = one_more c.taken; longest_wait = max c.longest_wait waited; oldest = max c.oldest age }
with_step step.Gap waited age c = record c { gaps = one_more c.gaps }
with_step (step.Dropped why) waited age c = with_dropped why c
with_step (step.Left reason detail) waited age c = c
with_step step.Nothing waited age c = c

-- nothing has come on a channel
abbrev pub no_reception_counts : ReceptionCounts
no_reception_counts =
    record {
      received = 0;
      passed = 0;
      deferred = 0;
      old = 0;
      repeated = 0;
      far = 0;
      full = 0;
      damaged = no_red_faults;
      last = None;
    }

-- an event of the redundancy layer
abbrev pub with_answer : RedEvent → ReceptionCounts → ReceptionCounts
with_answer event.Passed c = record c { passed = one_more c.passed }
with_answer event.Wait c = record c { deferred = one_more c.deferred }
with_answer event.Old c = record c { old = one_more c.old }
with_answer event.Again c = record c { repeated = one_more c.repeated }
with_answer event.Far c = record c { far = one_more c.far }
with_answer event.Full c = record c { full = one_more c.full }
with_answer (event.Fault why) c = record c { damaged = with_red_fault why c.damaged }

-- the time of the last redundancy PDU that is not too far ahead
abbrev pub with_time : RedEvent → (now : ℕ) → ReceptionCounts → ReceptionCounts
with_time event.Far now c = c
with_time (event.Fault why) now c = c
with_time _ now c = record c { last = Some now }

-- a datagram has come at this time, with this event of the redundancy layer, or None at a closed end
abbrev pub with_event : Option RedEvent → (now : ℕ) → ReceptionCounts → ReceptionCounts
with_event None now c = record c { received = one_more c.received }
with_event (Some e) now c = with_answer e (with_time e now (record c { received = one_more c.received }))

-- a datagram has come on a channel, from 1 on: its counts change, those of the others stay
abbrev pub count_reception : (channel : ℕ) → Option RedEvent → (now : ℕ) → List ReceptionCounts → List ReceptionCounts
count_reception channel e now cs =
    if channel == 0 || nat_lt CHANNELS_MAX channel then cs
    else slice_set cs (channel - 1) (with_event e now (slice_index_or cs (channel - 1) no_reception_counts))

-- nothing has come on any channel
abbrev pub no_datagram_counts : DatagramCounts
no_datagram_counts = record { channels = replicate CHANNELS_MAX no_reception_counts; expired_deferrals = 0 }

-- a deferral deadline has passed, or not
abbrev pub count_expired : (expired : Bool) → DatagramCounts → DatagramCounts
count_expired expired c =
    record c { expired_deferrals = if expired then one_more c.expired_deferrals else c.expired_deferrals }

-- a datagram has come on a channel; if the redundancy layer processed it and was due, its deferral deadline has passed
abbrev pub count_datagram : (channel : ℕ) → Option RedEvent → (due : Bool) → (now : ℕ) → DatagramCounts → DatagramCounts
count_datagram channel e due now c =
    count_expired (is_some e && due) (record c { channels = count_reception channel e now c.channels })
