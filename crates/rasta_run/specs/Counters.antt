-- What is counted of an end in a run, modulo 2^64: by itself, and beside it.
use Rattle.std.specs.Prelude.{ℕ, ◌-◌, ◌==◌, ◌||◌, nat_eq, nat_lt, Bool, true, false, List, [], ◌∷◌, slice_index_or, slice_set, Option, Some, None, if◌then◌else◌}
use Rattle.octets.specs.declared.limits.TheConstants.{CHANNELS_MAX}
use Rattle.safe_machine.specs.declared.DropCause.{DropCause}
use Rattle.safe_machine.specs.declared.DropCause.TheVariants as cause
use Rattle.safe_machine.specs.declared.Step.{Step}
use Rattle.safe_machine.specs.declared.Step.TheVariants as step
use Rattle.rasta_run.specs.declared.counts.ChannelCounts.{ChannelCounts}
use Rattle.rasta_run.specs.declared.counts.RunCounts.{RunCounts}
use Rattle.rasta_run.specs.declared.header.Header.{Header}
use Rattle.rasta_run.specs.declared.recorder.Recorder.{Recorder}
use Rattle.rasta_run.specs.Totals.{plus}
use Rattle.stack_end.specs.Statistics.{all_safe_faults, one_more, sum}
use Rattle.stack_end.specs.declared.statistics.Statistics.{Statistics}
use Rattle.udp_channels.specs.Sockets.{no_failures}
use Rattle.udp_channels.specs.declared.sockets.Failures.{Failures}

-- a channel of which nothing was counted
abbrev pub no_datagrams : ChannelCounts
no_datagrams = record { sent = 0; failed = 0; damaged = 0; strangers = 0 }

-- four channels of which nothing was counted
abbrev pub no_channels : List ChannelCounts
no_channels = no_datagrams ∷ no_datagrams ∷ no_datagrams ∷ no_datagrams ∷ []

-- a datagram that was to be sent, and was or was not
abbrev pub with_sent : Bool → ChannelCounts → ChannelCounts
with_sent true c = record c { sent = one_more c.sent }
with_sent false c = record c { failed = one_more c.failed }

-- a part that the safety machine dropped; only a damaged one and that of a stranger count
abbrev pub with_dropped : DropCause → ChannelCounts → ChannelCounts
with_dropped (cause.Fault why) c = record c { damaged = one_more c.damaged }
with_dropped cause.Stranger c = record c { strangers = one_more c.strangers }
with_dropped cause.NotOpened c = c
with_dropped cause.Number c = c
with_dropped cause.Request c = c
with_dropped cause.Answered c = c
with_dropped cause.Below c = c

-- a change of the counts of a channel, from 1 on; those of the others stay
abbrev pub change_channel : (channel : ℕ) → (ChannelCounts → ChannelCounts) → List ChannelCounts → List ChannelCounts
change_channel channel change cs =
    if channel == 0 || nat_lt CHANNELS_MAX channel then cs
    else slice_set cs (channel - 1) (change (slice_index_or cs (channel - 1) no_datagrams))

-- a datagram that was to be sent on a channel
abbrev pub count_sent_on : (channel : ℕ) → Bool → List ChannelCounts → List ChannelCounts
count_sent_on channel went cs = change_channel channel (with_sent went) cs

-- a dropped part of a channel
abbrev pub count_dropped_on : (channel : ℕ) → DropCause → List ChannelCounts → List ChannelCounts
count_dropped_on channel why cs = change_channel channel (with_dropped why) cs

-- the channel of the part with this number, or 0 if it is not that of the last datagram
abbrev pub channel_under : (number : ℕ) → (channel : ℕ) → Option Header → ℕ
channel_under number channel None = 0
channel_under number channel (Some h) = if nat_eq h.number number then channel else 0

-- the counts of channels after a step of the safety machine for the part with this number: only a dropped one changes
-- them
abbrev pub count_step_on : Step → (number channel : ℕ) → Option Header → List ChannelCounts → List ChannelCounts
count_step_on (step.Dropped why) number channel h cs = count_dropped_on (channel_under number channel h) why cs
count_step_on step.Taken number channel h cs = cs
count_step_on step.Gap number channel h cs = cs
count_step_on step.Nothing number channel h cs = cs
count_step_on (step.Left reason detail) number channel h cs = cs

-- the parts that ended a connection, or came after its end, after a step of the safety machine
abbrev pub closing_count_after : Step → ℕ → ℕ
closing_count_after (step.Left reason detail) n = one_more n
closing_count_after step.Nothing n = one_more n
closing_count_after (step.Dropped why) n = n
closing_count_after step.Taken n = n
closing_count_after step.Gap n = n

-- all that is counted of an end: its own counts added to those of its earlier openings, those of its recorder, the
-- calls that failed on each channel, and the telegrams put and taken
abbrev pub run_counts_of : (earlier own : Statistics) → Recorder → List Failures → (put taken : ℕ) → RunCounts
run_counts_of earlier own r failures put taken =
    record {
      sums = plus earlier own;
      channels = r.channels;
      failures = failures;
      closing = r.closing;
      put = put;
      taken = taken;
    }

-- the PDUs that the safety machine did not drop: taken, with a gap before them, or at the end of a connection or after
-- it
abbrev pub accepted_count : RunCounts → ℕ
accepted_count c = sum (sum c.sums.parts.taken c.sums.parts.gaps) c.closing

-- the PDUs that it dropped, for any of the seven causes
abbrev pub dropped_count : RunCounts → ℕ
dropped_count c =
    let p = c.sums.parts in
    sum (sum (sum (sum (sum (sum (all_safe_faults p.damaged) p.strangers) p.unopened) p.far) p.unrequested) p.answered)
    p.below

-- the greatest age of a confirmed timestamp in milliseconds, if a PDU was taken
abbrev pub oldest : RunCounts → Option ℕ
oldest c = if nat_eq c.sums.parts.taken 0 then None else Some c.sums.parts.oldest

-- the calls that failed on the channel at a place, from 0
abbrev pub failures_in : RunCounts → (place : ℕ) → Failures
failures_in c place = slice_index_or c.failures place no_failures
