-- When the calls of a channel are logged as failing, and as succeeding again.
use Rattle.std.specs.Prelude.{ℕ, ◌+◌, ◌-◌, nat_eq, nat_le, nat_lt, not, ◌&&◌, Bool, true, false, List, [], ◌∷◌, slice_index_or, slice_set, Option, Some, None, ℤ, if◌then◌else◌}
use Rattle.std.specs.Option.{option_map_or}
use Rattle.rasta_run.specs.Counters.{failures_in, no_datagrams}
use Rattle.rasta_run.specs.declared.counts.RunCounts.{RunCounts}
use Rattle.rasta_run.specs.declared.notices.Notice.{Notice}
use Rattle.rasta_run.specs.declared.notices.Notice.TheVariants.{CallsFail, CallsSucceed}
use Rattle.rasta_run.specs.declared.channel_failures.Call.{Call}
use Rattle.rasta_run.specs.declared.channel_failures.Call.TheVariants as call
use Rattle.rasta_run.specs.declared.channel_failures.CallFailures.{CallFailures}
use Rattle.udp_channels.specs.Sockets.{ChannelState, failures_of, no_failures}
use Rattle.udp_channels.specs.declared.sockets.CallFault.{CallFault}
use Rattle.udp_channels.specs.declared.sockets.FailedCalls.{FailedCalls}
use Rattle.udp_channels.specs.declared.sockets.Failures.{Failures}

-- the failures of the channel of a number, from 1; none, if there is no such channel
abbrev pub failures_at : {S : Type 0} → List (ChannelState S) → ℕ → Failures
failures_at channels channel = option_map_or (λ f. f) (failures_of channel channels) no_failures

-- the failures of the four channels that an end may have
abbrev pub all_failures : {S : Type 0} → List (ChannelState S) → List Failures
all_failures channels =
    failures_at channels 1 ∷ failures_at channels 2 ∷ failures_at channels 3 ∷ failures_at channels 4 ∷ []

-- no call has succeeded or failed
abbrev pub new_failures : ℕ → CallFailures
new_failures at = record { done = None; failed = 0; at = at; before = 0; is_failing = false }

-- a call was made since this many had succeeded: each turn makes one, or the number is another
abbrev pub is_tried : (done before : Option ℕ) → Bool
is_tried None before = true
is_tried (Some done) None = true
is_tried (Some done) (Some before) = not (nat_eq done before)

-- calls no longer fail: one was tried, and none has failed for longer than T_max
abbrev pub has_recovered : CallFailures → (done : Option ℕ) → (now t_max : ℕ) → Bool
has_recovered s done now t_max = s.is_failing && (is_tried done s.done && nat_lt t_max (now - s.at))

-- the number of calls that had failed before these began to fail
abbrev pub failed_count_before : CallFailures → ℕ
failed_count_before s = if s.is_failing then s.before else s.failed

-- the calls of a channel after a look at how many succeeded and how many failed: one more has failed, or they no longer
-- fail, or neither
abbrev pub look_at_calls : CallFailures → (done : Option ℕ) → (failed now t_max : ℕ) → CallFailures
look_at_calls s done failed now t_max =
    if nat_eq failed s.failed
    then (if has_recovered s done now t_max then record s { is_failing = false } else s)
    else record { done = done; failed = failed; at = now; before = failed_count_before s; is_failing = true }

-- the system's number for a failure, if it gave one
abbrev pub number_of : Option CallFault → Option ℤ
number_of None = None
number_of (Some fault) = fault.error

-- the notice of calls that begin to fail, or that succeed again after this many that failed
abbrev pub change_notice : (was is : Bool) → Call → (channel failed : ℕ) → Option CallFault → Option Notice
change_notice false true kind channel failed last = Some (CallsFail kind channel (number_of last))
change_notice true false kind channel failed last = Some (CallsSucceed kind channel failed)
change_notice true true kind channel failed last = None
change_notice false false kind channel failed last = None

-- the notice of a channel, from 1, after a look
abbrev pub notice_of : CallFailures → CallFailures → Call → (channel : ℕ) → Option CallFault → Option Notice
notice_of s t kind channel last = change_notice s.is_failing t.is_failing kind channel (t.failed - t.before) last

-- how many calls succeeded on the channel at a place; an end asks each channel in every turn
abbrev pub success_count_at : Call → RunCounts → (place : ℕ) → Option ℕ
success_count_at call.Send c place = Some (slice_index_or c.channels place no_datagrams).sent
success_count_at call.Receive c place = None

-- the calls that failed on the channel at a place
abbrev pub failed_calls_at : Call → RunCounts → (place : ℕ) → FailedCalls
failed_calls_at call.Send c place = (failures_in c place).sends
failed_calls_at call.Receive c place = (failures_in c place).receives

-- the calls of the channel at a place after a look at what is counted
abbrev pub calls_now : Call → List CallFailures → RunCounts → (place now t_max : ℕ) → CallFailures
calls_now kind fs c place now t_max =
    look_at_calls (slice_index_or fs place (new_failures 0)) (success_count_at kind c place)
    (failed_calls_at kind c place).count now t_max

-- the calls of the channels after a look at the one at a place, from 0, if the end has it
abbrev pub calls_at : Call → RunCounts → (count now t_max place : ℕ) → List CallFailures → List CallFailures
calls_at kind c count now t_max place fs =
    if nat_le count place then fs else slice_set fs place (calls_now kind fs c place now t_max)

-- the calls of the channels after a look at all of them
abbrev pub all_calls : Call → RunCounts → (count now t_max : ℕ) → List CallFailures → List CallFailures
all_calls kind c count now t_max fs =
    calls_at kind c count now t_max 3 (calls_at kind c count now t_max 2
    (calls_at kind c count now t_max 1 (calls_at kind c count now t_max 0 fs)))

-- the notice of the channel at a place, from 0, if the end has it
abbrev pub notice_at : Call → List CallFailures → RunCounts → (count now t_max place : ℕ) → Option Notice
notice_at kind fs c count now t_max place =
    if nat_le count place then None
    else notice_of (slice_index_or fs place (new_failures 0)) (calls_now kind fs c place now t_max) kind (place + 1)
    (failed_calls_at kind c place).last
