-- The counts of an end in numbers.
use Rattle.std.specs.Prelude.{ℕ, ◌-◌, ◌^◌, List, map, Option, Some, None}
use Rattle.stack_end.specs.declared.statistics.ReceptionCounts.{ReceptionCounts}
use Rattle.stack_end.specs.Statistics.{all_red_faults, all_safe_faults}
use Rattle.stack_end.specs.declared.statistics.RedFaultCounts.{RedFaultCounts}
use Rattle.stack_end.specs.declared.statistics.SafeFaultCounts.{SafeFaultCounts}
use Rattle.stack_end.specs.declared.statistics.Statistics.{Statistics}
use Rattle.bekwidas.specs.declared.statistics.PlainReceptions.{PlainReceptions}
use Rattle.bekwidas.specs.declared.statistics.PlainRedFaults.{PlainRedFaults}
use Rattle.bekwidas.specs.declared.statistics.PlainSafeFaults.{PlainSafeFaults}
use Rattle.bekwidas.specs.declared.statistics.PlainStatistics.{PlainStatistics}

-- a time, or 2^64 - 1 for none
abbrev pub time_or_none : Option ℕ → ℕ
time_or_none (Some time) = time
time_or_none None = 2 ^ 64 - 1

-- the counts of a channel
abbrev pub receptions_of : ReceptionCounts → PlainReceptions
receptions_of c =
    record {
      received = c.received;
      passed = c.passed;
      deferred = c.deferred;
      old = c.old;
      repeated = c.repeated;
      far = c.far;
      full = c.full;
      damaged = all_red_faults c.damaged;
      last = time_or_none c.last;
    }

-- the damaged datagrams of a channel, by fault
abbrev pub red_faults_of : RedFaultCounts → PlainRedFaults
red_faults_of c = record { short = c.short; length = c.length; reserve = c.reserve }

-- the damaged parts, by fault
abbrev pub safe_faults_of : SafeFaultCounts → PlainSafeFaults
safe_faults_of c = record { short = c.short; length = c.length; code = c.code; bad_type = c.bad_type; body = c.body }

-- all counts, the channels in order
abbrev pub statistics_in : Statistics → PlainStatistics
statistics_in s =
    record {
      channels = map receptions_of s.channels;
      taken = s.parts.taken;
      gaps = s.parts.gaps;
      damaged = all_safe_faults s.parts.damaged;
      strangers = s.parts.strangers;
      unopened = s.parts.unopened;
      far = s.parts.far;
      unrequested = s.parts.unrequested;
      answered = s.parts.answered;
      below = s.parts.below;
      oldest = s.parts.oldest;
      longest_wait = s.parts.longest_wait;
      units = s.made.units;
      resent = s.made.resent;
      heartbeats = s.made.heartbeats;
      requests = s.made.requests;
      answers = s.made.answers;
      confirmed = s.confirmed;
      expired_deferrals = s.expired_deferrals;
      channel_faults = map (λ c. red_faults_of c.damaged) s.channels;
      part_faults = safe_faults_of s.parts.damaged;
    }
