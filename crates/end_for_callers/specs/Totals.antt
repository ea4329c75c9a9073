-- Sums of the counts of several openings, modulo 2^64.
use Rattle.std.specs.Prelude.{ℕ, max, Option, Some, None, List, [], ◌∷◌, slice_index_or}
use Rattle.stack_end.specs.declared.statistics.MadeCounts.{MadeCounts}
use Rattle.stack_end.specs.declared.statistics.PartCounts.{PartCounts}
use Rattle.stack_end.specs.declared.statistics.ReceptionCounts.{ReceptionCounts}
use Rattle.stack_end.specs.declared.statistics.RedFaultCounts.{RedFaultCounts}
use Rattle.stack_end.specs.declared.statistics.SafeFaultCounts.{SafeFaultCounts}
use Rattle.stack_end.specs.declared.statistics.Statistics.{Statistics}
use Rattle.stack_end.specs.Statistics.{no_part_counts, no_made_counts, no_reception_counts, sum}

-- the later of two times: the second, if there is one
abbrev pub later : Option ℕ → Option ℕ → Option ℕ
later first None = first
later first (Some time) = Some time

-- the damaged datagrams together, by fault
abbrev pub add_red_faults : RedFaultCounts → RedFaultCounts → RedFaultCounts
add_red_faults c d =
    record { short = sum c.short d.short; length = sum c.length d.length; reserve = sum c.reserve d.reserve }

-- the damaged parts together, by fault
abbrev pub add_safe_faults : SafeFaultCounts → SafeFaultCounts → SafeFaultCounts
add_safe_faults c d =
    record {
      short = sum c.short d.short;
      length = sum c.length d.length;
      code = sum c.code d.code;
      bad_type = sum c.bad_type d.bad_type;
      body = sum c.body d.body;
    }

-- the counts of a channel together
abbrev pub add_receptions : ReceptionCounts → ReceptionCounts → ReceptionCounts
add_receptions c d =
    record {
      received = sum c.received d.received;
      passed = sum c.passed d.passed;
      deferred = sum c.deferred d.deferred;
      old = sum c.old d.old;
      repeated = sum c.repeated d.repeated;
      far = sum c.far d.far;
      full = sum c.full d.full;
      damaged = add_red_faults c.damaged d.damaged;
      last = later c.last d.last;
    }

-- the counts of the channel at a place
abbrev pub counts_at : List ReceptionCounts → ℕ → ReceptionCounts
counts_at cs place = slice_index_or cs place no_reception_counts

-- those of the channel at a place together
abbrev pub receptions_at : List ReceptionCounts → List ReceptionCounts → ℕ → ReceptionCounts
receptions_at cs ds place = add_receptions (counts_at cs place) (counts_at ds place)

-- those of each of the four channels together
abbrev pub add_channels : List ReceptionCounts → List ReceptionCounts → List ReceptionCounts
add_channels cs ds = receptions_at cs ds 0 ∷ receptions_at cs ds 1 ∷ receptions_at cs ds 2 ∷ receptions_at cs ds 3 ∷ []

-- the counts of parts together: an age or a wait is the greater one
abbrev pub add_parts : PartCounts → PartCounts → PartCounts
add_parts c d =
    record {
      taken = sum c.taken d.taken;
      gaps = sum c.gaps d.gaps;
      damaged = add_safe_faults c.damaged d.damaged;
      strangers = sum c.strangers d.strangers;
      unopened = sum c.unopened d.unopened;
      far = sum c.far d.far;
      unrequested = sum c.unrequested d.unrequested;
      answered = sum c.answered d.answered;
      below = sum c.below d.below;
      oldest = max c.oldest d.oldest;
      longest_wait = max c.longest_wait d.longest_wait;
    }

-- the counts of PDUs made together
abbrev pub add_made : MadeCounts → MadeCounts → MadeCounts
add_made c d =
    record {
      units = sum c.units d.units;
      resent = sum c.resent d.resent;
      heartbeats = sum c.heartbeats d.heartbeats;
      requests = sum c.requests d.requests;
      answers = sum c.answers d.answers;
    }

-- of no opening
abbrev pub none : Statistics
none =
    record {
      channels = no_reception_counts ∷ no_reception_counts ∷ no_reception_counts ∷ no_reception_counts ∷ [];
      expired_deferrals = 0;
      parts = no_part_counts;
      made = no_made_counts;
      confirmed = 0;
    }

-- all counts together
abbrev pub plus : Statistics → Statistics → Statistics
plus s t =
    record {
      channels = add_channels s.channels t.channels;
      expired_deferrals = sum s.expired_deferrals t.expired_deferrals;
      parts = add_parts s.parts t.parts;
      made = add_made s.made t.made;
      confirmed = sum s.confirmed t.confirmed;
    }
