-- What was read of a recording.
use Rattle.capture_beside.specs.declared.counts.Content.{Content}
use Rattle.capture_beside.specs.declared.counts.Content.TheVariants.{Datagram, Strange, Other, Unread}
use Rattle.capture_beside.specs.declared.counts.Counts.{Counts}
use Rattle.capture_beside.specs.Sums.{one_more}

-- nothing was read
abbrev pub no_counts : Counts
no_counts = record { frames = 0; datagrams = 0; strange = 0; unreadable = 0 }

-- one more frame, by what it has
abbrev pub count_frame : Content → Counts → Counts
count_frame (Datagram arrival) c = record c { frames = one_more c.frames; datagrams = one_more c.datagrams }
count_frame Strange c = record c { frames = one_more c.frames; strange = one_more c.strange }
count_frame Other c = record c { frames = one_more c.frames }
count_frame (Unread fault) c = record c { frames = one_more c.frames; unreadable = one_more c.unreadable }
