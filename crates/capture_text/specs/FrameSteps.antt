-- The step of a recording's frame, and what is printed of it.
use Rattle.std.specs.Prelude.{ℕ, ◌-◌, ◌≤◌, List, [], drop, take, if◌then◌else◌, Option, Some, None, Result, Ok, Err}
use Rattle.safe_pdu.specs.declared.CodeRule.{CodeRule}
use Rattle.capture.specs.declared.connections.Connection.{Connection}
use Rattle.capture.specs.declared.follower.Totals.{Totals}
use Rattle.capture.specs.declared.line.Record.{Record}
use Rattle.capture.specs.Datagrams.{datagram_of}
use Rattle.capture.specs.Numbers.{limited_sum}
use Rattle.capture.specs.WholeCapture.{connections_after, damaged_count_after, forgotten_count_after, forgotten_totals_after, miscoded_count_after, remark_of}
use Rattle.capture.specs.declared.frame.FoundDatagram.{FoundDatagram}
use Rattle.capture.specs.declared.frame.Link.{Link}
use Rattle.capture.specs.declared.frame.NoDatagramCause.{NoDatagramCause}
use Rattle.capture.specs.declared.frame.NoDatagramCause.TheVariants as passed
use Rattle.capture.specs.Frames.{datagram_in_frame}
use Rattle.capture_text.specs.Steps.{first_of, first_skipped, skip_reason, chosen_text}
use Rattle.capture_text.specs.declared.course.FollowOptions.{FollowOptions}
use Rattle.capture_text.specs.declared.frames.FrameFault.{FrameFault}
use Rattle.capture_text.specs.declared.frames.FrameFault.TheVariants.{Link as UnknownLink, Truncated, Fragment, Length}
use Rattle.capture_text.specs.declared.frames.FrameContent.{FrameContent}
use Rattle.capture_text.specs.declared.frames.SkipReason.{SkipReason}
use Rattle.capture_text.specs.declared.frames.SkipReason.TheVariants.{NoIp, NoUdp, Tunnel}
use Rattle.capture_text.specs.declared.frames.FrameContent.TheVariants.{Datagram, Other, Unread}

-- The record of a datagram that was found in a frame.
abbrev pub record_of_frame : ℕ → FoundDatagram → Record
record_of_frame time f =
    record { time = time; source = f.source; destination = f.destination; size = f.end - f.start }

-- A frame that is not UDP over IP is passed over; any other reason is a fault.
abbrev pub content_without_datagram : NoDatagramCause → FrameContent
content_without_datagram passed.NoIp = Other NoIp
content_without_datagram passed.NoUdp = Other NoUdp
content_without_datagram passed.Tunnel = Other Tunnel
content_without_datagram passed.Truncated = Unread Truncated
content_without_datagram passed.Fragment = Unread Fragment
content_without_datagram passed.Length = Unread Length

-- A datagram, or why it is passed over.
abbrev pub content_if : Option SkipReason → Record → ℕ → ℕ → FrameContent
content_if None r start end = Datagram r start end
content_if (Some why) r start end = Other why

-- A datagram that is not followed is passed over, too.
abbrev pub chosen_content : FollowOptions → Option ℕ → Record → ℕ → ℕ → FrameContent
chosen_content a first r start end = content_if (skip_reason a first r) r start end

-- The datagram that was found, or the reason for none.
abbrev pub found_content : FollowOptions → Option ℕ → ℕ → Result FoundDatagram NoDatagramCause → FrameContent
found_content a first time (Ok f) = chosen_content a first (record_of_frame time f) f.start f.end
found_content a first time (Err why) = content_without_datagram why

-- The datagram of a frame, if there is one that is followed.
abbrev pub frame_content : FollowOptions → Option ℕ → Option Link → ℕ → List ℕ → FrameContent
frame_content a first None time octets = Unread UnknownLink
frame_content a first (Some link) time octets = found_content a first time (datagram_in_frame link octets)

-- A payload is within this many bytes.
abbrev pub IsWithin : ℕ → FrameContent → Type 0
IsWithin size (Datagram r start end) = (start ≤ end) × (end ≤ size)
IsWithin size (Other why) = Unit {0}
IsWithin size (Unread fault) = Unit {0}

-- The bytes of a payload in its frame.
abbrev pub payload_at : ℕ → ℕ → List ℕ → List ℕ
payload_at start end octets = take (end - start) (drop start octets)

-- The connections after a frame.
abbrev pub connections_after_frame : CodeRule → List Connection → ℕ → List ℕ → FrameContent → List Connection
connections_after_frame rule cs number octets (Datagram r start end) =
    connections_after cs number r (datagram_of rule (payload_at start end octets))
connections_after_frame rule cs number octets (Other why) = cs
connections_after_frame rule cs number octets (Unread fault) = cs

-- The count of datagrams after a frame; only one that is followed is counted.
abbrev pub datagrams_after_frame : ℕ → FrameContent → ℕ
datagrams_after_frame datagrams (Datagram r start end) = limited_sum datagrams 1
datagrams_after_frame datagrams (Other why) = datagrams
datagrams_after_frame datagrams (Unread fault) = datagrams

-- The count of damaged datagrams after a frame.
abbrev pub damaged_count_after_frame : CodeRule → ℕ → List ℕ → FrameContent → ℕ
damaged_count_after_frame rule damaged octets (Datagram r start end) =
    damaged_count_after damaged (datagram_of rule (payload_at start end octets))
damaged_count_after_frame rule damaged octets (Other why) = damaged
damaged_count_after_frame rule damaged octets (Unread fault) = damaged

-- The count of datagrams with a wrong safety code after a frame.
abbrev pub miscoded_count_after_frame : CodeRule → Option ℕ → List ℕ → FrameContent → Option ℕ
miscoded_count_after_frame rule miscoded octets (Datagram r start end) =
    miscoded_count_after miscoded (datagram_of rule (payload_at start end octets))
miscoded_count_after_frame rule miscoded octets (Other why) = miscoded
miscoded_count_after_frame rule miscoded octets (Unread fault) = miscoded

-- The sums of forgotten connections after a frame.
abbrev pub forgotten_totals_after_frame : CodeRule → Totals → List Connection → List ℕ → FrameContent → Totals
forgotten_totals_after_frame rule gone cs octets (Datagram r start end) =
    forgotten_totals_after gone cs r (datagram_of rule (payload_at start end octets))
forgotten_totals_after_frame rule gone cs octets (Other why) = gone
forgotten_totals_after_frame rule gone cs octets (Unread fault) = gone

-- The count of forgotten connections after a frame.
abbrev pub forgotten_count_after_frame : CodeRule → ℕ → List Connection → List ℕ → FrameContent → ℕ
forgotten_count_after_frame rule forgotten cs octets (Datagram r start end) =
    forgotten_count_after forgotten cs r (datagram_of rule (payload_at start end octets))
forgotten_count_after_frame rule forgotten cs octets (Other why) = forgotten
forgotten_count_after_frame rule forgotten cs octets (Unread fault) = forgotten

-- What is printed of a frame.
abbrev pub content_text : FollowOptions → Option ℕ → List Connection → ℕ → List ℕ → FrameContent → List ℕ
content_text a first cs number octets (Datagram r start end) =
    chosen_text a (first_of first r.time) number r
    (remark_of cs number r (datagram_of a.rule (payload_at start end octets)))
    (payload_at start end octets)
content_text a first cs number octets (Other why) = []
content_text a first cs number octets (Unread fault) = []

-- The fault of a frame that is not read.
abbrev pub fault_of_frame : FrameContent → Option FrameFault
fault_of_frame (Datagram r start end) = None
fault_of_frame (Other why) = None
fault_of_frame (Unread fault) = Some fault

-- The count of unreadable frames after a frame.
abbrev pub unreadable_count_after_frame : ℕ → FrameContent → ℕ
unreadable_count_after_frame unreadable (Datagram r start end) = unreadable
unreadable_count_after_frame unreadable (Other why) = unreadable
unreadable_count_after_frame unreadable (Unread fault) = limited_sum unreadable 1

-- The time of the first datagram after a frame.
abbrev pub first_time_after_frame : Option ℕ → FrameContent → Option ℕ
first_time_after_frame first (Datagram r start end) = Some (first_of first r.time)
first_time_after_frame first (Other why) = first_skipped first why
first_time_after_frame first (Unread fault) = first

-- The time of the last datagram after a frame.
abbrev pub latest_time_after_frame : ℕ → FrameContent → ℕ
latest_time_after_frame latest (Datagram r start end) = r.time
latest_time_after_frame latest (Other why) = latest
latest_time_after_frame latest (Unread fault) = latest
