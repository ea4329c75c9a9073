-- The frames and lines of which no datagram is followed, counted by kind, and their texts.
use Rattle.std.specs.Prelude.{ℕ, ◌&&◌, Bool, nat_eq, List, [], ◌∷◌, ◌++◌, codes, if◌then◌else◌, Result, Ok, Err}
use Rattle.std.specs.Fmt.{decimal}
use Rattle.capture.specs.declared.datagram.DecodedDatagram.{DecodedDatagram}
use Rattle.capture.specs.declared.line.Record.{Record}
use Rattle.capture.specs.Numbers.{limited_sum}
use Rattle.capture_text.specs.declared.course.SkipCause.{SkipCause}
use Rattle.capture_text.specs.declared.course.SkipCause.TheVariants.{Fault, Chosen}
use Rattle.capture_text.specs.declared.frames.FrameFault.{FrameFault}
use Rattle.capture_text.specs.declared.frames.FrameFault.TheVariants.{Link, Truncated, Fragment, Length}
use Rattle.capture_text.specs.declared.frames.FrameContent.{FrameContent}
use Rattle.capture_text.specs.declared.frames.FrameContent.TheVariants.{Datagram, Other, Unread}
use Rattle.capture_text.specs.declared.frames.SkipReason.{SkipReason}
use Rattle.capture_text.specs.declared.frames.SkipReason.TheVariants.{Port, Time, NoIp, NoUdp, Tunnel}
use Rattle.capture_text.specs.declared.skips.SkipCounts.{SkipCounts}
use Rattle.pdu_text.specs.Lines.{join_pieces}

-- Nothing was passed over.
abbrev pub no_skips : SkipCounts
no_skips =
    record {
      ports = 0;
      times = 0;
      no_ip = 0;
      no_udp = 0;
      tunnels = 0;
      fragments = 0;
      truncated = 0;
      lengths = 0;
      links = 0;
    }

-- The counts with one more that has no fault.
abbrev pub count_skip_reason : SkipCounts → SkipReason → SkipCounts
count_skip_reason p Port = record p { ports = limited_sum p.ports 1 }
count_skip_reason p (Time time) = record p { times = limited_sum p.times 1 }
count_skip_reason p NoIp = record p { no_ip = limited_sum p.no_ip 1 }
count_skip_reason p NoUdp = record p { no_udp = limited_sum p.no_udp 1 }
count_skip_reason p Tunnel = record p { tunnels = limited_sum p.tunnels 1 }

-- The counts with one more frame that is not read.
abbrev pub count_frame_fault : SkipCounts → FrameFault → SkipCounts
count_frame_fault p Link = record p { links = limited_sum p.links 1 }
count_frame_fault p Truncated = record p { truncated = limited_sum p.truncated 1 }
count_frame_fault p Fragment = record p { fragments = limited_sum p.fragments 1 }
count_frame_fault p Length = record p { lengths = limited_sum p.lengths 1 }

-- The counts after a frame.
abbrev pub count_frame_skip : SkipCounts → FrameContent → SkipCounts
count_frame_skip p (Datagram r start end) = p
count_frame_skip p (Other why) = count_skip_reason p why
count_frame_skip p (Unread fault) = count_frame_fault p fault

-- The counts after a line; one that is not a datagram is only unreadable.
abbrev pub count_line_skip : SkipCounts → Result (Record × DecodedDatagram) SkipCause → SkipCounts
count_line_skip p (Ok h) = p
count_line_skip p (Err (Fault fault)) = p
count_line_skip p (Err (Chosen why)) = count_skip_reason p why

-- All counts are 0.
abbrev pub is_all_zero : SkipCounts → Bool
is_all_zero p =
    nat_eq p.ports 0 && nat_eq p.times 0 && nat_eq p.no_ip 0 && nat_eq p.no_udp 0 && nat_eq p.tunnels 0
    && nat_eq p.fragments 0
    && nat_eq p.truncated 0 && nat_eq p.lengths 0 && nat_eq p.links 0

-- What has no fault: other ports, other times, frames without IP, packets without UDP, tunnels.
unfoldable pub rest_text : SkipCounts → List ℕ
rest_text p =
    join_pieces
    (codes "sum passed over: other ports " ∷ decimal p.ports ∷ codes " other times " ∷ decimal p.times ∷
    codes " no IP " ∷ decimal p.no_ip ∷ codes " no UDP " ∷ decimal p.no_udp
    ∷ codes " tunnels " ∷ decimal p.tunnels ∷ [])

-- What is not read: fragments, truncated frames, wrong lengths, unknown link headers.
unfoldable pub unread_text : SkipCounts → List ℕ
unread_text p =
    join_pieces
    (codes " fragments " ∷ decimal p.fragments ∷ codes " truncated " ∷ decimal p.truncated ∷ codes " lengths " ∷
    decimal p.lengths
    ∷ codes " links " ∷ decimal p.links ∷ codes "\n" ∷ [])

-- The line of all counts.
unfoldable pub skips_text : SkipCounts → List ℕ
skips_text p = rest_text p ++ unread_text p

-- The line of all counts, if something was passed over.
abbrev pub skips_lines : SkipCounts → List ℕ
skips_lines p = if is_all_zero p then [] else skips_text p

-- What has no fault, as members.
unfoldable pub rest_json : SkipCounts → List ℕ
rest_json p =
    join_pieces
    (codes "{\"ports\":" ∷ decimal p.ports ∷ codes ",\"times\":" ∷ decimal p.times ∷ codes ",\"no_ip\":" ∷
    decimal p.no_ip ∷ codes ",\"no_udp\":" ∷ decimal p.no_udp
    ∷ codes ",\"tunnels\":" ∷ decimal p.tunnels ∷ [])

-- What is not read, as members.
unfoldable pub unread_json : SkipCounts → List ℕ
unread_json p =
    join_pieces
    (codes ",\"fragments\":" ∷ decimal p.fragments ∷ codes ",\"truncated\":" ∷ decimal p.truncated ∷
    codes ",\"lengths\":"
    ∷ decimal p.lengths ∷ codes ",\"links\":" ∷ decimal p.links ∷ codes "}" ∷ [])

-- The member of all counts.
unfoldable pub skips_json : SkipCounts → List ℕ
skips_json p = codes ",\"passed\":" ++ rest_json p ++ unread_json p
