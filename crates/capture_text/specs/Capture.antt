-- A whole capture: its state after lines and frames, and what is printed.
use Rattle.std.specs.Prelude.{ℕ, Bool, false, nat_eq, List, [], ◌∷◌, ◌++◌, codes, if◌then◌else◌, Option, Some, None, Result, Ok, Err}
use Rattle.capture.specs.declared.connections.Connection.{Connection}
use Rattle.capture.specs.declared.file.BlockContent.{BlockContent}
use Rattle.capture.specs.declared.file.BlockContent.TheVariants as content
use Rattle.capture.specs.declared.file.FileFault.{FileFault}
use Rattle.capture.specs.declared.file.FilePart.{FilePart}
use Rattle.capture.specs.declared.file.FilePart.TheVariants as part
use Rattle.capture.specs.declared.follower.Remark.{Remark}
use Rattle.capture.specs.declared.follower.Totals.{Totals}
use Rattle.capture.specs.declared.frame.Link.{Link}
use Rattle.capture.specs.declared.line.LineFault.{LineFault}
use Rattle.capture.specs.declared.line.LineFault.TheVariants.{Long}
use Rattle.capture.specs.declared.line.Record.{Record}
use Rattle.capture.specs.Lines.{line_of}
use Rattle.capture.specs.Numbers.{limited_sum}
use Rattle.capture_text.specs.declared.course.FollowOptions.{FollowOptions}
use Rattle.capture_text.specs.declared.course.CaptureReading.{CaptureReading}
use Rattle.capture_text.specs.declared.course.SkipCause.{SkipCause}
use Rattle.capture_text.specs.declared.frames.FrameFault.{FrameFault}
use Rattle.capture_text.specs.declared.frames.FrameContent.{FrameContent}
use Rattle.capture_text.specs.declared.skips.SkipCounts.{SkipCounts}
use Rattle.capture_text.specs.FaultText.{fault_text, file_fault_word, frame_text, recording_text}
use Rattle.capture_text.specs.FrameSteps.{connections_after_frame, damaged_count_after_frame, datagrams_after_frame, fault_of_frame, first_time_after_frame, forgotten_count_after_frame, frame_content, forgotten_totals_after_frame, latest_time_after_frame, miscoded_count_after_frame, payload_at, content_text, unreadable_count_after_frame}
use Rattle.capture_text.specs.Lines.{is_long}
use Rattle.capture_text.specs.Skips.{count_line_skip, count_frame_skip}
use Rattle.capture_text.specs.Steps.{connections_after_line, counts_of, course_text, damaged_count_after_line, datagrams_after_line, due_next, due_text, fault_in, fault_lines, first_time_after_line, forgotten_count_after_line, line_remark, line_text, forgotten_totals_after_line, line_datagram, is_due, latest_time_after_line, miscoded_count_after_line, payload_in, unreadable_count_after_line, without_end}

-- The state of a capture that is being read.
pub record CaptureState : Type 0 where
  pub lines : ℕ  -- lines that were read
  pub first : Option ℕ  -- the time of the first datagram
  pub unreadable : ℕ  -- lines that were not a datagram
  pub connections : List Connection  -- the last one has the latest PDU
  pub datagrams : ℕ
  pub gone : Totals  -- sums over the connections that were forgotten
  pub damaged : ℕ  -- datagrams that are not a PDU
  pub miscoded : Option ℕ  -- datagrams with another safety code; none once one has the right code
  pub forgotten : ℕ  -- connections that were forgotten
  pub passed : SkipCounts  -- frames and lines that were passed over, by kind
  pub latest : ℕ  -- the time of the last datagram that was followed
  pub due : Option ℕ  -- when sums are due

-- The state that a course has.
abbrev pub state_of : CaptureReading → CaptureState
state_of c =
    record {
      lines = c.lines;
      first = c.first;
      unreadable = c.unreadable;
      connections = c.following.connections;
      datagrams = c.following.datagrams;
      gone = c.following.gone;
      damaged = c.following.damaged;
      miscoded = c.following.miscoded;
      forgotten = c.following.forgotten;
      passed = c.passed;
      latest = c.latest;
      due = c.due;
    }

-- The remark on the text of the next line.
abbrev pub next_remark : FollowOptions → CaptureState → List ℕ → Result (Record × Remark) SkipCause
next_remark a r text = line_remark r.connections (limited_sum r.lines 1) (line_datagram a r.first (line_of text))

-- The state after the text of a line.
abbrev pub with_text : FollowOptions → CaptureState → List ℕ → CaptureState
with_text a r text =
    record {
      lines = limited_sum r.lines 1;
      first = first_time_after_line r.first (next_remark a r text);
      unreadable = unreadable_count_after_line r.unreadable (next_remark a r text);
      connections =
          connections_after_line r.connections (limited_sum r.lines 1) (line_datagram a r.first (line_of text));
      datagrams = datagrams_after_line r.datagrams (line_datagram a r.first (line_of text));
      gone = forgotten_totals_after_line r.gone r.connections (line_datagram a r.first (line_of text));
      damaged = damaged_count_after_line r.damaged (line_datagram a r.first (line_of text));
      miscoded = miscoded_count_after_line r.miscoded (line_datagram a r.first (line_of text));
      forgotten = forgotten_count_after_line r.forgotten r.connections (line_datagram a r.first (line_of text));
      passed = count_line_skip r.passed (line_datagram a r.first (line_of text));
      latest = latest_time_after_line r.latest (next_remark a r text);
      due = r.due;
    }

-- The state after a line that is too long.
abbrev pub with_long : CaptureState → CaptureState
with_long r = record r { lines = limited_sum r.lines 1; unreadable = limited_sum r.unreadable 1 }

-- The state after a line that was read.
abbrev pub with_read : FollowOptions → CaptureState → List ℕ → CaptureState
with_read a r line = if is_long line then with_long r else with_text a r (without_end line)

-- The state after the sums, if they were due.
abbrev pub with_sums : FollowOptions → CaptureState → CaptureState
with_sums a r = record r { due = due_next a.every r.due r.first r.latest }

-- The sums, if they are due.
abbrev pub sums_printed : FollowOptions → CaptureState → List ℕ
sums_printed a r =
    due_text (is_due r.due r.latest)
    (course_text a r.first r.gone r.connections
    (counts_of r.datagrams r.damaged r.forgotten r.unreadable r.lines r.passed))

-- The state after a line and the sums.
abbrev pub with_line : FollowOptions → CaptureState → List ℕ → CaptureState
with_line a r line = with_sums a (with_read a r line)

-- What is printed of the text of a line.
abbrev pub text_printed : FollowOptions → CaptureState → List ℕ → List ℕ
text_printed a r text = line_text a r.first (limited_sum r.lines 1) (payload_in (line_of text)) (next_remark a r text)

-- The fault that is reported of the text of a line.
abbrev pub text_fault : FollowOptions → CaptureState → List ℕ → List ℕ
text_fault a r text = fault_lines (limited_sum r.lines 1) (fault_in (next_remark a r text))

-- What is printed of a line that was read.
abbrev pub readable_line_printed : FollowOptions → CaptureState → List ℕ → List ℕ
readable_line_printed a r line = if is_long line then [] else text_printed a r (without_end line)

-- What is printed of a line, and the sums after it.
abbrev pub line_printed : FollowOptions → CaptureState → List ℕ → List ℕ
line_printed a r line = readable_line_printed a r line ++ sums_printed a (with_read a r line)

-- The fault that is reported of a line.
abbrev pub line_fault : FollowOptions → CaptureState → List ℕ → List ℕ
line_fault a r line =
    if is_long line then fault_text (limited_sum r.lines 1) Long else text_fault a r (without_end line)

-- The state after all lines.
abbrev pub with_lines : FollowOptions → CaptureState → List (List ℕ) → CaptureState
with_lines a r [] = r
with_lines a r (line ∷ lines) = with_lines a (with_line a r line) lines

-- What is printed of all lines.
abbrev pub lines_printed : FollowOptions → CaptureState → List (List ℕ) → List ℕ
lines_printed a r [] = []
lines_printed a r (line ∷ lines) = line_printed a r line ++ lines_printed a (with_line a r line) lines

-- The faults that are reported of all lines.
abbrev pub lines_faults : FollowOptions → CaptureState → List (List ℕ) → List ℕ
lines_faults a r [] = []
lines_faults a r (line ∷ lines) = line_fault a r line ++ lines_faults a (with_line a r line) lines

-- The state after a frame with this datagram.
abbrev pub with_seen : FollowOptions → CaptureState → List ℕ → FrameContent → CaptureState
with_seen a r octets seen =
    record {
      lines = limited_sum r.lines 1;
      first = first_time_after_frame r.first seen;
      unreadable = unreadable_count_after_frame r.unreadable seen;
      connections = connections_after_frame a.rule r.connections (limited_sum r.lines 1) octets seen;
      datagrams = datagrams_after_frame r.datagrams seen;
      gone = forgotten_totals_after_frame a.rule r.gone r.connections octets seen;
      damaged = damaged_count_after_frame a.rule r.damaged octets seen;
      miscoded = miscoded_count_after_frame a.rule r.miscoded octets seen;
      forgotten = forgotten_count_after_frame a.rule r.forgotten r.connections octets seen;
      passed = count_frame_skip r.passed seen;
      latest = latest_time_after_frame r.latest seen;
      due = r.due;
    }

-- The state after a frame.
abbrev pub with_frame : FollowOptions → CaptureState → Option Link → ℕ → List ℕ → CaptureState
with_frame a r link time octets = with_seen a r octets (frame_content a r.first link time octets)

-- What is printed of a frame.
abbrev pub frame_printed : FollowOptions → CaptureState → Option Link → ℕ → List ℕ → List ℕ
frame_printed a r link time octets =
    content_text a r.first r.connections (limited_sum r.lines 1) octets (frame_content a r.first link time octets)

-- The line of a frame's fault, if it has one.
abbrev pub frame_fault_text : ℕ → Option FrameFault → List ℕ
frame_fault_text number None = []
frame_fault_text number (Some fault) = frame_text number fault

-- The fault that is reported of a frame.
abbrev pub frame_fault : FollowOptions → CaptureState → Option Link → ℕ → List ℕ → List ℕ
frame_fault a r link time octets =
    frame_fault_text (limited_sum r.lines 1) (fault_of_frame (frame_content a r.first link time octets))

-- The state after a recording that cannot go on: what was read stays, and one more is unreadable.
abbrev pub break_off : CaptureState → CaptureState
break_off r = record r { unreadable = limited_sum r.unreadable 1 }

-- A recording is whole if of the next record or block no byte came; in any other part it breaks off.
abbrev pub is_whole_at : FilePart → ℕ → Bool
is_whole_at (part.Record form link) size = nat_eq size 0
is_whole_at (part.Block big) size = nat_eq size 0
is_whole_at part.Start size = false
is_whole_at (part.Head form) size = false
is_whole_at (part.Body form link time captured whole) size = false
is_whole_at part.Section size = false
is_whole_at (part.Order octets) size = false
is_whole_at (part.Opening big whole) size = false
is_whole_at (part.Rest big kind whole) size = false
is_whole_at (part.Skipped big left whole) size = false

-- The state after the end of a recording, of whose next part this many bytes came.
abbrev pub end_at : FilePart → ℕ → CaptureState → CaptureState
end_at p size r = if is_whole_at p size then r else break_off r

-- What is reported at the end of a recording.
abbrev pub end_fault : FilePart → ℕ → CaptureState → List ℕ
end_fault p size r = if is_whole_at p size then [] else recording_text r.lines (codes "it ends within a block")

-- What is printed of a frame, and the sums after it.
abbrev pub frame_and_sums_printed : FollowOptions → CaptureState → Option Link → ℕ → List ℕ → List ℕ
frame_and_sums_printed a r link time octets =
    frame_printed a r link time octets ++ sums_printed a (with_frame a r link time octets)

-- The state after a block: after its frame and the sums, or after its fault.
abbrev pub with_block : FollowOptions → CaptureState → List ℕ → Result BlockContent FileFault → CaptureState
with_block a r octets (Ok (content.Frame f)) =
    with_sums a (with_frame a r f.link f.time (payload_at f.start f.end octets))
with_block a r octets (Ok content.Nothing) = r
with_block a r octets (Ok content.Text) = r
with_block a r octets (Err fault) = break_off r

-- What is printed of a block: of its frame, and the sums if they are due.
abbrev pub block_printed : FollowOptions → CaptureState → List ℕ → Result BlockContent FileFault → List ℕ
block_printed a r octets (Ok (content.Frame f)) =
    frame_and_sums_printed a r f.link f.time (payload_at f.start f.end octets)
block_printed a r octets (Ok content.Nothing) = []
block_printed a r octets (Ok content.Text) = []
block_printed a r octets (Err fault) = []

-- The fault that is reported of a block: that of its frame, or its own.
abbrev pub block_fault : FollowOptions → CaptureState → List ℕ → Result BlockContent FileFault → List ℕ
block_fault a r octets (Ok (content.Frame f)) = frame_fault a r f.link f.time (payload_at f.start f.end octets)
block_fault a r octets (Ok content.Nothing) = []
block_fault a r octets (Ok content.Text) = []
block_fault a r octets (Err fault) = recording_text r.lines (file_fault_word fault)
