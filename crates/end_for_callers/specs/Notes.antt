-- The notes of an end that wait for the caller.
use Rattle.std.specs.Prelude.{ℕ, ◌==◌, ◌&&◌, Bool, false, not, nat_lt, Option, Some, None, List, [], ◌∷◌, ◌++◌, length, if◌then◌else◌}
use Rattle.channels.specs.ChannelHistory.{count_failure}
use Rattle.channels.specs.declared.note.Note.{Note}
use Rattle.channels.specs.declared.note.Note.TheVariants as note
use Rattle.end_for_callers.specs.declared.notes.StationNote.{StationNote}
use Rattle.end_for_callers.specs.declared.notes.StationNote.TheVariants as kept
use Rattle.end_for_callers.specs.declared.notes.TheConstants.{NOTES_MAX}

-- a note of an end, as it is kept: without the payload of a telegram
abbrev pub note_of : Note → StationNote
note_of (note.Redundancy number event) = kept.Datagram number event
note_of (note.Step number step) = kept.Part number step
note_of (note.Take kind payload) = kept.Take kind
note_of (note.State state) = kept.State state
note_of (note.Phase phase) = kept.Phase phase

-- the notes that wait
pub record NoteQueue : Type 0 where
  -- whether notes are kept
  pub hears : Bool
  -- the notes, the oldest first
  pub waiting : List StationNote
  -- how many had no room, modulo 2^64
  pub left_out : ℕ

-- notes are kept from now on, or no longer, and none waits
abbrev pub heard_anew : Bool → NoteQueue
heard_anew hears = record { hears = hears; waiting = []; left_out = 0 }

-- after a note: it waits behind the others if none had no room and fewer than 128 wait; otherwise it is counted
abbrev pub with_note : StationNote → NoteQueue → NoteQueue
with_note x q =
    if not q.hears then q
    else if (q.left_out == 0) && nat_lt (length q.waiting) NOTES_MAX then record q { waiting = q.waiting ++ x ∷ [] }
    else record q { left_out = count_failure false q.left_out }

-- the note that says how many had no room, if any
abbrev pub gap_of : ℕ → Option StationNote
gap_of count = if count == 0 then None else Some (kept.LeftOut count)

-- the oldest of these notes, or else the one that says how many had no room
abbrev pub first_of : List StationNote → ℕ → Option StationNote
first_of [] count = gap_of count
first_of (x ∷ xs) count = Some x

-- the note that is fetched next
abbrev pub next_of : NoteQueue → Option StationNote
next_of q = first_of q.waiting q.left_out

-- what is left after the first of these notes is fetched
abbrev pub left_after : NoteQueue → List StationNote → NoteQueue
left_after q [] = record q { left_out = 0 }
left_after q (x ∷ xs) = record q { waiting = xs }

-- what is left after a fetch
abbrev pub rest_of : NoteQueue → NoteQueue
rest_of q = left_after q q.waiting
