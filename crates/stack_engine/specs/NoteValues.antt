-- The notes of an event, as a caller sees them.
use Rattle.std.specs.Prelude.{◌≡◌, ℕ, ◌+◌, ◌-◌, Option, Some, None, option_map, option_and_then, List, map, length, slice_get}
use Rattle.pdi_session.specs.SessionStep.{Item}
use Rattle.channels.specs.declared.note.Note.TheVariants as note
use Rattle.stack_end.specs.Ends.{EndState}
use Rattle.stack_engine.specs.declared.notes.KeptNote.{KeptNote}
use Rattle.stack_engine.specs.declared.notes.KeptNote.TheVariants as kept
use Rattle.stack_engine.specs.declared.notes.NoteView.{NoteView}
use Rattle.stack_engine.specs.declared.notes.NoteView.TheVariants as view
use Rattle.stack_engine.specs.declared.notes.Notes.{Notes}
use Rattle.stack_engine.specs.Incarnations.{datagrams_of}

-- a note with the bytes that it is about
pub data NoteValue : Type 0 where
  Made : List ℕ → NoteValue  -- a PDU was made: its datagram
  Took : Item → NoteValue  -- the application took this telegram
  Other : KeptNote → NoteValue  -- all else

-- a kept note with its bytes: the datagram or telegram at its place, if there is one
abbrev pub note_of : {T : Type 0} → List (T × List ℕ) → List Item → KeptNote → Option NoteValue
note_of datagrams taken (kept.Made place) = option_map (λ t. Made t.1) (slice_get datagrams place)
note_of datagrams taken (kept.Take place) = option_map Took (slice_get taken place)
note_of datagrams taken n = Some (Other n)

-- a note of the code, without its place in memory
abbrev pub seen_note : NoteView → NoteValue
seen_note (view.Made datagram) = Made datagram.now
seen_note (view.Note (note.Redundancy number event)) = Other (kept.Redundancy number event)
seen_note (view.Note (note.Step number step)) = Other (kept.Step number step)
seen_note (view.Note (note.Take kind payload)) = Took (kind, payload.now)
seen_note (view.Note (note.State state)) = Other (kept.State state)
seen_note (view.Note (note.Phase phase)) = Other (kept.Phase phase)

-- how many notes there are: those after the earlier ones
abbrev pub notes_in : {A : Type 0} → Notes A → ℕ
notes_in n = length n.remarks.now.items - n.earlier

-- the note at a place after the earlier ones, with its bytes
abbrev pub note_at : {A : Type 0} → Notes A → ℕ → Option NoteValue
note_at n place = option_and_then (note_of n.datagrams.now.texts n.taken.now.texts)
    (slice_get n.remarks.now.items (n.earlier + place))

-- the datagrams that notes are about are those of all PDUs that the end made, and the telegrams are those that it took
pub record AreOf {A : Type 0} (n : Notes A) (x : EndState) : Type 0 where
  -- each PDU under its index
  pub datagrams : map (λ t. t.1) n.datagrams.now.texts ≡ datagrams_of x.settings 0 x.machine.made
  pub taken : n.taken.now.texts ≡ x.session.history.taken  -- in the order in which they were taken

-- the notes are of this end; there are none if and only if there is no end
abbrev pub AreNotes : {A : Type 0} → Option (Notes A) → Option EndState → Type 0
AreNotes None None = Unit {0}
AreNotes None (Some x) = ⊥
AreNotes (Some n) None = ⊥
AreNotes (Some n) (Some x) = AreOf n x
