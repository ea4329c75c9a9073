-- A queue of pieces, each a tag and a byte string, and what a push and a pop do to it.
use Rattle.std.specs.Prelude.{◌≡◌, ℕ, ◌+◌, ◌-◌, ◌<◌, Bool, ◌&&◌, nat_le, Option, Some, None, Result, Ok, Err, List, [], ◌∷◌, ◌++◌, length, drop}
use Rattle.end_for_callers.specs.declared.queue.TooSmall.{TooSmall}

-- a queue
pub record Queued (T : Type 0) : Type 0 where
  -- the pieces, oldest first
  pub waiting : List (T × List ℕ)
  -- the number of free places
  pub places : ℕ
  -- the number of free bytes
  pub room : ℕ

-- an empty queue with this number of places and bytes
abbrev pub new_queue : {T : Type 0} → ℕ → ℕ → Queued T
new_queue places room = record { waiting = []; places = places; room = room }

-- how many bytes the pieces have together
abbrev pub bytes_of : {T : Type 0} → List (T × List ℕ) → ℕ
bytes_of [] = 0
bytes_of (p ∷ ps) = length p.1 + bytes_of ps

-- the queue without its pieces: all places and all room are free
abbrev pub empty_queue : {T : Type 0} → Queued T → Queued T
empty_queue q = new_queue (q.places + length q.waiting) (q.room + bytes_of q.waiting)

-- a place is free, and the room for this number of bytes
abbrev pub has_place_for : {T : Type 0} → ℕ → Queued T → Bool
has_place_for size q = nat_le 1 q.places && nat_le size q.room

-- after a push: the piece is the last one, and has one place and its size of room
abbrev pub with_piece : {T : Type 0} → T × List ℕ → Queued T → Queued T
with_piece p q = record { waiting = q.waiting ++ p ∷ []; places = q.places - 1; room = q.room - length p.1 }

-- the oldest piece was fetched, with this tag and size
pub record TookOldest {T : Type 0} (tag : T) (size : ℕ) (q : Queued T) (buffer : List ℕ) (r : Queued T)
    (after : List ℕ) : Type 0 where
  -- its bytes
  pub piece : List ℕ
  -- it was the first; the others still wait
  pub oldest : q.waiting ≡ (tag, piece) ∷ r.waiting
  -- it has this size
  pub whole : length piece ≡ size
  -- the buffer starts with it and is unchanged after it
  pub written : after ≡ piece ++ drop size buffer
  -- its place is free
  pub places : r.places ≡ q.places + 1
  -- its room is free
  pub room : r.room ≡ q.room + size

-- the oldest piece has this size, and the buffer is shorter
pub record IsTooLong {T : Type 0} (needed : ℕ) (q : Queued T) (buffer : List ℕ) : Type 0 where
  -- the oldest piece
  pub oldest : T × List ℕ
  -- the other pieces
  pub others : List (T × List ℕ)
  -- they are the pieces of the queue
  pub stands : q.waiting ≡ oldest ∷ others
  -- the size is that of the oldest
  pub size : length oldest.1 ≡ needed
  -- the buffer has fewer bytes
  pub short : length buffer < needed

-- the result and the effect of a pop into a buffer; unless a piece is fetched, nothing changes
abbrev pub PopsInto : {T : Type 0} → Result (Option (T × ℕ)) TooSmall → Queued T → List ℕ → Queued T → List ℕ → Type 0
PopsInto (Ok None) q buffer r after = (q.waiting ≡ []) × (r ≡ q) × (after ≡ buffer)
PopsInto (Ok (Some (tag, size))) q buffer r after = TookOldest tag size q buffer r after
PopsInto (Err short) q buffer r after = IsTooLong short.needed q buffer × (r ≡ q) × (after ≡ buffer)
