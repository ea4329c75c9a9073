-- The effect of the exported functions on the station in a slot.
use Rattle.std.specs.Prelude.{◌≡◌, ℕ, List, []}
use Rattle.stack_end.specs.EndValue.{inside}
use Rattle.stack_end.specs.Turns.{Inside}
use Rattle.end_for_callers.specs.Calls.{SameButDatagrams, SameButTelegrams, StationValue, outbox_of}
use Rattle.end_for_callers.specs.Queues.{IsTooLong, TookOldest}

-- the oldest telegram was fetched into the buffer
abbrev pub TookTelegram : (kind size : ℕ) (buffer after : List ℕ) → StationValue → StationValue → Type 0
TookTelegram kind size buffer after s t =
    TookOldest kind size s.inbox.queue buffer t.inbox.queue after × SameButTelegrams s t

-- the oldest datagram was fetched into the buffer
abbrev pub TookDatagram : (channel size : ℕ) (buffer after : List ℕ) → StationValue → StationValue → Type 0
TookDatagram channel size buffer after s t =
    TookOldest channel size (outbox_of s).queue buffer (outbox_of t).queue after × SameButDatagrams s t

-- the result is a value of the end's state, and nothing changes
abbrev pub ReturnsFact : {R : Type 0} → (Inside → R) → R → StationValue → StationValue → Type 0
ReturnsFact answer result s t = (t ≡ s) × (result ≡ answer (inside s.end))

-- the oldest telegram is longer than the buffer: it stays, and its length is returned
abbrev pub StaysTelegram : (needed : ℕ) (buffer after : List ℕ) → StationValue → StationValue → Type 0
StaysTelegram needed buffer after s t =
    IsTooLong needed s.inbox.queue buffer × (t.inbox.queue ≡ s.inbox.queue) × (after ≡ buffer) × SameButTelegrams s t

-- the oldest datagram is longer than the buffer: it stays, and its length is returned
abbrev pub StaysDatagram : (needed : ℕ) (buffer after : List ℕ) → StationValue → StationValue → Type 0
StaysDatagram needed buffer after s t =
    IsTooLong needed (outbox_of s).queue buffer × ((outbox_of t).queue ≡ (outbox_of s).queue) × (after ≡ buffer)
    × SameButDatagrams s t

-- no telegram waits, and nothing changes
abbrev pub NoTelegram : StationValue → StationValue → Type 0
NoTelegram s t = (s.inbox.queue.waiting ≡ []) × (t.inbox.queue ≡ s.inbox.queue) × SameButTelegrams s t

-- no datagram waits, and nothing changes
abbrev pub NoDatagram : StationValue → StationValue → Type 0
NoDatagram s t = ((outbox_of s).queue.waiting ≡ []) × ((outbox_of t).queue ≡ (outbox_of s).queue) × SameButDatagrams s t
